-- The keys of one resource, and those of one namespace of it. In a list in key order each kind is one stretch.
use Rattle.std.specs.Prelude.{◌≡◌, ◌&&◌, ℕ, ◌≤◌, Bool, true, false, List, length, AllPairs}
use Rattle.std.specs.Str.{bytes_eq}
use Rattle.std.specs.Ordering.{nat_cmp, on, then_cmp, ordering_then, is_lt, is_le}
use Rattle.std.specs.List.Sorted.{IsPartitionPoint}
use Rattle.std.specs.Cmp.Lexicographic.{slice_cmp}
use Rattle.std.specs.declared.cmp.Ordering.{Ordering}
use Rattle.std.specs.declared.cmp.Ordering.TheVariants.{Less}
use Rattle.object_journal.specs.declared.key.Key.{Key}

-- the key is one of this group and resource
abbrev pub is_of : List ℕ → List ℕ → Key → Bool
is_of group resource key = bytes_eq key.group group && bytes_eq key.resource resource

-- the key is one of this group, resource and namespace
abbrev pub is_inside : List ℕ → List ℕ → List ℕ → Key → Bool
is_inside group resource namespace key =
    is_of group resource key && bytes_eq key.namespace namespace

-- by namespace, then name, each in order of bytes
abbrev pub by_namespace : Key → Key → Ordering
by_namespace = then_cmp
    (on (λ k. k.namespace) (slice_cmp nat_cmp))
    (on (λ k. k.name) (slice_cmp nat_cmp))

-- each is below those behind it by namespace, then name
abbrev pub AreByNamespace : {A : Type 0} → (A → Key) → List A → Type 0
AreByNamespace key_of items = AllPairs (λ x y. by_namespace (key_of x) (key_of y) ≡ Less) items

-- on which side of the keys of this group and resource the key is, or whether it is one of them
abbrev pub side_of : List ℕ → List ℕ → Key → Ordering
side_of group resource key = ordering_then
    (slice_cmp nat_cmp key.group group)
    (slice_cmp nat_cmp key.resource resource)

-- on which side of the keys of this group, resource and namespace the key is, or whether it is one of them
abbrev pub side_inside : List ℕ → List ℕ → List ℕ → Key → Ordering
side_inside group resource namespace key = ordering_then
    (side_of group resource key)
    (slice_cmp nat_cmp key.namespace namespace)

-- Of elements on their sides of a stretch: where it starts, behind those before it, and where it ends, before those behind it.
pub record AreBounds {A : Type 0} (side : A → Ordering) (items : List A) (start end : ℕ)
    : Type 0 where
  pub in_turn : start ≤ end
  pub within : end ≤ length items
  pub before : IsPartitionPoint
      (λ x. is_lt (side x) ≡ true) (λ x. is_lt (side x) ≡ false) items start
  pub behind : IsPartitionPoint
      (λ x. is_le (side x) ≡ true) (λ x. is_le (side x) ≡ false) items end
