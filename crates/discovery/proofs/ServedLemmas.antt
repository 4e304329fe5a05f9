-- The served versions of a view stand in order of their groups; and where some version passes a test.
use Rattle.std.proofs.Common.{◌≡◌, ◌≢◌, Ordering, Less, Equal, Greater, List, [], ◌∷◌, inl, inr}
use Rattle.std.specs.Cmp.Lexicographic.{slice_cmp}
use Rattle.std.specs.Ordering.{nat_cmp, ordering_then}
use Rattle.std.specs.List.{AllByRecursion}
use Rattle.std.proofs.lemmas.Map.Keys.{sorted_head, sorted_tail}
use Rattle.std.proofs.lemmas.Bool.{cases_Bool}
use Rattle.release_view.specs.Known.{AreInPlace, by_place}
use Rattle.release_view.specs.Served.{served_of}
use Rattle.release_view.specs.declared.known.KnownVersion.{KnownVersion}
use Rattle.release_view.specs.declared.served.ServedVersion.{ServedVersion}
use Rattle.discovery.specs.Order.{GroupsRise}

not_greater : (o p q : Ordering) → ordering_then (ordering_then o p) q ≡ Less → o ≡ Greater → ⊥
not_greater Less p q h e = let clash : Less ≡ Greater = e in cc
not_greater Equal p q h e = let clash : Equal ≡ Greater = e in cc
not_greater Greater p q h e = let clash : Greater ≡ Less = h in cc

module _ (x : KnownVersion) where
  later : (xs : List KnownVersion) → AllByRecursion (λ y. by_place x y ≡ Less) xs → AllByRecursion (λ (s : ServedVersion). slice_cmp nat_cmp x.table.group s.group ≢ Greater) (served_of xs)
  later [] h = tt
  later (y ∷ ys) h = elim (cases_Bool y.served) [
    | inl on ↦ rw on ((λ e. not_greater _ _ _ h.0 e), later ys h.1)
    | inr off ↦ rw off (later ys h.1)
  ]

pub groups_rise : (versions : List KnownVersion) → AreInPlace versions → GroupsRise (served_of versions)
groups_rise [] h = tt
groups_rise (x ∷ xs) h = elim (cases_Bool x.served) [
  | inl on ↦ rw on (later x xs (sorted_head by_place x xs h), groups_rise xs (sorted_tail by_place x xs h))
  | inr off ↦ rw off (groups_rise xs (sorted_tail by_place x xs h))
]
