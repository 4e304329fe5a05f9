-- The elements of one resource, and those of one namespace of it, are one stretch of a list in key order.
use Rattle.std.proofs.Common.{◌≡◌, ⊎_elim, Bool, true, false, ◌&&◌, ℕ, ◌+◌, ◌-◌, ◌<◌, ◌≤◌, List, [], ◌∷◌, ◌++◌, length, get_or, take, drop, filter, refl, sym, ap, subst, ◌∙◌, arith, rules, length-drop}
use Rattle.std.specs.Prelude.{All}
use Rattle.std.specs.Str.{bytes_eq}
use Rattle.std.specs.Cmp.{IsTotalOrder}
use Rattle.std.specs.Cmp.Rules.{comparing}
use Rattle.std.specs.Cmp.Lexicographic.{slice_cmp}
use Rattle.std.specs.List.Sorted.{IsNonDecreasingBy, IsPartitionedBy, IsPartitionPoint}
use Rattle.std.specs.Ordering.{nat_cmp, on, then_cmp, ordering_then, ordering_reverse, ordering_index, is_lt, is_le, is_eq}
use Rattle.std.specs.declared.cmp.Ordering.{Ordering}
use Rattle.std.specs.declared.cmp.Ordering.TheVariants.{Less, Equal, Greater}
use Rattle.std.proofs.lemmas.Bool.{cases_lt, cond-true, cond-false}
use Rattle.std.proofs.lemmas.List.{get_or-take, get_or-drop, length-take, take-append-drop, drop-drop, append-nil}
use Rattle.std.proofs.lemmas.List.Elements.{All-head, All-tail, All-weaker, filter-append, filter_passes}
use Rattle.std.proofs.lemmas.List.Kept.{AllPairs-filter}
use Rattle.std.proofs.lemmas.List.Sorted.{searchable_from_sorted}
use Rattle.std.proofs.lemmas.Map.Text.{is_eq-slice_cmp}
use Rattle.object_journal.specs.declared.key.Key.{Key}
use Rattle.object_journal.specs.KeyOrder.{by_key}
use Rattle.key_order.specs.Order.{AreInKeyOrder}
use Rattle.key_order.specs.Stretches.{is_of, is_inside, AreByNamespace, side_of, side_inside, AreBounds}
use Rattle.key_order.proofs.OrderLemmas.{in_order, sorted, all_before, all_behind}

-- ---- sides

lt_down : (o p : Ordering) → ordering_index o ≤ ordering_index p → is_lt p ≡ true → is_lt o ≡ true
lt_down Less p le is = refl
lt_down Equal Less le is = absurd (omega (arith, le))
lt_down Equal Equal le is = is
lt_down Equal Greater le is = is
lt_down Greater Less le is = absurd (omega (arith, le))
lt_down Greater Equal le is = is
lt_down Greater Greater le is = is

le_down : (o p : Ordering) → ordering_index o ≤ ordering_index p → is_le p ≡ true → is_le o ≡ true
le_down Less p le is = refl
le_down Equal p le is = refl
le_down Greater Less le is = absurd (omega (arith, le))
le_down Greater Equal le is = absurd (omega (arith, le))
le_down Greater Greater le is = is

not_behind : (o : Ordering) → is_lt o ≡ true → is_le o ≡ false → ⊥
not_behind Less lt le = cc
not_behind Equal lt le = cc
not_behind Greater lt le = cc

before_is_apart : (o : Ordering) → is_lt o ≡ true → is_eq o ≡ false
before_is_apart Less h = refl
before_is_apart Equal h = absurd (let e : false ≡ true = h in cc)
before_is_apart Greater h = refl

between_is_there : (o : Ordering) → is_lt o ≡ false → is_le o ≡ true → is_eq o ≡ true
between_is_there Less h k = absurd (let e : true ≡ false = h in cc)
between_is_there Equal h k = refl
between_is_there Greater h k = absurd (let e : false ≡ true = k in cc)

behind_is_apart : (o : Ordering) → is_le o ≡ false → is_eq o ≡ false
behind_is_apart Less h = refl
behind_is_apart Equal h = absurd (let e : true ≡ false = h in cc)
behind_is_apart Greater h = refl

-- ---- what a test keeps

filter_all : {A : Type 0} (p : A → Bool) (xs : List A) → All (λ x. p x ≡ true) xs → filter p xs ≡ xs
filter_all p [] all = refl
filter_all p (x ∷ xs) all = cond-true (p x) (x ∷ filter p xs) (filter p xs) (All-head (λ y. p y ≡ true) x xs all) ∙ ap (λ (l : List _). x ∷ l) (filter_all p xs (All-tail (λ y. p y ≡ true) x xs all))

filter_none : {A : Type 0} (p : A → Bool) (xs : List A) → All (λ x. p x ≡ false) xs → filter p xs ≡ []
filter_none p [] all = refl
filter_none p (x ∷ xs) all = cond-false (p x) (x ∷ filter p xs) (filter p xs) (All-head (λ y. p y ≡ false) x xs all) ∙ filter_none p xs (All-tail (λ y. p y ≡ false) x xs all)

module _ {A : Type 0} (side : A → Ordering) where
  pub before_parted : (items : List A) → IsNonDecreasingBy (λ x. ordering_index (side x)) items → IsPartitionedBy (λ x. is_lt (side x)) items
  before_parted items rises i j d le below is = lt_down (side (get_or items i d)) (side (get_or items j d)) (rises i j d le below) is

  pub behind_parted : (items : List A) → IsNonDecreasingBy (λ x. ordering_index (side x)) items → IsPartitionedBy (λ x. is_le (side x)) items
  behind_parted items rises i j d le below is = le_down (side (get_or items i d)) (side (get_or items j d)) (rises i j d le below) is

  some_in : (items : List A) (i : ℕ) → i < length items → A
  some_in [] i below = absurd (omega (arith, below))
  some_in (x ∷ xs) i below = x

  abbrev StartsAt : List A → ℕ → Type 0
  StartsAt items start = IsPartitionPoint (λ x. is_lt (side x) ≡ true) (λ x. is_lt (side x) ≡ false) items start

  abbrev EndsAt : List A → ℕ → Type 0
  EndsAt items end = IsPartitionPoint (λ x. is_le (side x) ≡ true) (λ x. is_le (side x) ≡ false) items end

  starts_first : (items : List A) (start end : ℕ) → start ≤ length items → StartsAt items start → EndsAt items end → start ≤ end
  starts_first items start end within before behind = ⊎_elim
      (λ (back : end < start).
      let below : end < length items = omega (arith, back, within) in
      let d = some_in items end below in
      absurd (not_behind (side (get_or items end d)) (before.0 end d (omega arith) back) (behind.1 end d (omega arith) below)))
      (λ turn. turn)
      (cases_lt end start)

  pub bounds : (items : List A) (start end : ℕ) → start ≤ length items → end ≤ length items → StartsAt items start → EndsAt items end → AreBounds side items start end
  bounds items start end starts_within ends_within before behind = record {
    in_turn = starts_first items start end starts_within before behind;
    within = ends_within;
    before = before;
    behind = behind;
  }

  middle : (items : List A) (start end : ℕ) → AreBounds side items start end → (p : A → Bool) → ((x : A) → p x ≡ is_eq (side x)) → All (λ x. p x ≡ true) (take (end - start) (drop start items))
  middle items start end b p is k d below =
      let short : k < end - start = omega (arith, below, length-take (end - start) (drop start items)) in
      let long : k < length (drop start items) = omega (arith, below, length-take (end - start) (drop start items)) in
      let within : start + k < length items = omega (arith, long, length-drop start items) in
      let x = get_or items (start + k) d in
      let at : get_or (take (end - start) (drop start items)) k d ≡ x = get_or-take (end - start) (drop start items) k d short ∙ get_or-drop start items k d in
      subst (λ (y : A). p y ≡ true) (sym at) (is x ∙ between_is_there (side x) (b.before.1 (start + k) d (omega arith) within) (b.behind.0 (start + k) d (omega arith) (omega (arith, short))))

  -- what the bounds part off is what the test keeps
  pub stretch : (items : List A) (start end : ℕ) → AreBounds side items start end → (p : A → Bool) → ((x : A) → p x ≡ is_eq (side x)) → take (end - start) (drop start items) ≡ filter p items
  stretch items start end b p is =
      let n = end - start in
      let turn = b.in_turn in
      let starts_within : start ≤ length items = omega (arith, b.in_turn, b.within) in
      let front = filter_none p (take start items) (All-weaker (λ x. is_lt (side x) ≡ true) (λ x. p x ≡ false) (λ x lt. is x ∙ before_is_apart (side x) lt) (take start items) (all_before (λ x. is_lt (side x) ≡ true) items start starts_within b.before.0)) in
      let mid = filter_all p (take n (drop start items)) (middle items start end b p is) in
      let rest_is : drop n (drop start items) ≡ drop end items = drop-drop n start items ∙ ap (λ (m : ℕ). drop m items) (let e : start + n ≡ end = omega (arith, turn) in e) in
      let back = ap (filter p) rest_is ∙ filter_none p (drop end items) (All-weaker (λ x. is_le (side x) ≡ false) (λ x. p x ≡ false) (λ x le. is x ∙ behind_is_apart (side x) le) (drop end items) (all_behind (λ x. is_le (side x) ≡ false) items end b.within b.behind.1)) in
      let late : filter p (drop start items) ≡ take n (drop start items) =
      ap (filter p) (sym (take-append-drop n (drop start items))) ∙ filter-append p (take n (drop start items)) (drop n (drop start items)) ∙ (λ i. mid i ++ back i) ∙ append-nil (take n (drop start items)) in
      let whole : filter p items ≡ take n (drop start items) =
      ap (filter p) (sym (take-append-drop start items)) ∙ filter-append p (take start items) (drop start items) ∙ (λ i. front i ++ late i) in
      sym whole

-- ---- orders by the first parts of a key

abbrev by_resource : Key → Key → Ordering
by_resource = then_cmp (on (λ k. k.group) (slice_cmp nat_cmp)) (on (λ k. k.resource) (slice_cmp nat_cmp))

abbrev by_place : Key → Key → Ordering
by_place = then_cmp by_resource (on (λ k. k.namespace) (slice_cmp nat_cmp))

by_resource_total : IsTotalOrder by_resource
by_resource_total = search (comparing, rules)

by_place_total : IsTotalOrder by_place
by_place_total = search (comparing, rules)

first_not_less : (o p : Ordering) → is_lt (ordering_then o p) ≡ false → is_lt o ≡ false
first_not_less Less p h = h
first_not_less Equal p h = refl
first_not_less Greater p h = refl

-- a key of these parts
abbrev beginning : List ℕ → List ℕ → List ℕ → Key
beginning group resource namespace = record { group = group; resource = resource; namespace = namespace; name = [] }

module _ {A : Type 0} (key_of : A → Key) where
  pub sides_rise : (items : List A) (group resource : List ℕ) → AreInKeyOrder key_of items → IsNonDecreasingBy (λ x. ordering_index (side_of group resource (key_of x))) items
  sides_rise items group resource o = searchable_from_sorted by_resource_total key_of items (beginning group resource [])
      (λ k d low high. first_not_less (by_resource (key_of (get_or items (k + 1) d)) (key_of (get_or items k d))) _ (first_not_less (by_place (key_of (get_or items (k + 1) d)) (key_of (get_or items k d))) _ (sorted key_of items o k d low high)))

  pub sides_inside_rise : (items : List A) (group resource namespace : List ℕ) → AreInKeyOrder key_of items → IsNonDecreasingBy (λ x. ordering_index (side_inside group resource namespace (key_of x))) items
  sides_inside_rise items group resource namespace o = searchable_from_sorted by_place_total key_of items (beginning group resource namespace)
      (λ k d low high. first_not_less (by_place (key_of (get_or items (k + 1) d)) (key_of (get_or items k d))) _ (sorted key_of items o k d low high))

-- ---- tests and sides

both_equal : (o p : Ordering) → is_eq (ordering_then o p) ≡ (is_eq o && is_eq p)
both_equal Less p = refl
both_equal Equal p = refl
both_equal Greater p = refl

pub is_of_by_side : (group resource : List ℕ) (key : Key) → is_of group resource key ≡ is_eq (side_of group resource key)
is_of_by_side group resource key = sym (both_equal (slice_cmp nat_cmp key.group group) (slice_cmp nat_cmp key.resource resource) ∙ (λ i. is_eq-slice_cmp key.group group i && is_eq-slice_cmp key.resource resource i))

pub is_inside_by_side : (group resource namespace : List ℕ) (key : Key) → is_inside group resource namespace key ≡ is_eq (side_inside group resource namespace key)
is_inside_by_side group resource namespace key = sym (both_equal (side_of group resource key) (slice_cmp nat_cmp key.namespace namespace) ∙ (λ i. sym (is_of_by_side group resource key) i && is_eq-slice_cmp key.namespace namespace i))

-- ---- the order of those of one resource

is_equal : (o : Ordering) → is_eq o ≡ true → o ≡ Equal
is_equal Less h = absurd (let e : false ≡ true = h in cc)
is_equal Equal h = refl
is_equal Greater h = absurd (let e : false ≡ true = h in cc)

reversed_equal : (o p : Ordering) → o ≡ ordering_reverse p → p ≡ Equal → o ≡ Equal
reversed_equal o p e is = e ∙ ap ordering_reverse is

-- keys of one resource
one_resource : (group resource : List ℕ) (a b : Key) → is_of group resource a ≡ true → is_of group resource b ≡ true → by_resource a b ≡ Equal
one_resource group resource a b is_a is_b =
    let at_a : by_resource a (beginning group resource []) ≡ Equal = is_equal _ (sym (is_of_by_side group resource a) ∙ is_a) in
    let at_b : by_resource b (beginning group resource []) ≡ Equal = is_equal _ (sym (is_of_by_side group resource b) ∙ is_b) in
    by_resource_total.congr a (beginning group resource []) b at_a ∙ reversed_equal _ _ (by_resource_total.antisymm (beginning group resource []) b) at_b

then_less : (r n m : Ordering) → r ≡ Equal → ordering_then (ordering_then r n) m ≡ Less → ordering_then n m ≡ Less
then_less Less n m e h = absurd (let f : Less ≡ Equal = e in cc)
then_less Equal n m e h = h
then_less Greater n m e h = absurd (let f : Greater ≡ Equal = e in cc)

both_true : (a b : Bool) → (a && b) ≡ true → a ≡ true
both_true true b h = refl
both_true false b h = h

-- elements of one resource stand by namespace, then name
by_namespace_of : {A : Type 0} (key_of : A → Key) (items : List A) (group resource : List ℕ) (p : A → Bool) → ((x : A) → p x ≡ true → is_of group resource (key_of x) ≡ true) → AreInKeyOrder key_of items → AreByNamespace key_of (filter p items)
by_namespace_of key_of items group resource p one o i j d lt below =
    let xs = filter p items in
    let passes = filter_passes p items in
    let pairs = AllPairs-filter (λ x y. by_key (key_of x) (key_of y) ≡ Less) p items (λ i j d lt below. in_order key_of items i j d o lt below) in
    let x = get_or xs i d in
    let y = get_or xs j d in
    then_less (by_resource (key_of x) (key_of y)) _ _ (one_resource group resource (key_of x) (key_of y) (one x (passes i d (omega (arith, lt, below)))) (one y (passes j d below))) (pairs i j d lt below)

-- all those of one resource do
pub by_namespace_then_name : {A : Type 0} (key_of : A → Key) (items : List A) (group resource : List ℕ) → AreInKeyOrder key_of items → AreByNamespace key_of (filter (λ x. is_of group resource (key_of x)) items)
by_namespace_then_name key_of items group resource o = by_namespace_of key_of items group resource (λ x. is_of group resource (key_of x)) (λ x is. is) o

-- those of one namespace of it do
pub inside_by_name : {A : Type 0} (key_of : A → Key) (items : List A) (group resource namespace : List ℕ) → AreInKeyOrder key_of items → AreByNamespace key_of (filter (λ x. is_inside group resource namespace (key_of x)) items)
inside_by_name key_of items group resource namespace o = by_namespace_of key_of items group resource (λ x. is_inside group resource namespace (key_of x))
    (λ x is. both_true (is_of group resource (key_of x)) (bytes_eq (key_of x).namespace namespace) is) o
