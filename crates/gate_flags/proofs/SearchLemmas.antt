-- A binary search by name among what rises by name.
use Rattle.std.proofs.Common.{◌≡◌, ◌↔◌, inl, inr, ℕ, ◌+◌, ◌<◌, Ordering, Less, Equal, Greater, List, [], ◌∷◌, All, Any, Bool, length, map, get_or, Some, None, Ok, Err, sym, ◌∙◌, ap, arith}
use Rattle.std.specs.Ordering.{nat_cmp, is_lt, ordering_reverse}
use Rattle.std.specs.List.{AllPairs, AllByRecursion}
use Rattle.std.specs.List.Sorted.{IsStrictlySortedBy, IsSortedBy, IsBinarySearchResult}
use Rattle.std.specs.Cmp.Lexicographic.{slice_cmp}
use Rattle.std.proofs.lemmas.Bool.{cases_lt}
use Rattle.std.proofs.lemmas.Cmp.{nat_list_cmp_total, tied_itself}
use Rattle.std.proofs.lemmas.List.Elements.{All-nil, All-cons}
use Rattle.std.proofs.lemmas.List.Kept.{AllPairs-cons}
use Rattle.std.proofs.lemmas.List.Sorted.{searchable_from_sorted}
use Rattle.std.proofs.lemmas.Map.Lookups.{exact_bytes}
use Rattle.basis.proofs.OrderLemmas.{one_named}

module _ {X : Type 0} (name : X → List ℕ) where
  all_named : (k : List ℕ) (xs : List X) → AllByRecursion (λ y. slice_cmp nat_cmp k y ≡ Less) (map name xs) → All (λ y. slice_cmp nat_cmp k (name y) ≡ Less) xs
  all_named k [] h = All-nil (λ y. slice_cmp nat_cmp k (name y) ≡ Less)
  all_named k (x ∷ xs) h = All-cons (λ y. slice_cmp nat_cmp k (name y) ≡ Less) x xs h.0 (all_named k xs h.1)

  pairs_rise : (xs : List X) → IsStrictlySortedBy (slice_cmp nat_cmp) (map name xs) → AllPairs (λ x y. slice_cmp nat_cmp (name x) (name y) ≡ Less) xs
  unfolding IsStrictlySortedBy
  pairs_rise [] h = λ i j d before below. absurd (omega arith)
  pairs_rise (x ∷ xs) h = AllPairs-cons (λ a b. slice_cmp nat_cmp (name a) (name b) ≡ Less) x xs (all_named (name x) xs h.0) (pairs_rise xs h.1)

  sorted_by_name : (xs : List X) → IsStrictlySortedBy (slice_cmp nat_cmp) (map name xs) → IsSortedBy (λ a b. is_lt (slice_cmp nat_cmp (name a) (name b))) xs
  sorted_by_name xs rise = λ k d _ below.
      let before : k < k + 1 = omega arith in
      let less = pairs_rise xs rise k (k + 1) d before below in
      ap is_lt (nat_list_cmp_total.antisymm (name (get_or xs (k + 1) d)) (name (get_or xs k d)) ∙ ap ordering_reverse less)

  not_named : (key : List ℕ) (x : X) (o : Ordering) → slice_cmp nat_cmp (name x) key ≡ o → (o ≡ Equal → ⊥) → name x ≡ key → ⊥
  not_named key x o is apart same = apart (sym is ∙ ap (λ n. slice_cmp nat_cmp n key) same ∙ tied_itself nat_list_cmp_total key)

  found_by_name : (key : List ℕ) (xs : List X) (at : ℕ) (x : X) → IsBinarySearchResult (λ y. slice_cmp nat_cmp (name y) key) xs (Ok at) → x ≡ get_or xs at x → name x ≡ key
  found_by_name key xs at x found is = ap name is ∙ exact_bytes (name (get_or xs at x)) key (found x)

  pub none_by_name : (key : List ℕ) (xs : List X) (at : ℕ) → IsStrictlySortedBy (slice_cmp nat_cmp) (map name xs) → IsBinarySearchResult (λ y. slice_cmp nat_cmp (name y) key) xs (Err at) → All (λ x. name x ≡ key → ⊥) xs
  none_by_name key xs at rise searched = λ k d below.
      let parts = searched (searchable_from_sorted nat_list_cmp_total name xs key (sorted_by_name xs rise)) in
      elim (cases_lt k at) [
        | inl before ↦ not_named key (get_or xs k d) Less (parts.0 k d (omega arith) before) (λ e. cc)
        | inr after ↦ not_named key (get_or xs k d) Greater (parts.1 k d after below) (λ e. cc)
      ]

  -- where one is found at the name, its value is the only one of that name
  pub value_found : (value : X → Bool) (xs : List X) (key : List ℕ) (at : ℕ) (x : X) → IsStrictlySortedBy (slice_cmp nat_cmp) (map name xs) → at < length xs → x ≡ get_or xs at x → IsBinarySearchResult (λ y. slice_cmp nat_cmp (name y) key) xs (Ok at)
      → (v : Bool) → Some (value (get_or xs at x)) ≡ Some v ↔ Any (λ y. (name y ≡ key) × (value y ≡ v)) xs
  value_found value xs key at x rise below is found v =
      let named : name x ≡ key = found_by_name key xs at x found is in (
        λ same. let read : value (get_or xs at x) ≡ v = cc in (at, x, below, sym is, (named, ap value is ∙ read)),
        λ any. ap (λ y. Some (value y)) (sym is ∙ one_named name xs x any.1 rise (at, below, sym is) (any.0, any.2, any.3) (named ∙ sym any.4.0)) ∙ ap Some any.4.1,
      )

  pub none_valued : (value : X → Bool) (xs : List X) (key : List ℕ) → All (λ x. name x ≡ key → ⊥) xs → (v : Bool) → None ≡ Some v ↔ Any (λ x. (name x ≡ key) × (value x ≡ v)) xs
  none_valued value xs key none v = (λ clash. absurd cc, λ any. absurd (none any.0 any.1 any.2 (ap name any.3 ∙ any.4.0)))
