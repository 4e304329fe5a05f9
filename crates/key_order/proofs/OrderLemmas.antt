-- Lists in key order: what stands where.
use Rattle.std.proofs.Common.{◌≡◌, ◌≢◌, ◌⊎◌, inl, inr, ⊎_elim, ◌↔◌, ℕ, zero, suc, ◌+◌, ◌<◌, ◌≤◌, List, [], ◌∷◌, length, get_or, take, drop, Contains, refl, sym, ap, subst, ◌∙◌, arith, length-drop}
use Rattle.std.specs.Prelude.{Result, Ok, Err, IfOk, IfErr, All}
use Rattle.std.specs.List.{AllWithin}
use Rattle.std.specs.List.Sorted.{IsSortedBy, IsBinarySearchResult, IsSearchInRange}
use Rattle.std.specs.Ordering.{is_lt, ordering_reverse}
use Rattle.std.specs.declared.cmp.Ordering.{Ordering}
use Rattle.std.specs.declared.cmp.Ordering.TheVariants.{Less, Equal, Greater}
use Rattle.std.proofs.lemmas.List.{get_or-take, get_or-drop, length-take-le}
use Rattle.std.proofs.lemmas.List.Elements.{All-contains, All-weaker, All-contains_itself, Contains-append_left, Contains-append_right, Contains-append_cases, Contains-push, Contains-push_cases}
use Rattle.std.proofs.lemmas.List.Sorted.{searchable_from_sorted}
use Rattle.object_journal.specs.declared.key.Key.{Key}
use Rattle.object_journal.specs.KeyOrder.{by_key}
use Rattle.object_journal.proofs.KeyLaws.{by_key_total, exact_keys, same_or_not}
use Rattle.key_order.specs.Order.{AreInKeyOrder, HoldsKey, IsPlaceOf, IsGapOf}

-- ---- elements

pub head_there : {A : Type 0} (x : A) (xs : List A) → Contains (x ∷ xs) x
head_there x xs = Contains-append_left (x ∷ []) xs x (Contains-push [] x)

pub tail_there : {A : Type 0} (x y : A) (xs : List A) → Contains xs y → Contains (x ∷ xs) y
tail_there x y xs there = Contains-append_right (x ∷ []) xs y there

pub head_or_tail : {A : Type 0} (x y : A) (xs : List A) → Contains (x ∷ xs) y → (x ≡ y) ⊎ Contains xs y
head_or_tail x y xs there = ⊎_elim (λ one. ⊎_elim (λ none. absurd (let below = none.1 in omega (arith, below))) (λ e. inl e) (Contains-push_cases [] x y one)) (λ later. inr later) (Contains-append_cases (x ∷ []) xs y there)

pub none_there : {A : Type 0} (x : A) → Contains [] x → ⊥
none_there x there = let below = there.1 in omega (arith, below)

pub all_of : {A : Type 0} (P : A → Type 0) (xs : List A) → ((y : A) → Contains xs y → P y) → All P xs
all_of P xs each = All-weaker (Contains xs) P each xs (All-contains_itself xs)

-- ---- parts of a list

pub all_before : {A : Type 0} (P : A → Type 0) (items : List A) (i : ℕ) → i ≤ length items → AllWithin P items 0 i → All P (take i items)
all_before P items i le all k d below =
    let at : k < i = omega (arith, below, length-take-le i items le) in
    subst P (sym (get_or-take i items k d at)) (all k d (omega arith) at)

pub all_behind : {A : Type 0} (P : A → Type 0) (items : List A) (i : ℕ) → i ≤ length items → AllWithin P items i (length items) → All P (drop i items)
all_behind P items i le all k d below = subst P (sym (get_or-drop i items k d)) (all (i + k) d (omega arith) (omega (arith, below, length-drop i items, le)))

-- ---- keys

pub below_apart : (a b : Key) → by_key a b ≡ Less → a ≢ b
below_apart a b less e = let none : by_key a a ≡ Less = subst (λ (k : Key). by_key a k ≡ Less) (sym e) less in not_both (by_key a a) none (by_key_total.antisymm a a)
  where
    not_both : (o : Ordering) → o ≡ Less → o ≡ ordering_reverse o → ⊥
    not_both Less h r = absurd (let e : Less ≡ Greater = r in cc)
    not_both Equal h r = absurd (let e : Equal ≡ Less = h in cc)
    not_both Greater h r = absurd (let e : Greater ≡ Less = h in cc)

pub turned : (a b : Key) → by_key a b ≡ Greater → by_key b a ≡ Less
turned a b greater = by_key_total.antisymm b a ∙ ap ordering_reverse greater

module _ {A : Type 0} (key_of : A → Key) where
  -- ---- places

  pub in_order : (items : List A) (i j : ℕ) (d : A) → AreInKeyOrder key_of items → i < j → j < length items → by_key (key_of (get_or items i d)) (key_of (get_or items j d)) ≡ Less
  in_order [] i j d o lt below = absurd (omega (arith, below))
  in_order (r ∷ rs) zero (suc j) d o lt below = o.0 j d (omega (arith, below))
  in_order (r ∷ rs) (suc i) (suc j) d o lt below = in_order rs i j d o.1 (omega (arith, lt)) (omega (arith, below))
  in_order (r ∷ rs) i zero d o lt below = absurd (omega (arith, lt))

  pub sorted : (items : List A) → AreInKeyOrder key_of items → IsSortedBy (λ a b. is_lt (by_key (key_of a) (key_of b))) items
  sorted items o k d low high = ap is_lt (by_key_total.antisymm (key_of (get_or items (k + 1) d)) (key_of (get_or items k d)) ∙ ap ordering_reverse (in_order items k (k + 1) d o (omega arith) high))

  -- a binary search finds the place
  pub place_found : (items : List A) (key : Key) (r : Result ℕ ℕ) → IsSearchInRange r (length items) → IsBinarySearchResult (λ x. by_key (key_of x) key) items r → IfOk r (IsPlaceOf key_of items key)
  place_found items key (Ok i) within found = record { within = within; there = λ d. exact_keys _ _ (found d) }
  place_found items key (Err i) within found = tt

  -- a binary search that finds no place finds the gap
  pub gap_found : (items : List A) (key : Key) (r : Result ℕ ℕ) → AreInKeyOrder key_of items → IsSearchInRange r (length items) → IsBinarySearchResult (λ x. by_key (key_of x) key) items r → IfErr r (IsGapOf key_of items key)
  gap_found items key (Ok i) o within found = tt
  gap_found items key (Err i) o within found =
      let (below, above) = found (searchable_from_sorted by_key_total key_of items key (sorted items o)) in
      record { within = within; below = all_before (λ x. by_key (key_of x) key ≡ Less) items i within below; above = all_behind (λ x. by_key (key_of x) key ≡ Greater) items i within above }

  -- ---- the element of a key

  -- what is found is the one of its key
  pub one_of_key : (items : List A) (q r : A) → AreInKeyOrder key_of items → Contains items q → Contains items r → key_of q ≡ key_of r → q ≡ r
  one_of_key [] q r o at_q at_r e = absurd (none_there q at_q)
  one_of_key (x ∷ xs) q r o at_q at_r e = ⊎_elim
      (λ (is_q : x ≡ q). ⊎_elim
      (λ (is_r : x ≡ r). sym is_q ∙ is_r)
      (λ (later_r : Contains xs r). absurd (below_apart (key_of x) (key_of r) (All-contains (λ s. by_key (key_of x) (key_of s) ≡ Less) xs r o.0 later_r) (ap key_of is_q ∙ e)))
      (head_or_tail x r xs at_r))
      (λ (later_q : Contains xs q). ⊎_elim
      (λ (is_r : x ≡ r). absurd (below_apart (key_of x) (key_of q) (All-contains (λ s. by_key (key_of x) (key_of s) ≡ Less) xs q o.0 later_q) (ap key_of is_r ∙ sym e)))
      (λ (later_r : Contains xs r). one_of_key xs q r o.1 later_q later_r e)
      (head_or_tail x r xs at_r))
      (head_or_tail x q xs at_q)

  pub holds_or_not : (items : List A) (key : Key) → HoldsKey key_of items key ⊎ (HoldsKey key_of items key → ⊥)
  holds_or_not [] key = inr (λ h. none_there h.0 h.1)
  holds_or_not (x ∷ xs) key = ⊎_elim
      (λ is. inl (x, head_there x xs, is))
      (λ apart. ⊎_elim
      (λ h. inl (h.0, tail_there x h.0 xs h.1, h.2))
      (λ none. inr (λ h. ⊎_elim (λ e. apart (ap key_of e ∙ h.2)) (λ later. none (h.0, later, h.2)) (head_or_tail x h.0 xs h.1)))
      (holds_or_not xs key))
      (same_or_not (key_of x) key)

  -- ---- one list

  -- every key behind the head is above it
  head_below : (x y : A) (xs : List A) → AreInKeyOrder key_of (x ∷ xs) → Contains xs y → by_key (key_of x) (key_of y) ≡ Less
  head_below x y xs o there = All-contains (λ s. by_key (key_of x) (key_of s) ≡ Less) xs y o.0 there

  not_below_each_other : (a b : Key) → by_key a b ≡ Less → by_key b a ≡ Less → ⊥
  not_below_each_other a b ab ba = below_apart a a (by_key_total.trans a b a ab ba) refl

  same_heads : (x y : A) (xs ys : List A) → AreInKeyOrder key_of (x ∷ xs) → AreInKeyOrder key_of (y ∷ ys) → Contains (y ∷ ys) x → Contains (x ∷ xs) y → x ≡ y
  same_heads x y xs ys o p x_there y_there = ⊎_elim
      (λ e. sym e)
      (λ (x_later : Contains ys x). ⊎_elim
      (λ e. e)
      (λ (y_later : Contains xs y). absurd (not_below_each_other (key_of x) (key_of y) (head_below x y xs o y_later) (head_below y x ys p x_later)))
      (head_or_tail x y xs y_there))
      (head_or_tail y x ys x_there)

  tail_within : (x : A) (xs ys : List A) (q : A) → AreInKeyOrder key_of (x ∷ xs) → Contains (x ∷ ys) q → Contains xs q → Contains ys q
  tail_within x xs ys q o there late = ⊎_elim
      (λ e. absurd (below_apart (key_of x) (key_of q) (head_below x q xs o late) (ap key_of e)))
      (λ later. later)
      (head_or_tail x q ys there)

  -- lists in key order that hold the same elements are one list
  pub one_list : (xs ys : List A) → AreInKeyOrder key_of xs → AreInKeyOrder key_of ys → ((q : A) → Contains xs q ↔ Contains ys q) → xs ≡ ys
  one_list [] [] o p same = refl
  one_list [] (y ∷ ys) o p same = absurd (none_there y ((same y).1 (head_there y ys)))
  one_list (x ∷ xs) [] o p same = absurd (none_there x ((same x).0 (head_there x xs)))
  one_list (x ∷ xs) (y ∷ ys) o p same =
      let heads : x ≡ y = same_heads x y xs ys o p ((same x).0 (head_there x xs)) ((same y).1 (head_there y ys)) in
      let tails : xs ≡ ys = one_list xs ys o.1 p.1 (λ q. (
        (λ late. tail_within x xs ys q o (subst (λ (z : A). Contains (z ∷ ys) q) (sym heads) ((same q).0 (tail_there x q xs late))) late),
        (λ late. tail_within y ys xs q p (subst (λ (z : A). Contains (z ∷ xs) q) heads ((same q).1 (tail_there y q ys late))) late),
      )) in
      λ i. heads i ∷ tails i
