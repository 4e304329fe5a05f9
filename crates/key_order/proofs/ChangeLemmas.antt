-- What edits of a list in key order leave: a change of one key.
use Rattle.std.proofs.Common.{◌≡◌, ◌≢◌, ◌⊎◌, inl, inr, ⊎_elim, ◌↔◌, ℕ, suc, ◌<◌, List, [], ◌∷◌, ◌++◌, length, get_or, set, take, drop, Contains, sym, ap, subst, ◌∙◌, arith, drop-cons, length-set, get_or-set_same}
use Rattle.std.specs.Prelude.{All, insert, remove, Option, Some, None, Result, Ok, Err, IsOk, is_ok, if◌then◌else◌}
use Rattle.std.specs.declared.cmp.Ordering.TheVariants.{Less, Greater}
use Rattle.std.proofs.lemmas.List.{take-append-drop, take-set, drop-set-lt}
use Rattle.std.proofs.lemmas.List.Elements.{All-nil, All-cons, All-head, All-tail, All-append, All-weaker, All-contains, Contains-append_left, Contains-append_right, Contains-append_cases}
use Rattle.std.proofs.lemmas.Bool.{false≢true}
use Rattle.object_journal.specs.declared.key.Key.{Key}
use Rattle.object_journal.specs.KeyOrder.{by_key}
use Rattle.object_journal.proofs.KeyLaws.{by_key_total}
use Rattle.key_order.specs.Order.{AreInKeyOrder, HoldsKey, IsPlaceOf, IsGapOf, IsChanged}
use Rattle.key_order.proofs.OrderLemmas.{head_there, tail_there, head_or_tail, all_of, below_apart, turned, one_list}

-- ---- elements

all_left : {A : Type 0} (P : A → Type 0) (xs ys : List A) → All P (xs ++ ys) → All P xs
all_left P xs ys all = all_of P xs (λ y there. All-contains P (xs ++ ys) y all (Contains-append_left xs ys y there))

all_right : {A : Type 0} (P : A → Type 0) (xs ys : List A) → All P (xs ++ ys) → All P ys
all_right P xs ys all = all_of P ys (λ y there. All-contains P (xs ++ ys) y all (Contains-append_right xs ys y there))

middle_there : {A : Type 0} (xs ys : List A) (x y : A) → Contains (xs ++ x ∷ ys) y → (x ≡ y) ⊎ Contains (xs ++ ys) y
middle_there xs ys x y there = ⊎_elim (λ early. inr (Contains-append_left xs ys y early)) (λ late. ⊎_elim (λ e. inl e) (λ later. inr (Contains-append_right xs ys y later)) (head_or_tail x y ys late)) (Contains-append_cases xs (x ∷ ys) y there)

there_middle : {A : Type 0} (xs ys : List A) (x y : A) → Contains (xs ++ ys) y → Contains (xs ++ x ∷ ys) y
there_middle xs ys x y there = ⊎_elim (λ early. Contains-append_left xs (x ∷ ys) y early) (λ late. Contains-append_right xs (x ∷ ys) y (tail_there x y ys late)) (Contains-append_cases xs ys y there)

itself_there : {A : Type 0} (xs ys : List A) (x : A) → Contains (xs ++ x ∷ ys) x
itself_there xs ys x = Contains-append_right xs (x ∷ ys) x (head_there x ys)

some_is : {A : Type 0} (x y : A) → Some x ≡ Some y → x ≡ y
some_is x y e = cc

none_is_some : {A : Type 0} (x : A) → None ≡ Some x → ⊥
none_is_some x e = cc

-- what an insert leaves that had room
pub ok_gives : {T E A : Type 0} (r : Result T E) (new a b : A) → IsOk r → new ≡ (if is_ok r then a else b) → new ≡ a
ok_gives (Ok x) new a b ok is = is
ok_gives (Err e) new a b ok is = absurd (false≢true ok)

split_at_place : {A : Type 0} (items : List A) (i : ℕ) (d : A) → i < length items → items ≡ take i items ++ get_or items i d ∷ drop (suc i) items
split_at_place items i d below = sym (take-append-drop i items) ∙ ap (λ (l : List _). take i items ++ l) (drop-cons items i d below)

set_parts : {A : Type 0} (items : List A) (i : ℕ) (r : A) → i < length items → set items i r ≡ take i items ++ r ∷ drop (suc i) items
set_parts items i r below =
    let long : i < length (set items i r) = subst (λ (n : ℕ). i < n) (sym (length-set items i r)) below in
    split_at_place (set items i r) i r long ∙ (λ j. take-set items i r j ++ get_or-set_same items i r r below j ∷ drop-set-lt (suc i) items i r (omega arith) j)

put_in : {A : Type 0} (items : List A) (i : ℕ) → i < length items → A
put_in [] i below = absurd (omega (arith, below))
put_in (r ∷ rs) i below = r

module _ {A : Type 0} (key_of : A → Key) where
  -- ---- order

  -- each of these is below each of those
  abbrev AreBelow : List A → List A → Type 0
  AreBelow front back = All (λ f. All (λ b. by_key (key_of f) (key_of b) ≡ Less) back) front

  record Parted (low high : List A) : Type 0 where
    front : AreInKeyOrder key_of low
    back : AreInKeyOrder key_of high
    below : AreBelow low high

  parted : (front back : List A) → AreInKeyOrder key_of (front ++ back) → Parted front back
  parted [] back o = record { front = tt; back = o; below = All-nil (λ f. All (λ b. by_key (key_of f) (key_of b) ≡ Less) back) }
  parted (f ∷ front) back o = let p = parted front back o.1 in record {
    front = (all_left (λ s. by_key (key_of f) (key_of s) ≡ Less) front back o.0, p.front);
    back = p.back;
    below = All-cons (λ f. All (λ b. by_key (key_of f) (key_of b) ≡ Less) back) f front (all_right (λ s. by_key (key_of f) (key_of s) ≡ Less) front back o.0) p.below;
  }

  joined : (front back : List A) → Parted front back → AreInKeyOrder key_of (front ++ back)
  joined [] back p = p.back
  joined (f ∷ front) back p = (
    All-append (λ s. by_key (key_of f) (key_of s) ≡ Less) front back p.front.0 (All-head (λ f. All (λ b. by_key (key_of f) (key_of b) ≡ Less) back) f front p.below),
    joined front back (record { front = p.front.1; back = p.back; below = All-tail (λ f. All (λ b. by_key (key_of f) (key_of b) ≡ Less) back) f front p.below }),
  )

  -- ---- elements round a key

  record Around (low : List A) (key : Key) (high : List A) : Type 0 where
    front : AreInKeyOrder key_of low
    back : AreInKeyOrder key_of high
    below : All (λ r. by_key (key_of r) key ≡ Less) low
    above : All (λ r. by_key key (key_of r) ≡ Less) high

  around_apart : (front back : List A) (key : Key) (q : A) → Around front key back → Contains (front ++ back) q → key_of q ≢ key
  around_apart front back key q a there = ⊎_elim
      (λ early. below_apart (key_of q) key (All-contains (λ r. by_key (key_of r) key ≡ Less) front q a.below early))
      (λ late e. below_apart key (key_of q) (All-contains (λ r. by_key key (key_of r) ≡ Less) back q a.above late) (sym e))
      (Contains-append_cases front back q there)

  without : (front back : List A) (key : Key) → Around front key back → AreInKeyOrder key_of (front ++ back)
  without front back key a = joined front back (record {
    front = a.front;
    back = a.back;
    below = All-weaker (λ r. by_key (key_of r) key ≡ Less) (λ f. All (λ b. by_key (key_of f) (key_of b) ≡ Less) back) (λ f less. All-weaker (λ r. by_key key (key_of r) ≡ Less) (λ b. by_key (key_of f) (key_of b) ≡ Less) (λ b more. by_key_total.trans (key_of f) key (key_of b) less more) back a.above) front a.below;
  })

  with_it : (front back : List A) (key : Key) (r : A) → key_of r ≡ key → Around front key back → AreInKeyOrder key_of (front ++ r ∷ back)
  with_it front back key r is a =
      let p = parted front back (without front back key a) in
      joined front (r ∷ back) (record {
        front = a.front;
        back = (subst (λ (k : Key). All (λ s. by_key k (key_of s) ≡ Less) back) (sym is) a.above, a.back);
        below = all_of (λ f. All (λ b. by_key (key_of f) (key_of b) ≡ Less) (r ∷ back)) front (λ f there. All-cons (λ b. by_key (key_of f) (key_of b) ≡ Less) r back
            (subst (λ (k : Key). by_key (key_of f) k ≡ Less) (sym is) (All-contains (λ r. by_key (key_of r) key ≡ Less) front f a.below there))
            (All-contains (λ f. All (λ b. by_key (key_of f) (key_of b) ≡ Less) back) front f p.below there));
      })

  -- the elements of other keys
  abbrev AreOthers : List A → Key → List A → Type 0
  AreOthers old key others = (q : A) → ((key_of q ≢ key) × Contains old q) ↔ Contains others q

  gap_around : (items : List A) (key : Key) (i : ℕ) → AreInKeyOrder key_of items → IsGapOf key_of items key i → Around (take i items) key (drop i items)
  gap_around items key i o gap = let p = parted (take i items) (drop i items) (subst (AreInKeyOrder key_of) (sym (take-append-drop i items)) o) in record {
    front = p.front;
    back = p.back;
    below = gap.below;
    above = All-weaker (λ r. by_key (key_of r) key ≡ Greater) (λ r. by_key key (key_of r) ≡ Less) (λ r greater. turned (key_of r) key greater) (drop i items) gap.above;
  }

  gap_others : (items : List A) (key : Key) (i : ℕ) → AreInKeyOrder key_of items → IsGapOf key_of items key i → AreOthers items key (take i items ++ drop i items)
  gap_others items key i o gap q =
      let whole = take-append-drop i items in
      let a = gap_around items key i o gap in (
        (λ both. subst (λ (l : List A). Contains l q) (sym whole) both.1),
        (λ there. (around_apart (take i items) (drop i items) key q a there, subst (λ (l : List A). Contains l q) whole there)),
      )

  place_around : (items : List A) (key : Key) (i : ℕ) (d : A) → AreInKeyOrder key_of items → IsPlaceOf key_of items key i → Around (take i items) key (drop (suc i) items)
  place_around items key i d o place =
      let x = get_or items i d in
      let is : key_of x ≡ key = place.there d in
      let p = parted (take i items) (x ∷ drop (suc i) items) (subst (AreInKeyOrder key_of) (split_at_place items i d place.within) o) in
      record {
        front = p.front;
        back = p.back.1;
        below = All-weaker (λ f. All (λ b. by_key (key_of f) (key_of b) ≡ Less) (x ∷ drop (suc i) items)) (λ r. by_key (key_of r) key ≡ Less)
            (λ f all. subst (λ (k : Key). by_key (key_of f) k ≡ Less) is (All-head (λ b. by_key (key_of f) (key_of b) ≡ Less) x (drop (suc i) items) all)) (take i items) p.below;
        above = subst (λ (k : Key). All (λ s. by_key k (key_of s) ≡ Less) (drop (suc i) items)) is p.back.0;
      }

  place_others : (items : List A) (key : Key) (i : ℕ) (d : A) → AreInKeyOrder key_of items → IsPlaceOf key_of items key i → AreOthers items key (take i items ++ drop (suc i) items)
  place_others items key i d o place q =
      let x = get_or items i d in
      let is : key_of x ≡ key = place.there d in
      let whole = split_at_place items i d place.within in
      let a = place_around items key i d o place in (
        (λ both. ⊎_elim (λ e. absurd (both.0 (ap key_of (sym e) ∙ is))) (λ there. there) (middle_there (take i items) (drop (suc i) items) x q (subst (λ (l : List A). Contains l q) whole both.1))),
        (λ there. (around_apart (take i items) (drop (suc i) items) key q a there, subst (λ (l : List A). Contains l q) (sym whole) (there_middle (take i items) (drop (suc i) items) x q there))),
      )

  -- ---- changes

  put_changes : (old front back : List A) (key : Key) (r : A) → key_of r ≡ key → Around front key back → AreOthers old key (front ++ back) → IsChanged key_of old key (Some r) (front ++ r ∷ back)
  put_changes old front back key r is a others = record {
    order = with_it front back key r is a;
    exact = λ q. (
      (λ there. ⊎_elim (λ e. inl (ap key_of (sym e) ∙ is, ap Some e)) (λ other. inr ((others q).1 other)) (middle_there front back r q there)),
      ⊎_elim (λ both. subst (Contains (front ++ r ∷ back)) (some_is r q both.1) (itself_there front back r)) (λ both. there_middle front back r q ((others q).0 both)),
    );
  }

  removal_changes : (old front back : List A) (key : Key) → Around front key back → AreOthers old key (front ++ back) → IsChanged key_of old key None (front ++ back)
  removal_changes old front back key a others = record {
    order = without front back key a;
    exact = λ q. ((λ there. inr ((others q).1 there)), ⊎_elim (λ both. absurd (none_is_some q both.1)) (λ both. (others q).0 both));
  }

  -- ---- what the edits of a list leave

  -- an element that is put over the one of its key
  pub put_in_place : (items new : List A) (key : Key) (r : A) (i : ℕ) → key_of r ≡ key → AreInKeyOrder key_of items → IsPlaceOf key_of items key i → new ≡ set items i r → IsChanged key_of items key (Some r) new
  put_in_place items new key r i of_key o place is =
      subst (IsChanged key_of items key (Some r)) (sym (is ∙ set_parts items i r place.within)) (put_changes items (take i items) (drop (suc i) items) key r of_key (place_around items key i r o place) (place_others items key i r o place))

  -- an element that is inserted in the gap of its key
  pub put_in_gap : (items new : List A) (key : Key) (r : A) (i : ℕ) → key_of r ≡ key → AreInKeyOrder key_of items → IsGapOf key_of items key i → new ≡ insert items i r → IsChanged key_of items key (Some r) new
  put_in_gap items new key r i of_key o gap is =
      subst (IsChanged key_of items key (Some r)) (sym is) (put_changes items (take i items) (drop i items) key r of_key (gap_around items key i o gap) (gap_others items key i o gap))

  -- the element of a key that is taken out
  pub removed_from_place : (items new : List A) (key : Key) (i : ℕ) → AreInKeyOrder key_of items → IsPlaceOf key_of items key i → new ≡ remove items i → IsChanged key_of items key None new
  removed_from_place items new key i o place is =
      let d = put_in items i place.within in
      subst (IsChanged key_of items key None) (sym is) (removal_changes items (take i items) (drop (suc i) items) key (place_around items key i d o place) (place_others items key i d o place))

  -- nothing is taken out where nothing is of the key
  pub removed_from_gap : (items : List A) (key : Key) (i : ℕ) → AreInKeyOrder key_of items → IsGapOf key_of items key i → IsChanged key_of items key None items
  removed_from_gap items key i o gap =
      subst (IsChanged key_of items key None) (take-append-drop i items) (removal_changes items (take i items) (drop i items) key (gap_around items key i o gap) (gap_others items key i o gap))

  -- no element is of a key that has a gap
  pub key_not_there : (items : List A) (key : Key) (i : ℕ) → AreInKeyOrder key_of items → IsGapOf key_of items key i → HoldsKey key_of items key → ⊥
  key_not_there items key i o gap held =
      around_apart (take i items) (drop i items) key held.0 (gap_around items key i o gap) (subst (λ (l : List A). Contains l held.0) (sym (take-append-drop i items)) held.1) held.2

  -- the element of a key that has a place
  pub key_there : (items : List A) (key : Key) (i : ℕ) → IsPlaceOf key_of items key i → HoldsKey key_of items key
  key_there items key i place =
      let d = put_in items i place.within in
      let x = get_or items i d in
      (x, subst (λ (l : List A). Contains l x) (sym (split_at_place items i d place.within)) (itself_there (take i items) (drop (suc i) items) x), place.there d)

  -- ---- laws of a change

  -- a change leaves one list
  pub one_change : (old xs ys : List A) (key : Key) (after : Option A) → IsChanged key_of old key after xs → IsChanged key_of old key after ys → xs ≡ ys
  one_change old xs ys key after p q = one_list key_of xs ys p.order q.order (λ x. (λ there. (q.exact x).1 ((p.exact x).0 there), λ there. (p.exact x).1 ((q.exact x).0 there)))
