-- Pairs in order, and what a change at a place leaves.
use Rattle.std.proofs.Common.{◌≡◌, ◌≢◌, ℕ, zero, suc, take, drop, set, Result, Bool, true, false, cond, List, [], ◌∷◌, ◌++◌, map, Option, Some, None, Ordering, Less, Equal, Greater, nat_cmp, refl, sym, ◌∙◌, ap, ap₂, subst, bytes_eq, true≢false}
use Rattle.std.proofs.lemmas.Cmp.{nat_list_cmp_total, tied_itself}
use Rattle.std.proofs.lemmas.Map.Lookups.{exact_bytes}
use Rattle.std.proofs.lemmas.Slice.Eq.{bytes_eq-Decides}
use Rattle.std.specs.Cmp.Lexicographic.{slice_cmp}
use Rattle.std.specs.List.{AllByRecursion, slice_get}
use Rattle.std.specs.List.{insert, remove}
use Rattle.std.proofs.lemmas.List.{take-append-drop, set_split}
use Rattle.std.proofs.lemmas.Option.{slice_get_within}
use Rattle.std.proofs.lemmas.List.Elements.{recursion_from_All}
use Rattle.std.specs.List.Sorted.{IsStrictlySortedBy}
use Rattle.std.specs.Ordering.{ordering_reverse}
use Rattle.fields.specs.Order.{IsBelow, Rises}
use Rattle.fields.specs.Map.{IsMap, value_at, IsChangedAt}
use Rattle.fields.specs.Places.{AreBelow, IsAt, IsBefore, IsPlaceOf}
use Rattle.fields.specs.declared.map.FieldPair.{FieldPair}
use Rattle.fields.specs.declared.value.FieldValue.{FieldValue}

-- what stands after a text has it before itself
pub flip : (a b : List ℕ) → slice_cmp nat_cmp a b ≡ Greater → IsBelow b a
flip a b h = nat_list_cmp_total.antisymm b a ∙ ap ordering_reverse h

below_chain : (a b c : List ℕ) → IsBelow a b → IsBelow b c → IsBelow a c
below_chain a b c h k = nat_list_cmp_total.trans a b c h k

pub below_differs : (a b : List ℕ) → IsBelow a b → a ≢ b
below_differs a b h same = let e : slice_cmp nat_cmp b b ≡ Equal = tied_itself nat_list_cmp_total b in let g = subst (λ t. IsBelow t b) same h in cc

differs : (a b : List ℕ) → a ≢ b → bytes_eq a b ≡ false
differs a b h = by (bytes_eq a b) refl
  where
    by : (t : Bool) → bytes_eq a b ≡ t → t ≡ false
    by true e = absurd (h ((bytes_eq-Decides a b).0 e))
    by false e = refl

agrees : (a : List ℕ) → bytes_eq a a ≡ true
agrees a = (bytes_eq-Decides a a).1 refl

-- ---- texts that rise

abbrev pub AllAbove : List ℕ → List (List ℕ) → Type 0
AllAbove x ts = AllByRecursion (λ t. IsBelow x t) ts

abbrev pub AllBelow : List ℕ → List (List ℕ) → Type 0
AllBelow x ts = AllByRecursion (λ t. IsBelow t x) ts

pub above_chain : (a b : List ℕ) (ts : List (List ℕ)) → IsBelow a b → AllAbove b ts → AllAbove a ts
above_chain a b [] h k = tt
above_chain a b (t ∷ ts) h k = (below_chain a b t h k.0, above_chain a b ts h k.1)

above_insert : (t x : List ℕ) (front rest : List (List ℕ)) → IsBelow t x → AllAbove t (front ++ rest) → AllAbove t (front ++ x ∷ rest)
above_insert t x [] rest h k = (h, k)
above_insert t x (s ∷ front) rest h k = (k.0, above_insert t x front rest h k.1)

above_remove : (t x : List ℕ) (front rest : List (List ℕ)) → AllAbove t (front ++ x ∷ rest) → AllAbove t (front ++ rest)
above_remove t x [] rest k = k.1
above_remove t x (s ∷ front) rest k = (k.0, above_remove t x front rest k.1)

above_middle : (t x : List ℕ) (front rest : List (List ℕ)) → AllAbove t (front ++ x ∷ rest) → IsBelow t x
above_middle t x [] rest k = k.0
above_middle t x (s ∷ front) rest k = above_middle t x front rest k.1

pub rises_insert : (front rest : List (List ℕ)) (x : List ℕ) → Rises (front ++ rest) → AllBelow x front → AllAbove x rest → Rises (front ++ x ∷ rest)
unfolding IsStrictlySortedBy
rises_insert [] rest x up below above = (above, up)
rises_insert (t ∷ front) rest x up below above = (above_insert t x front rest below.0 up.0, rises_insert front rest x up.1 below.1 above)

pub rises_remove : (front rest : List (List ℕ)) (x : List ℕ) → Rises (front ++ x ∷ rest) → Rises (front ++ rest)
unfolding IsStrictlySortedBy
rises_remove [] rest x up = up.1
rises_remove (t ∷ front) rest x up = (above_remove t x front rest up.0, rises_remove front rest x up.1)

pub rises_after : (front rest : List (List ℕ)) (x : List ℕ) → Rises (front ++ x ∷ rest) → AllAbove x rest
unfolding IsStrictlySortedBy
rises_after [] rest x up = up.0
rises_after (t ∷ front) rest x up = rises_after front rest x up.1

pub rises_before : (front rest : List (List ℕ)) (x : List ℕ) → Rises (front ++ x ∷ rest) → AllBelow x front
unfolding IsStrictlySortedBy
rises_before [] rest x up = tt
rises_before (t ∷ front) rest x up = (above_middle t x front rest up.0, rises_before front rest x up.1)

pub rises_front : (front rest : List (List ℕ)) → Rises (front ++ rest) → Rises front
unfolding IsStrictlySortedBy
rises_front [] rest up = tt
rises_front (t ∷ front) rest up = (above_front t front rest up.0, rises_front front rest up.1)
  where
    above_front : (t : List ℕ) (front rest : List (List ℕ)) → AllAbove t (front ++ rest) → AllAbove t front
    above_front t [] rest k = tt
    above_front t (s ∷ front) rest k = (k.0, above_front t front rest k.1)

-- ---- look-ups

abbrev pub ids : List FieldPair → List (List ℕ)
ids pairs = map (λ p. p.id) pairs

pub value_at-here : (p : FieldPair) (rest : List FieldPair) → value_at (p ∷ rest) p.id ≡ Some p.value
value_at-here p rest = rw (agrees p.id)

pub value_at-other : (p : FieldPair) (rest : List FieldPair) (q : List ℕ) → q ≢ p.id → value_at (p ∷ rest) q ≡ value_at rest q
value_at-other p rest q other = rw (differs p.id q (λ e. other (sym e)))

pub value_at-front : (front a b : List FieldPair) (q : List ℕ) → value_at a q ≡ value_at b q → value_at (front ++ a) q ≡ value_at (front ++ b) q
value_at-front [] a b q h = h
value_at-front (p ∷ front) a b q h = ap (λ o. cond (bytes_eq p.id q) (Some p.value) o) (value_at-front front a b q h)

pub value_at-below : (front rest : List FieldPair) (q : List ℕ) → AllBelow q (ids front) → value_at (front ++ rest) q ≡ value_at rest q
value_at-below [] rest q h = refl
value_at-below (p ∷ front) rest q h = value_at-other p (front ++ rest) q (λ e. below_differs p.id q h.0 (sym e)) ∙ value_at-below front rest q h.1

pub value_at-above : (rest : List FieldPair) (q : List ℕ) → AllAbove q (ids rest) → value_at rest q ≡ None
value_at-above [] q h = refl
value_at-above (p ∷ rest) q h = value_at-other p rest q (below_differs q p.id h.0) ∙ value_at-above rest q h.1

-- ---- changes

ids-append : (front rest : List FieldPair) → ids (front ++ rest) ≡ ids front ++ ids rest
ids-append [] rest = refl
ids-append (p ∷ front) rest = ap (λ ts. p.id ∷ ts) (ids-append front rest)

pub record Changes (id : List ℕ) (value : Option FieldValue) (old new : List FieldPair) : Type 0 where
  pub map : IsMap new
  pub changed : IsChangedAt id value old new

-- what stands from the place on stands above the id
above_next : (front rest : List FieldPair) (id : List ℕ) → IsMap (front ++ rest) → ((p : FieldPair) (ps : List FieldPair) → rest ≡ p ∷ ps → IsBelow id p.id) → AllAbove id (ids rest)
above_next front [] id up next = tt
above_next front (p ∷ ps) id up next =
    let here = next p ps refl in
    (here, above_chain id p.id (ids ps) here (rises_after (ids front) (ids ps) p.id (subst Rises (ids-append front (p ∷ ps)) up)))

pub inserted : (front rest : List FieldPair) (x : FieldPair) → IsMap (front ++ rest) → AllBelow x.id (ids front) → ((p : FieldPair) (ps : List FieldPair) → rest ≡ p ∷ ps → IsBelow x.id p.id)
    → Changes x.id (Some x.value) (front ++ rest) (front ++ x ∷ rest)
inserted front rest x up below next = record {
  map = subst Rises (sym (ids-append front (x ∷ rest))) (rises_insert (ids front) (ids rest) x.id (subst Rises (ids-append front rest) up) below (above_next front rest x.id up next));
  changed = record {
    here = value_at-below front (x ∷ rest) x.id below ∙ value_at-here x rest;
    others = λ q other. value_at-front front (x ∷ rest) rest q (value_at-other x rest q other);
  };
}

pub replaced : (front rest : List FieldPair) (x y : FieldPair) → IsMap (front ++ y ∷ rest) → y.id ≡ x.id → Changes x.id (Some x.value) (front ++ y ∷ rest) (front ++ x ∷ rest)
replaced front rest x y up same =
    let up_ids = subst Rises (ids-append front (y ∷ rest)) up in
    let up_x = subst (λ id. Rises (ids front ++ id ∷ ids rest)) same up_ids in
    record {
      map = subst Rises (sym (ids-append front (x ∷ rest))) up_x;
      changed = record {
        here = value_at-below front (x ∷ rest) x.id (rises_before (ids front) (ids rest) x.id up_x) ∙ value_at-here x rest;
        others = λ q other. value_at-front front (x ∷ rest) (y ∷ rest) q (value_at-other x rest q other ∙ sym (value_at-other y rest q (λ e. other (e ∙ same))));
      };
    }

pub removed : (front rest : List FieldPair) (y : FieldPair) → IsMap (front ++ y ∷ rest) → Changes y.id None (front ++ y ∷ rest) (front ++ rest)
removed front rest y up =
    let up_ids = subst Rises (ids-append front (y ∷ rest)) up in
    record {
      map = subst Rises (sym (ids-append front rest)) (rises_remove (ids front) (ids rest) y.id up_ids);
      changed = record {
        here = value_at-below front rest y.id (rises_before (ids front) (ids rest) y.id up_ids) ∙ value_at-above rest y.id (rises_after (ids front) (ids rest) y.id up_ids);
        others = λ q other. value_at-front front rest (y ∷ rest) q (sym (value_at-other y rest q other));
      };
    }

-- the id is in no pair
pub absent : (front rest : List FieldPair) (id : List ℕ) → IsMap (front ++ rest) → AllBelow id (ids front) → ((p : FieldPair) (ps : List FieldPair) → rest ≡ p ∷ ps → IsBelow id p.id) → value_at (front ++ rest) id ≡ None
absent front rest id up below next = value_at-below front rest id below ∙ value_at-above rest id (above_next front rest id up next)

-- ---- a map has one list

some_differs : (x : FieldValue) (o : Option FieldValue) → o ≡ None → o ≡ Some x → ⊥
some_differs x o h k = cc

same_at : (o : Ordering) (p q : FieldPair) (ps qs : List FieldPair) → slice_cmp nat_cmp p.id q.id ≡ o → IsMap (p ∷ ps) → IsMap (q ∷ qs) → ((t : List ℕ) → value_at (p ∷ ps) t ≡ value_at (q ∷ qs) t)
    → (((t : List ℕ) → value_at ps t ≡ value_at qs t) → ps ≡ qs) → p ∷ ps ≡ q ∷ qs
unfolding IsStrictlySortedBy
same_at Less p q ps qs is up vp same tails =
    absurd (some_differs p.value _ (value_at-above (q ∷ qs) p.id (is, above_chain p.id q.id (ids qs) is vp.0)) (sym (same p.id) ∙ value_at-here p ps))
same_at Greater p q ps qs is up vp same tails =
    let above = flip p.id q.id is in
    absurd (some_differs q.value _ (value_at-above (p ∷ ps) q.id (above, above_chain q.id p.id (ids ps) above up.0)) (same q.id ∙ value_at-here q qs))
same_at Equal p q ps qs is up vp same tails =
    let id : p.id ≡ q.id = exact_bytes p.id q.id is in
    let at_q : value_at (q ∷ qs) p.id ≡ Some q.value = subst (λ t. value_at (q ∷ qs) t ≡ Some q.value) (sym id) (value_at-here q qs) in
    let both : Some p.value ≡ Some q.value = sym (value_at-here p ps) ∙ same p.id ∙ at_q in
    let value : p.value ≡ q.value = cc in
    let pair : p ≡ q = λ i. record { id = id i; value = value i } in
    ap₂ (λ x xs. x ∷ xs) pair (tails (λ t. tail t (bytes_eq t p.id) refl))
  where
    tail : (t : List ℕ) (b : Bool) → bytes_eq t p.id ≡ b → value_at ps t ≡ value_at qs t
    tail t true e =
        let here : t ≡ p.id = (bytes_eq-Decides t p.id).0 e in
        let there : t ≡ q.id = here ∙ exact_bytes p.id q.id is in
        value_at-above ps t (subst (λ x. AllAbove x (ids ps)) (sym here) up.0) ∙ sym (value_at-above qs t (subst (λ x. AllAbove x (ids qs)) (sym there) vp.0))
    tail t false e =
        let not_p = λ (h : t ≡ p.id). true≢false (sym ((bytes_eq-Decides t p.id).1 h) ∙ e) in
        let not_q = λ (h : t ≡ q.id). not_p (h ∙ sym (exact_bytes p.id q.id is)) in
        sym (value_at-other p ps t not_p) ∙ same t ∙ value_at-other q qs t not_q

-- maps that hold the same are the same list
pub one_list : (a b : List FieldPair) → IsMap a → IsMap b → ((t : List ℕ) → value_at a t ≡ value_at b t) → a ≡ b
unfolding IsStrictlySortedBy
one_list [] [] up vp same = refl
one_list [] (q ∷ qs) up vp same = absurd (some_differs q.value None refl (same q.id ∙ value_at-here q qs))
one_list (p ∷ ps) [] up vp same = absurd (some_differs p.value None refl (sym (same p.id) ∙ value_at-here p ps))
one_list (p ∷ ps) (q ∷ qs) up vp same = same_at (slice_cmp nat_cmp p.id q.id) p q ps qs refl up vp same (one_list ps qs up.1 vp.1)

-- ---- by place

below_ids : (id : List ℕ) (ps : List FieldPair) → AllByRecursion (λ p. IsBelow p.id id) ps → AllBelow id (ids ps)
below_ids id [] h = tt
below_ids id (p ∷ ps) h = (h.0, below_ids id ps h.1)

pub split_at : {X : Type 0} (xs : List X) (i : ℕ) (x : X) → slice_get xs i ≡ Some x → take i xs ++ x ∷ drop (suc i) xs ≡ xs
split_at [] i x h = absurd cc
split_at (y ∷ ys) zero x h = let same : x ≡ y = cc in ap (λ z. z ∷ ys) same
split_at (y ∷ ys) (suc i) x h = ap (λ zs. y ∷ zs) (split_at ys i x h)

pub next_of : {X : Type 0} (xs : List X) (i : ℕ) (x : X) (rest : List X) → drop i xs ≡ x ∷ rest → slice_get xs i ≡ Some x
next_of [] zero x rest h = absurd cc
next_of [] (suc i) x rest h = absurd cc
next_of (y ∷ ys) zero x rest h = let same : y ≡ x = cc in ap Some same
next_of (y ∷ ys) (suc i) x rest h = next_of ys i x rest h

pub front_below : (pairs : List FieldPair) (id : List ℕ) (i : ℕ) → AreBelow id (take i pairs) → AllBelow id (ids (take i pairs))
front_below pairs id i h = below_ids id (take i pairs) (recursion_from_All (λ p. IsBelow p.id id) (take i pairs) h)

pub found_at : (pairs : List FieldPair) (id : List ℕ) (i : ℕ) → (h : IsAt pairs id i) → value_at pairs id ≡ Some h.pair.value
found_at pairs id i h =
    let front = take i pairs in
    let rest = drop (suc i) pairs in
    let whole : front ++ h.pair ∷ rest ≡ pairs = split_at pairs i h.pair h.there in
    subst (λ ps. value_at ps id ≡ Some h.pair.value) whole (value_at-below front (h.pair ∷ rest) id (front_below pairs id i h.before)
    ∙ subst (λ t. value_at (h.pair ∷ rest) t ≡ Some h.pair.value) h.named (value_at-here h.pair rest))

pub absent_at : (pairs : List FieldPair) (id : List ℕ) (i : ℕ) → IsMap pairs → IsBefore pairs id i → value_at pairs id ≡ None
absent_at pairs id i up h =
    let whole : take i pairs ++ drop i pairs ≡ pairs = take-append-drop i pairs in
    subst (λ ps. value_at ps id ≡ None) whole
    (absent (take i pairs) (drop i pairs) id (subst IsMap (sym whole) up) (front_below pairs id i h.before) (λ p ps e. h.next p (next_of pairs i p ps e)))

pub inserted_at : (pairs : List FieldPair) (x : FieldPair) (i : ℕ) → IsMap pairs → IsBefore pairs x.id i → Changes x.id (Some x.value) pairs (take i pairs ++ x ∷ drop i pairs)
inserted_at pairs x i up h =
    let whole : take i pairs ++ drop i pairs ≡ pairs = take-append-drop i pairs in
    subst (λ ps. Changes x.id (Some x.value) ps (take i pairs ++ x ∷ drop i pairs)) whole
    (inserted (take i pairs) (drop i pairs) x (subst IsMap (sym whole) up) (front_below pairs x.id i h.before) (λ p ps e. h.next p (next_of pairs i p ps e)))

pub replaced_at : (pairs : List FieldPair) (x : FieldPair) (i : ℕ) → IsMap pairs → IsAt pairs x.id i → Changes x.id (Some x.value) pairs (take i pairs ++ x ∷ drop (suc i) pairs)
replaced_at pairs x i up h =
    let whole : take i pairs ++ h.pair ∷ drop (suc i) pairs ≡ pairs = split_at pairs i h.pair h.there in
    subst (λ ps. Changes x.id (Some x.value) ps (take i pairs ++ x ∷ drop (suc i) pairs)) whole
    (replaced (take i pairs) (drop (suc i) pairs) x h.pair (subst IsMap (sym whole) up) h.named)

pub removed_at : (pairs : List FieldPair) (id : List ℕ) (i : ℕ) → IsMap pairs → IsAt pairs id i → Changes id None pairs (take i pairs ++ drop (suc i) pairs)
removed_at pairs id i up h =
    let whole : take i pairs ++ h.pair ∷ drop (suc i) pairs ≡ pairs = split_at pairs i h.pair h.there in
    let changes : Changes h.pair.id None (take i pairs ++ h.pair ∷ drop (suc i) pairs) (take i pairs ++ drop (suc i) pairs) = removed (take i pairs) (drop (suc i) pairs) h.pair (subst IsMap (sym whole) up) in
    subst (λ ps. Changes id None ps (take i pairs ++ drop (suc i) pairs)) whole (subst (λ t. Changes t None (take i pairs ++ h.pair ∷ drop (suc i) pairs) (take i pairs ++ drop (suc i) pairs)) h.named changes)

-- what no id holds stays so
pub unchanged : (pairs : List FieldPair) (id : List ℕ) → value_at pairs id ≡ None → IsChangedAt id None pairs pairs
unchanged pairs id h = record { here = h; others = λ q other. refl }

pub no_pairs : IsMap []
unfolding IsStrictlySortedBy
no_pairs = tt

-- ---- what the code reads and leaves

-- a place among pairs that were read as a slice, at an id that was read as bytes
pub place_read : (pairs slice : List FieldPair) (id bytes : List ℕ) (r : Result ℕ ℕ) → slice ≡ pairs → bytes ≡ id → IsPlaceOf slice bytes r → IsPlaceOf pairs id r
place_read pairs slice id bytes r same same_id h = subst (λ ps. IsPlaceOf ps id r) same (subst (λ t. IsPlaceOf slice t r) same_id h)

pub after_set : (pairs : List FieldPair) (x : FieldPair) (i : ℕ) → IsMap pairs → IsAt pairs x.id i → Changes x.id (Some x.value) pairs (set pairs i x)
after_set pairs x i up h = subst (Changes x.id (Some x.value) pairs) (sym (set_split pairs i x (slice_get_within pairs i h.pair h.there))) (replaced_at pairs x i up h)

pub after_insert : (pairs new : List FieldPair) (x : FieldPair) (i : ℕ) → IsMap pairs → IsBefore pairs x.id i → new ≡ insert pairs i x → Changes x.id (Some x.value) pairs new
after_insert pairs new x i up h is = subst (Changes x.id (Some x.value) pairs) (sym is) (inserted_at pairs x i up h)

pub after_remove : (pairs new : List FieldPair) (id : List ℕ) (i : ℕ) → IsMap pairs → IsAt pairs id i → new ≡ remove pairs i → Changes id None pairs new
after_remove pairs new id i up h is = subst (Changes id None pairs) (sym is) (removed_at pairs id i up h)
