-- Elements of lists, and of lists of keys in order. `Any` and `Contains` speak of places; an induction goes over the list, so the lemmas
-- pass through words that are defined by recursion.
use Rattle.std.proofs.Common.{◌≡◌, ◌↔◌, ◌⊎◌, inl, inr, ℕ, zero, suc, ◌<◌, List, [], ◌∷◌, ◌++◌, length, get_or, Ordering, Less, Equal, Greater, refl, sym, ◌∙◌, subst, arith, Contains}
use Rattle.std.specs.List.{Any, AllPairs, AllByRecursion}
use Rattle.std.specs.Ordering.{match_ordering}
use Rattle.std.specs.BTreeSet.{insert_key}
use Rattle.std.proofs.lemmas.Bool.{cases_order}
use Rattle.std.proofs.lemmas.List.Elements.{Contains-push, Contains-push_cases, Contains-append_left, at_from_Contains}
use Rattle.std.proofs.lemmas.Map.Lookups.{CmpEqualImpliesEq}

abbrev SomeIn : {X : Type 0} → (X → Type 0) → List X → Type 0
SomeIn P [] = ⊥
SomeIn P (x ∷ xs) = P x ⊎ SomeIn P xs

some_at : {X : Type 0} (P : X → Type 0) (xs : List X) (k : ℕ) (x : X) → k < length xs → get_or xs k x ≡ x → P x → SomeIn P xs
some_at P [] k x below is p = absurd (omega arith)
some_at P (y ∷ ys) zero x below is p = inl (subst P (let e : x ≡ y = cc in e) p)
some_at P (y ∷ ys) (suc k) x below is p = inr (some_at P ys k x (omega arith) is p)

has_from_contains : {X : Type 0} (xs : List X) (x : X) → Contains xs x → SomeIn (λ y. y ≡ x) xs
has_from_contains xs x h = some_at (λ y. y ≡ x) xs h.0 x h.1 h.2 refl

contains_from_has : {X : Type 0} (xs : List X) (x : X) → SomeIn (λ y. y ≡ x) xs → Contains xs x
contains_from_has [] x h = absurd h
contains_from_has (y ∷ xs) x (inl e) = (0, omega arith, e)
contains_from_has (y ∷ xs) x (inr h) = let r = contains_from_has xs x h in (suc r.0, (let below = r.1 in omega arith), r.2)

pub Any-from : {X : Type 0} (P : X → Type 0) (xs : List X) (x : X) → Contains xs x → P x → Any P xs
Any-from P xs x h p = (h.0, x, h.1, h.2, p)

pub Any-push_left : {X : Type 0} (P : X → Type 0) (xs : List X) (y : X) → Any P xs → Any P (xs ++ y ∷ [])
Any-push_left P xs y h = Any-from P (xs ++ y ∷ []) h.1 (Contains-append_left xs (y ∷ []) h.1 (h.0, h.2, h.3)) h.4

pub Any-push : {X : Type 0} (P : X → Type 0) (xs : List X) (y : X) → P y → Any P (xs ++ y ∷ [])
Any-push P xs y p = Any-from P (xs ++ y ∷ []) y (Contains-push xs y) p

pub Any-push_cases : {X : Type 0} (P : X → Type 0) (xs : List X) (y : X) → Any P (xs ++ y ∷ []) → Any P xs ⊎ P y
Any-push_cases P xs y h =
    elim (Contains-push_cases xs y h.1 (h.0, h.2, h.3)) [
      | inl before ↦ inl (Any-from P xs h.1 before h.4)
      | inr same ↦ inr (rw same h.4)
    ]

-- an element of the list, or the one that is appended
pub Any-push_iff : {X : Type 0} (P : X → Type 0) (xs : List X) (y : X) → Any P (xs ++ y ∷ []) ↔ (Any P xs ⊎ P y)
Any-push_iff P xs y = (Any-push_cases P xs y, λ h. elim h [ inl before ↦ Any-push_left P xs y before | inr last ↦ Any-push P xs y last ])

pub Any-weaker : {X : Type 0} (P Q : X → Type 0) (xs : List X) → ((x : X) → P x → Q x) → Any P xs → Any Q xs
Any-weaker P Q xs f h = (h.0, h.1, h.2, h.3, f h.1 h.4)

pub AllByRecursion-push : {X : Type 0} (P : X → Type 0) (xs : List X) (y : X) → AllByRecursion P xs → P y → AllByRecursion P (xs ++ y ∷ [])
AllByRecursion-push P [] y h p = (p, tt)
AllByRecursion-push P (x ∷ xs) y h p = (h.0, AllByRecursion-push P xs y h.1 p)

all_at : {K : Type 0} (P : K → Type 0) (x k : K) (xs ys : List K) (o : Ordering) → P k → AllByRecursion P (x ∷ xs) → AllByRecursion P ys → AllByRecursion P (match_ordering o (k ∷ x ∷ xs) (x ∷ xs) (x ∷ ys))
all_at P x k xs ys Less p h g = (p, h)
all_at P x k xs ys Equal p h g = h
all_at P x k xs ys Greater p h g = (h.0, g)

pub AllByRecursion-insert_key : {K : Type 0} (cmp : K → K → Ordering) (P : K → Type 0) (xs : List K) (k : K) → P k → AllByRecursion P xs → AllByRecursion P (insert_key cmp xs k)
AllByRecursion-insert_key cmp P [] k p h = (p, tt)
AllByRecursion-insert_key cmp P (x ∷ xs) k p h = all_at P x k xs (insert_key cmp xs k) (cmp k x) p h (AllByRecursion-insert_key cmp P xs k p h.1)

module _ {K : Type 0} (cmp : K → K → Ordering) (exact : CmpEqualImpliesEq cmp) where
  up_at : (x k w : K) (xs : List K) (o : Ordering) → cmp k x ≡ o → (k ≡ w) ⊎ SomeIn (λ y. y ≡ w) (x ∷ xs) → ((k ≡ w) ⊎ SomeIn (λ y. y ≡ w) xs → SomeIn (λ y. y ≡ w) (insert_key cmp xs k))
      → SomeIn (λ y. y ≡ w) (match_ordering o (k ∷ x ∷ xs) (x ∷ xs) (x ∷ insert_key cmp xs k))
  up_at x k w xs Less e h ih = h
  up_at x k w xs Equal e (inl h) ih = inl (subst (λ y. y ≡ w) (exact k x e) h)
  up_at x k w xs Equal e (inr h) ih = h
  up_at x k w xs Greater e (inl h) ih = inr (ih (inl h))
  up_at x k w xs Greater e (inr (inl h)) ih = inl h
  up_at x k w xs Greater e (inr (inr h)) ih = inr (ih (inr h))

  has_up : (xs : List K) (k w : K) → (k ≡ w) ⊎ SomeIn (λ y. y ≡ w) xs → SomeIn (λ y. y ≡ w) (insert_key cmp xs k)
  has_up [] k w (inl h) = inl h
  has_up [] k w (inr h) = absurd h
  has_up (x ∷ xs) k w h = up_at x k w xs (cmp k x) refl h (has_up xs k w)

  down_at : (x k w : K) (xs : List K) (o : Ordering) → SomeIn (λ y. y ≡ w) (match_ordering o (k ∷ x ∷ xs) (x ∷ xs) (x ∷ insert_key cmp xs k))
      → (SomeIn (λ y. y ≡ w) (insert_key cmp xs k) → (k ≡ w) ⊎ SomeIn (λ y. y ≡ w) xs) → (k ≡ w) ⊎ SomeIn (λ y. y ≡ w) (x ∷ xs)
  down_at x k w xs Less h ih = h
  down_at x k w xs Equal h ih = inr h
  down_at x k w xs Greater (inl h) ih = inr (inl h)
  down_at x k w xs Greater (inr h) ih = elim (ih h) [ inl e ↦ inl e | inr e ↦ inr (inr e) ]

  has_down : (xs : List K) (k w : K) → SomeIn (λ y. y ≡ w) (insert_key cmp xs k) → (k ≡ w) ⊎ SomeIn (λ y. y ≡ w) xs
  has_down [] k w (inl h) = inl h
  has_down [] k w (inr h) = absurd h
  has_down (x ∷ xs) k w h = down_at x k w xs (cmp k x) h (has_down xs k w)

  -- the keys, and the one that is inserted
  pub Contains-insert_key : (xs : List K) (k w : K) → Contains (insert_key cmp xs k) w ↔ ((k ≡ w) ⊎ Contains xs w)
  Contains-insert_key xs k w = (
    λ h. elim (has_down xs k w (has_from_contains (insert_key cmp xs k) w h)) [ inl e ↦ inl e | inr c ↦ inr (contains_from_has xs w c) ],
    λ h. contains_from_has (insert_key cmp xs k) w (has_up xs k w (elim h [ inl e ↦ inl e | inr c ↦ inr (has_from_contains xs w c) ])),
  )

  -- where the keys are those that some element gives, one more element gives its key
  pub keys_of-push : {X : Type 0} (P : X → K → Type 0) (xs : List X) (ks : List K) (x : X) (k w : K) → Contains ks w ↔ Any (λ y. P y w) xs → P x w ↔ (k ≡ w)
      → Contains (insert_key cmp ks k) w ↔ Any (λ y. P y w) (xs ++ x ∷ [])
  keys_of-push P xs ks x k w h p = (
    λ c. (Any-push_iff (λ y. P y w) xs x).1 (elim ((Contains-insert_key ks k w).0 c) [ inl e ↦ inr (p.1 e) | inr d ↦ inl (h.0 d) ]),
    λ a. (Contains-insert_key ks k w).1 (elim ((Any-push_iff (λ y. P y w) xs x).0 a) [ inl b ↦ inr (h.1 b) | inr b ↦ inl (p.0 b) ]),
  )

-- an element that gives no key
pub keys_of-same : {X K : Type 0} (P : X → K → Type 0) (xs : List X) (ks : List K) (x : X) (w : K) → Contains ks w ↔ Any (λ y. P y w) xs → (P x w → ⊥)
    → Contains ks w ↔ Any (λ y. P y w) (xs ++ x ∷ [])
keys_of-same P xs ks x w h p = (
  λ c. (Any-push_iff (λ y. P y w) xs x).1 (inl (h.0 c)),
  λ a. elim ((Any-push_iff (λ y. P y w) xs x).0 a) [ inl b ↦ h.1 b | inr b ↦ absurd (p b) ],
)

-- two elements are one, or one of them stands before the other
pub AllPairs-cases : {X : Type 0} (R : X → X → Type 0) (xs : List X) (x y : X) → AllPairs R xs → Contains xs x → Contains xs y → (x ≡ y) ⊎ (R x y ⊎ R y x)
AllPairs-cases R xs x y pairs a b =
    let i = at_from_Contains xs x a in
    let j = at_from_Contains xs y b in
    elim (cases_order i.0 j.0) [
      | inl same ↦ inl (sym (i.2 x) ∙ rw same (j.2 x))
      | inr (inl before) ↦ inr (inl (rw (i.2 x, j.2 x) at (pairs i.0 j.0 x before j.1)))
      | inr (inr after) ↦ inr (inr (rw (j.2 x, i.2 x) at (pairs j.0 i.0 x after i.1)))
    ]
