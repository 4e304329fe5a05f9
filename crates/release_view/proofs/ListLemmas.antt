-- Elements of lists: found by a test, and of lists of keys in order.
use Rattle.std.proofs.Common.{◌≡◌, ◌⊎◌, inl, inr, ℕ, zero, suc, ◌<◌, Bool, true, false, Option, Some, None, List, [], ◌∷◌, length, get_or, Ordering, Less, Equal, Greater, Contains, refl, sym, ◌∙◌, ap, arith, cond}
use Rattle.std.specs.Prelude.{find, filter_map}
use Rattle.std.specs.List.{Any, list_any, cons_option}
use Rattle.std.specs.Option.{is_some}
use Rattle.std.specs.Ordering.{match_ordering}
use Rattle.std.specs.BTreeSet.{insert_key}
use Rattle.std.proofs.lemmas.Bool.{cases_Bool, false≢true}

-- the element is in the list, by recursion on the list
abbrev pub Member : {X : Type 0} → X → List X → Type 0
Member w [] = ⊥
Member w (x ∷ xs) = (x ≡ w) ⊎ Member w xs

member_at : {X : Type 0} (xs : List X) (w : X) (k : ℕ) → k < length xs → get_or xs k w ≡ w → Member w xs
member_at [] w k below is = absurd (omega arith)
member_at (x ∷ xs) w zero below is = inl is
member_at (x ∷ xs) w (suc k) below is = inr (member_at xs w k (omega arith) is)

pub member : {X : Type 0} (xs : List X) (w : X) → Contains xs w → Member w xs
member xs w h = member_at xs w h.0 h.1 h.2

pub contained : {X : Type 0} (xs : List X) (w : X) → Member w xs → Contains xs w
contained [] w h = absurd h
contained (x ∷ xs) w (inl e) = (0, omega arith, e)
contained (x ∷ xs) w (inr h) = let r = contained xs w h in (suc r.0, (let below = r.1 in omega arith), r.2)

get_any : {X : Type 0} (xs : List X) (k : ℕ) (x : X) → k < length xs → get_or xs k x ≡ x → Contains xs x
get_any xs k x below is = (k, below, is)

-- an element that fits
pub witness : {X : Type 0} (P : X → Type 0) (xs : List X) → Any P xs → (x : X) × Contains xs x × P x
witness P xs h = (h.1, get_any xs h.0 h.1 h.2 h.3, h.4)

pub some_is : {X : Type 0} (x y : X) → Some x ≡ Some y → x ≡ y
some_is x y e = let f : Option _ → _ = λ o. elim o [ None ↦ x | Some z ↦ z ] in ap f e

found_at : {X : Type 0} (p : X → Bool) (y : X) (ys : List X) (x : X) (b : Bool) → p y ≡ b → cond b (Some y) (find p ys) ≡ Some x → (find p ys ≡ Some x → Member x ys × (p x ≡ true)) → Member x (y ∷ ys) × (p x ≡ true)
found_at p y ys x true e h later = let same = some_is y x h in (inl same, ap p (sym same) ∙ e)
found_at p y ys x false e h later = let r = later h in (inr r.0, r.1)

found_member : {X : Type 0} (p : X → Bool) (xs : List X) (x : X) → find p xs ≡ Some x → Member x xs × (p x ≡ true)
found_member p [] x h = absurd (let e : None ≡ Some x = h in cc)
found_member p (y ∷ ys) x h = found_at p y ys x (p y) refl h (found_member p ys x)

-- what is found is an element that passes
pub found : {X : Type 0} (p : X → Bool) (xs : List X) (x : X) → find p xs ≡ Some x → Contains xs x × (p x ≡ true)
found p xs x h = let r = found_member p xs x h in (contained xs x r.0, r.1)

finds_at : {X : Type 0} (p : X → Bool) (y : X) (ys : List X) (x : X) (b : Bool) → p y ≡ b → (x' : Member x (y ∷ ys)) → p x ≡ true → (Member x ys → is_some (find p ys) ≡ true) → is_some (cond b (Some y) (find p ys)) ≡ true
finds_at p y ys x true e h passes later = refl
finds_at p y ys x false e (inl same) passes later = absurd (false≢true (sym e ∙ ap p same ∙ passes))
finds_at p y ys x false e (inr h) passes later = later h

finds_member : {X : Type 0} (p : X → Bool) (xs : List X) (x : X) → Member x xs → p x ≡ true → is_some (find p xs) ≡ true
finds_member p [] x h passes = absurd h
finds_member p (y ∷ ys) x h passes = finds_at p y ys x (p y) refl h passes (λ later. finds_member p ys x later passes)

-- where an element passes, one is found
pub finds : {X : Type 0} (p : X → Bool) (xs : List X) (x : X) → Contains xs x → p x ≡ true → is_some (find p xs) ≡ true
finds p xs x h passes = finds_member p xs x (member xs x h) passes

pub some_from : {X : Type 0} (o : Option X) → is_some o ≡ true → (x : X) × (o ≡ Some x)
some_from None h = absurd (false≢true h)
some_from (Some x) h = (x, refl)

pub some-find : {X : Type 0} (p : X → Bool) (xs : List X) → is_some (find p xs) ≡ list_any p xs
some-find p [] = refl
some-find p (x ∷ xs) = elim (cases_Bool (p x)) [
  | inl passes ↦ rw passes refl
  | inr fails ↦ rw fails (some-find p xs)
]

-- ---- what is given of the elements

mapped_more : {X Y : Type 0} (f : X → Option Y) (x : X) (xs : List X) (y : Y) (o : Option Y) → f x ≡ o → Member y (cons_option o (filter_map f xs)) → (Member y (filter_map f xs) → (z : X) × Member z xs × (f z ≡ Some y)) → (z : X) × Member z (x ∷ xs) × (f z ≡ Some y)
mapped_more f x xs y None e h later = let r = later h in (r.0, inr r.1, r.2)
mapped_more f x xs y (Some w) e (inl same) later = (x, inl refl, e ∙ ap Some same)
mapped_more f x xs y (Some w) e (inr h) later = let r = later h in (r.0, inr r.1, r.2)

mapped_member : {X Y : Type 0} (f : X → Option Y) (xs : List X) (y : Y) → Member y (filter_map f xs) → (z : X) × Member z xs × (f z ≡ Some y)
mapped_member f [] y h = absurd h
mapped_member f (x ∷ xs) y h = mapped_more f x xs y (f x) refl h (mapped_member f xs y)

-- it is given of an element
pub given_of : {X Y : Type 0} (f : X → Option Y) (xs : List X) (y : Y) → Contains (filter_map f xs) y → (z : X) × Contains xs z × (f z ≡ Some y)
given_of f xs y h = let r = mapped_member f xs y (member (filter_map f xs) y h) in (r.0, contained xs r.0 r.1, r.2)

gives_more : {X Y : Type 0} (f : X → Option Y) (x : X) (xs : List X) (y : Y) (z : X) (o : Option Y) → f x ≡ o → Member z (x ∷ xs) → f z ≡ Some y → (Member z xs → Member y (filter_map f xs)) → Member y (cons_option o (filter_map f xs))
gives_more f x xs y z None e (inl same) gives later = absurd (let clash : None ≡ Some y = sym e ∙ ap f same ∙ gives in cc)
gives_more f x xs y z None e (inr h) gives later = later h
gives_more f x xs y z (Some w) e (inl same) gives later = inl (some_is w y (sym e ∙ ap f same ∙ gives))
gives_more f x xs y z (Some w) e (inr h) gives later = inr (later h)

gives_member : {X Y : Type 0} (f : X → Option Y) (xs : List X) (y : Y) (z : X) → Member z xs → f z ≡ Some y → Member y (filter_map f xs)
gives_member f [] y z h gives = absurd h
gives_member f (x ∷ xs) y z h gives = gives_more f x xs y z (f x) refl h gives (λ later. gives_member f xs y z later gives)

pub gives : {X Y : Type 0} (f : X → Option Y) (xs : List X) (y : Y) (z : X) → Contains xs z → f z ≡ Some y → Contains (filter_map f xs) y
gives f xs y z h is = contained (filter_map f xs) y (gives_member f xs y z (member xs z h) is)

-- ---- keys in order

module _ {K : Type 0} (cmp : K → K → Ordering) (k : K) where
  -- a key of the list that ties with k is k
  abbrev pub TiesAreSame : List K → Type 0
  TiesAreSame xs = (y : K) → Member y xs → cmp k y ≡ Equal → k ≡ y

  up_at : (x w : K) (xs : List K) (o : Ordering) → cmp k x ≡ o → TiesAreSame (x ∷ xs) → (k ≡ w) ⊎ Member w (x ∷ xs) → ((k ≡ w) ⊎ Member w xs → Member w (insert_key cmp xs k))
      → Member w (match_ordering o (k ∷ x ∷ xs) (x ∷ xs) (x ∷ insert_key cmp xs k))
  up_at x w xs Less e ties h ih = h
  up_at x w xs Equal e ties (inl h) ih = inl (sym (ties x (inl refl) e) ∙ h)
  up_at x w xs Equal e ties (inr h) ih = h
  up_at x w xs Greater e ties (inl h) ih = inr (ih (inl h))
  up_at x w xs Greater e ties (inr (inl h)) ih = inl h
  up_at x w xs Greater e ties (inr (inr h)) ih = inr (ih (inr h))

  up : (xs : List K) (w : K) → TiesAreSame xs → (k ≡ w) ⊎ Member w xs → Member w (insert_key cmp xs k)
  up [] w ties (inl h) = inl h
  up [] w ties (inr h) = absurd h
  up (x ∷ xs) w ties h = up_at x w xs (cmp k x) refl ties h (up xs w (λ y later. ties y (inr later)))

  down_at : (x w : K) (xs : List K) (o : Ordering) → Member w (match_ordering o (k ∷ x ∷ xs) (x ∷ xs) (x ∷ insert_key cmp xs k))
      → (Member w (insert_key cmp xs k) → (k ≡ w) ⊎ Member w xs) → (k ≡ w) ⊎ Member w (x ∷ xs)
  down_at x w xs Less h ih = h
  down_at x w xs Equal h ih = inr h
  down_at x w xs Greater (inl h) ih = inr (inl h)
  down_at x w xs Greater (inr h) ih = elim (ih h) [ inl e ↦ inl e | inr e ↦ inr (inr e) ]

  down : (xs : List K) (w : K) → Member w (insert_key cmp xs k) → (k ≡ w) ⊎ Member w xs
  down [] w (inl h) = inl h
  down [] w (inr h) = absurd h
  down (x ∷ xs) w h = down_at x w xs (cmp k x) h (down xs w)

  -- the keys with one inserted
  pub inserted : (xs : List K) (w : K) → ((y : K) → Contains xs y → cmp k y ≡ Equal → k ≡ y) → (k ≡ w) ⊎ Contains xs w → Contains (insert_key cmp xs k) w
  inserted xs w ties h = contained (insert_key cmp xs k) w (up xs w (λ y h. ties y (contained xs y h)) (elim h [ inl e ↦ inl e | inr c ↦ inr (member xs w c) ]))

  pub among_inserted : (xs : List K) (w : K) → Contains (insert_key cmp xs k) w → (k ≡ w) ⊎ Contains xs w
  among_inserted xs w h = elim (down xs w (member (insert_key cmp xs k) w h)) [ inl e ↦ inl e | inr m ↦ inr (contained xs w m) ]
