-- The first item of a list that isn't fine: there is at most one, and there is none where all are fine.
use Rattle.std.proofs.Common.{◌≡◌, ◌⊎◌, inl, inr, ℕ, ◌+◌, ◌<◌, List, [], ◌∷◌, ◌++◌, All, Contains, length, take, drop, get_or, sym, refl, ◌∙◌, ap, subst}
use Rattle.std.proofs.lemmas.List.{take-append-drop, drop_more}
use Rattle.std.specs.List.{AllByRecursion}
use Rattle.std.proofs.lemmas.List.Elements.{recursion_from_All, All-from_recursion, All-contains, Contains-append_left, Contains-append_right, Contains-push}
use Rattle.basis.specs.First.{IsFirst}

pub first_at : {A : Type 0} (Fine Faulty : A → Type 0) (xs : List A) (k : ℕ) (x : A) → k < length xs → x ≡ get_or xs k x → All Fine (take k xs) → Faulty x → IsFirst Fine Faulty xs x
first_at Fine Faulty xs k x below is fine faulty = record {
  before = take k xs;
  after = drop (k + 1) xs;
  whole = sym (take-append-drop k xs) ∙ ap (λ s. take k xs ++ s) (drop_more xs k x below ∙ ap (λ y. y ∷ drop (k + 1) xs) (sym is));
  fine = fine;
  faulty = faulty;
}

pub first_is_in : {A : Type 0} (Fine Faulty : A → Type 0) (xs : List A) (x : A) → IsFirst Fine Faulty xs x → Contains xs x
first_is_in Fine Faulty xs x first =
    subst (λ ys. Contains ys x) (sym first.whole)
    (Contains-append_right first.before (x ∷ first.after) x (Contains-append_left (x ∷ []) first.after x (Contains-push [] x)))

-- where what is faulty isn't fine, a list of fine items has no first one that isn't
pub first_refutes : {A : Type 0} (Fine Faulty : A → Type 0) (xs : List A) (x : A) → (Faulty x → Fine x → ⊥) → IsFirst Fine Faulty xs x → All Fine xs → ⊥
first_refutes Fine Faulty xs x apart first all = apart first.faulty (All-contains Fine xs x all (first_is_in Fine Faulty xs x first))

one_split : {A : Type 0} (Fine F G : A → Type 0) → ((x : A) → F x → Fine x → ⊥) → ((x : A) → G x → Fine x → ⊥) → (front before : List A) (x y : A) (after later : List A)
    → front ++ x ∷ after ≡ before ++ y ∷ later → AllByRecursion Fine front → AllByRecursion Fine before → F x → G y → x ≡ y
one_split Fine F G f g [] [] x y after later same a b h k = cc
one_split Fine F G f g [] (z ∷ zs) x y after later same a b h k = let here : z ≡ x = cc in absurd (f x h (subst Fine here b.0))
one_split Fine F G f g (z ∷ zs) [] x y after later same a b h k = let here : z ≡ y = cc in absurd (g y k (subst Fine here a.0))
one_split Fine F G f g (w ∷ ws) (z ∷ zs) x y after later same a b h k =
    let rest : ws ++ x ∷ after ≡ zs ++ y ∷ later = cc in
    one_split Fine F G f g ws zs x y after later rest a.1 b.1 h k

-- two first items that aren't fine, each for a reason of its own, are one
pub first_is_one : {A : Type 0} (Fine F G : A → Type 0) (xs : List A) (x y : A) → ((z : A) → F z → Fine z → ⊥) → ((z : A) → G z → Fine z → ⊥) → IsFirst Fine F xs x → IsFirst Fine G xs y → x ≡ y
first_is_one Fine F G xs x y f g h k =
    one_split Fine F G f g h.before k.before x y h.after k.after (sym h.whole ∙ k.whole) (recursion_from_All Fine h.before h.fine) (recursion_from_All Fine k.before k.fine) h.faulty k.faulty

first_later : {A : Type 0} (Fine Faulty : A → Type 0) (z : A) (zs : List A) (x : A) → Fine z → IsFirst Fine Faulty zs x → IsFirst Fine Faulty (z ∷ zs) x
first_later Fine Faulty z zs x fine first = record {
  before = z ∷ first.before;
  after = first.after;
  whole = ap (λ ys. z ∷ ys) first.whole;
  fine = All-from_recursion Fine (z ∷ first.before) (fine, recursion_from_All Fine first.before first.fine);
  faulty = first.faulty;
}

-- where each item is fine or faulty, all are fine or there is a first one that isn't
pub first_or_none : {A : Type 0} (Fine Faulty : A → Type 0) (xs : List A) → ((x : A) → Fine x ⊎ Faulty x) → AllByRecursion Fine xs ⊎ ((x : A) × IsFirst Fine Faulty xs x)
first_or_none Fine Faulty [] either = inl tt
first_or_none Fine Faulty (z ∷ zs) either = elim (either z) [
  | inl fine ↦ elim (first_or_none Fine Faulty zs either) [
    | inl all ↦ inl (fine, all)
    | inr later ↦ inr (later.0, first_later Fine Faulty z zs later.0 fine later.1)
  ]
  | inr faulty ↦ inr (z, record { before = []; after = zs; whole = refl; fine = All-from_recursion Fine [] tt; faulty = faulty })
]
