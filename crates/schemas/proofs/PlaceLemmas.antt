-- Steps of a scan for the first entry that breaks a rule.
use Rattle.std.proofs.Common.{ℕ, ◌≡◌, ◌+◌, ◌<◌, ◌≤◌, List, Some, length, take, refl, sym, subst, ◌∙◌, arith, inl, inr, get_or}
use Rattle.std.specs.Prelude.{slice_get}
use Rattle.std.proofs.lemmas.Option.{slice_get_read, slice_get_within}
use Rattle.std.proofs.Math.Nat.{eq-or-lt_of_le}
use Rattle.schemas.specs.Places.{Each, Breaks, IsLeast}

-- the rule holds of each of the first n entries
abbrev pub EachBelow : {E : Type 0} → (List E → E → Type 0) → List E → ℕ → Type 0
EachBelow {E} Keeps xs n = (i : ℕ) (x : E) → i < n → slice_get xs i ≡ Some x → Keeps (take i xs) x

pub some_injective : {E : Type 0} (x y : E) → Some x ≡ Some y → x ≡ y
some_injective x y e = cc

pub each_more : {E : Type 0} (Keeps : List E → E → Type 0) (xs : List E) (n : ℕ) (x : E) → n < length xs → x ≡ get_or xs n x → EachBelow Keeps xs n → Keeps (take n xs) x → EachBelow Keeps xs (n + 1)
each_more {E} Keeps xs n x h e before here = λ (i : ℕ) (y : E) (below : i < n + 1) (stands : slice_get xs i ≡ Some y).
    let at_most : i ≤ n = omega arith in
    elim (eq-or-lt_of_le at_most) [
      | inr less ↦ before i y less stands
      | inl same ↦
          let read : slice_get xs n ≡ Some x = slice_get_read xs (length xs) n x refl h e in
          let at : slice_get xs n ≡ Some y = subst (λ (k : ℕ). slice_get xs k ≡ Some y) same stands in
          let equal : x ≡ y = some_injective x y (sym read ∙ at) in
          subst (λ (k : ℕ). Keeps (take k xs) y) (sym same) (subst (λ (z : E). Keeps (take n xs) z) equal here)
    ]

pub each_whole : {E : Type 0} (Keeps : List E → E → Type 0) (xs : List E) (n : ℕ) → length xs ≤ n → EachBelow Keeps xs n → Each Keeps xs
each_whole {E} Keeps xs n h all = λ (i : ℕ) (x : E) (stands : slice_get xs i ≡ Some x).
    let within : i < length xs = slice_get_within xs i x stands in
    all i x (omega arith) stands

pub first_broken : {E : Type 0} (Keeps : List E → E → Type 0) (xs : List E) (n : ℕ) (x : E) → n < length xs → x ≡ get_or xs n x → EachBelow Keeps xs n → ¬ Keeps (take n xs) x → IsLeast (Breaks Keeps xs) (n + 1)
first_broken {E} Keeps xs n x h e before here = (
  record { place = n; entry = x; counted = refl; stands = slice_get_read xs (length xs) n x refl h e; broken = here },
  λ (m : ℕ) (below : m < n + 1) (b : Breaks Keeps xs m).
      let c : m ≡ b.place + 1 = b.counted in
      b.broken (before b.place b.entry (omega arith) b.stands),
)

-- where the rule holds of each entry, none breaks it
pub unbroken : {E : Type 0} (Keeps : List E → E → Type 0) (xs : List E) → Each Keeps xs → (n : ℕ) → ¬ Breaks Keeps xs n
unbroken {E} Keeps xs all n b = b.broken (all b.place b.entry b.stands)
