-- What passes over a list tell of its items.
use Rattle.std.proofs.Common.{ℕ, ◌≡◌, ◌+◌, ◌<◌, ◌≤◌, ◌↔◌, List, Bool, true, false, length, refl, sym, subst, arith, inl, inr, get_or}
use Rattle.std.specs.Prelude.{All, Any, IsTrue, MatchBool}
use Rattle.std.specs.List.{AllWithin, HoldsAt}
use Rattle.std.proofs.lemmas.Bool.{false≢true}
use Rattle.std.proofs.Math.Nat.{eq-or-lt_of_le}
use Rattle.std.proofs.lemmas.Option.{slice_get_read, get_or_from_slice_get}
use Rattle.schemas.proofs.PreviousLemmas.{entry_at}

-- what a call of `all` tells of each item
pub each_told : {X : Type 0} (Yes : X → Type 0) (xs : List X) (r : Bool) → MatchBool r (AllWithin Yes xs 0 (length xs)) ((k : ℕ) × (k < length xs) × HoldsAt (λ x. ¬ Yes x) xs k) → IsTrue r ↔ All Yes xs
each_told {X} Yes xs true h = (λ t. λ (k : ℕ) (d : X) (within : k < length xs). h k d (omega arith) within, λ all. refl)
each_told Yes xs false h = (λ t. absurd (false≢true t), λ all. absurd (let d = (entry_at xs h.0 h.1).0 in h.2 d (all h.0 d h.1)))

-- the fact holds of each of the first n items
abbrev pub AllBelow : {X : Type 0} → (X → Type 0) → List X → ℕ → Type 0
AllBelow {X} P xs n = (k : ℕ) (d : X) → k < n → P (get_or xs k d)

pub below_whole : {X : Type 0} (P : X → Type 0) (xs : List X) (n : ℕ) → length xs ≤ n → AllBelow P xs n → All P xs
below_whole {X} P xs n whole before = λ (k : ℕ) (d : X) (within : k < length xs). before k d (omega arith)

pub not_all : {X : Type 0} (P : X → Type 0) (xs : List X) (n : ℕ) (x : X) → n < length xs → x ≡ get_or xs n x → ¬ P x → ¬ All P xs
not_all P xs n x within is fails = λ all. fails (subst P (sym is) (all n x within))

pub none_of_all : {X : Type 0} (P : X → Type 0) (xs : List X) → All (λ x. ¬ P x) xs → ¬ Any P xs
none_of_all P xs all = λ any. all any.0 any.1 any.2 (subst P (sym any.3) any.4)
