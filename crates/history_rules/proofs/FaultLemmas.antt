-- What tests that stand one after another find.
use Rattle.std.proofs.Common.{ℕ, ◌≡◌, ◌≤◌, List, [], ◌∷◌, ◌++◌, Option, Result, Ok, Err, subst, inl, inr}
use Rattle.std.specs.Prelude.{IfOk}
use Rattle.schemas.specs.Dated.{Dated}
use Rattle.schemas.specs.declared.array.Array.{Array}
use Rattle.schemas.specs.Places.{FindsFirst}
use Rattle.schemas.specs.Rules.{Check, IsUnbroken, IsFirstFault}

-- where the first tests find a fault, it is that of all
pub fault_in : (h : Dated) (tests more : List Check) (rule : ℕ) (array : Array) (number : ℕ) → IsFirstFault h tests rule array number → IsFirstFault h (tests ++ more) rule array number
fault_in h [] more rule array number fault = absurd fault
fault_in h (check ∷ tests) more rule array number fault = elim fault [
  | inl here ↦ inl here
  | inr later ↦ inr (later.0, fault_in h tests more rule array number later.1)
]

-- where they find none, it is that of the tests after them
pub fault_after : (h : Dated) (tests more : List Check) (rule : ℕ) (array : Array) (number : ℕ) → IsUnbroken h tests → IsFirstFault h more rule array number → IsFirstFault h (tests ++ more) rule array number
fault_after h [] more rule array number none fault = fault
fault_after h (check ∷ tests) more rule array number none fault = inr (none.0, fault_after h tests more rule array number none.1 fault)

pub unbroken_both : (h : Dated) (tests more : List Check) → IsUnbroken h tests → IsUnbroken h more → IsUnbroken h (tests ++ more)
unbroken_both h [] more none last = last
unbroken_both h (check ∷ tests) more none last = (none.0, unbroken_both h tests more none.1 last)

-- which date is the first too late, of lists that were lent
pub late_of : {E : Type 0} (since : E → ℕ) (l l' : ℕ) (xs ys : List E) (found : Option ℕ) → l ≡ l' → xs ≡ ys → FindsFirst (λ earlier x. since x ≤ l) xs found → FindsFirst (λ earlier x. since x ≤ l') ys found
late_of {E} since l l' xs ys found p q known = subst (λ (k : ℕ). FindsFirst (λ earlier x. since x ≤ k) ys found) p (subst (λ (zs : List E). FindsFirst (λ earlier x. since x ≤ l) zs found) q known)

pub if_ok : {T E : Type 0} (P Q : T → Type 0) (r : Result T E) → ((t : T) → P t → Q t) → IfOk r P → IfOk r Q
if_ok P Q (Ok t) weaker known = weaker t known
if_ok P Q (Err e) weaker known = known
