-- Rules over lists of dated entries: where a rule holds, and which entry breaks it.
use Rattle.std.specs.Prelude.{ℕ, ◌≡◌, ◌+◌, ◌<◌, List, Bool, Option, Some, MatchOption, find, reverse, slice_get, take}

-- the last of the entries that passes the test
abbrev pub last_passing : {E : Type 0} → (E → Bool) → List E → Option E
last_passing test xs = find test (reverse xs)

-- a rule on an entry and the entries before it holds of each entry
abbrev pub Each : {E : Type 0} → (List E → E → Type 0) → List E → Type 0
Each {E} Keeps xs = (i : ℕ) (x : E) → slice_get xs i ≡ Some x → Keeps (take i xs) x

-- the entry with this number, counted from 1, breaks the rule
pub record Breaks {E : Type 0} (Keeps : List E → E → Type 0) (xs : List E)
    (number : ℕ) : Type 0 where
  pub place : ℕ
  pub entry : E
  pub counted : number ≡ place + 1
  pub stands : slice_get xs place ≡ Some entry
  pub broken : ¬ Keeps (take place xs) entry

-- the least number of which the fact holds
abbrev pub IsLeast : (ℕ → Type 0) → ℕ → Type 0
IsLeast P n = P n × ((m : ℕ) → m < n → ¬ P m)

-- the number of the first entry that breaks the rule, or none where the rule holds of each
abbrev pub FindsFirst : {E : Type 0} → (List E → E → Type 0) → List E → Option ℕ → Type 0
FindsFirst Keeps xs found = MatchOption found (Each Keeps xs) (IsLeast (Breaks Keeps xs))
