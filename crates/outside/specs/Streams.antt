-- What a write leaves, and the state of the objects in memory.
use Rattle.std.specs.Prelude.{ℕ, List, take, MatchResult}
use Rattle.std.specs.declared.option.Option.{Option}
use Rattle.std.specs.declared.result.Result.{Result}
use Rattle.std.specs.Io.KnownBytes.{Appends}

-- known bytes grow by a front of these
abbrev pub AppendsFront : Option (List ℕ) → Option (List ℕ) → List ℕ → Type 0
AppendsFront old new bytes = (n : ℕ) × Appends old new (take n bytes)

-- a write appends all the bytes, or at a refusal a front of them
abbrev pub WritesWhole : {T E : Type 0} → Option (List ℕ) → Option (List ℕ) → Result T E → List ℕ → Type 0
WritesWhole old new result bytes = MatchResult result (λ _. Appends old new bytes) (λ _. AppendsFront old new bytes)

-- a source in memory: the bytes left, how often it was called and how often in vain, and the numbers of the calls that
-- fail
pub record Feed : Type 0 where
  pub left : List ℕ
  pub calls : ℕ
  pub faults : ℕ
  pub fails : List ℕ

-- a sink in memory: the bytes written, how often it was called, how often in vain and how often for want of memory, and
-- the numbers of the calls that fail
pub record Record : Type 0 where
  pub written : List ℕ
  pub calls : ℕ
  pub faults : ℕ
  pub starved : ℕ
  pub fails : List ℕ
