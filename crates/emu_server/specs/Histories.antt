-- The history that bytes are, or why they are none that is accepted.
use Rattle.std.specs.Prelude.{ℕ, ◌≡◌, ◌≢◌, ◌⊎◌, List, string_bytes}
use Rattle.history_reader.specs.Meaning.{MeansHistory, IsRefused}
use Rattle.history_reader.specs.declared.read.HistoryFault.{HistoryFault}
use Rattle.history_reader.specs.declared.read.HistoryFault.TheVariants as fault
use Rattle.schemas.specs.Dated.{Dated}
use Rattle.schemas.specs.Rules.{IsAccepted, IsFirstFault, checks}
use Rattle.schemas.specs.declared.array.Array.{Array}
use Rattle.emu_server.specs.Lines.{reading_line, rule_line}
use Rattle.emu_server.specs.declared.refusals.NoHistory.{NoHistory}
use Rattle.emu_server.specs.declared.refusals.NoHistory.TheVariants.{Refused, Memory}

-- the bytes mean this history, which is accepted
pub record MeansAccepted (bytes : List ℕ) (h : Dated) : Type 0 where
  pub means : MeansHistory bytes h
  pub accepted : IsAccepted h

-- the bytes are no history document, and this line says why
pub record IsReadingRefusal (bytes line : List ℕ) : Type 0 where
  pub cause : HistoryFault
  pub known : cause ≢ fault.Memory
  pub refused : IsRefused bytes cause
  pub written : line ≡ reading_line cause

-- the history breaks a rule, and this line says which and where
pub record IsRuleRefusal (history : Dated) (line : List ℕ) : Type 0 where
  pub rule : ℕ
  pub array : Array
  pub number : ℕ
  pub broken : IsFirstFault history checks rule array number
  pub written : line ≡ rule_line rule array number

-- the bytes mean a history that breaks a rule
pub record IsBrokenHistory (bytes line : List ℕ) : Type 0 where
  pub history : Dated
  pub means : MeansHistory bytes history
  pub broken : IsRuleRefusal history line

-- the bytes are no history that is accepted, and this line says why
abbrev pub IsHistoryRefusal : List ℕ → List ℕ → Type 0
IsHistoryRefusal bytes line = IsReadingRefusal bytes line ⊎ IsBrokenHistory bytes line

-- why there is none; want of memory is free
abbrev pub IsNoHistory : List ℕ → NoHistory → Type 0
IsNoHistory bytes (Refused line) = IsHistoryRefusal bytes (string_bytes line)
IsNoHistory bytes Memory = Unit {0}
