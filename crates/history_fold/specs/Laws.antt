-- What follows from the definition of a fold.
use Rattle.std.specs.Prelude.{ℕ, ◌≡◌, ◌≤◌, ◌↔◌, ◌⊎◌, List, Contains}
use Rattle.fields.specs.declared.field.Spell.{Spell}
use Rattle.gate_flags.specs.Flags.{IsTextFault as IsGateFault}
use Rattle.gate_flags.specs.declared.fault.GateFault.{GateFault}
use Rattle.gate_spec.specs.declared.entry.GateEntry.{GateEntry}
use Rattle.lifecycle.specs.Entry.{subject}
use Rattle.lifecycle.specs.declared.entry.ApiEntry.{ApiEntry}
use Rattle.release_view.specs.Same.{HaveSameTables, HaveSameViews, TakeSameTexts}
use Rattle.runtime_config.specs.Config.{IsTextFault as IsConfigFault}
use Rattle.runtime_config.specs.declared.fault.ConfigCause.TheVariants.{UnknownApi, AfterEmulated, RemovedApi}
use Rattle.runtime_config.specs.declared.fault.ConfigFault.{ConfigFault}
use Rattle.runtime_config.specs.declared.fault.ConfigFault.TheVariants.{At}
use Rattle.schemas.specs.ApiRules.{IsForgotten}
use Rattle.schemas.specs.Cutoff.{cutoff}
use Rattle.schemas.specs.Dated.{Dated}
use Rattle.schemas.specs.Rules.{IsAccepted, last_of}
use Rattle.history_fold.specs.Folded.{IsPast, version_of, floor_in, folded}

-- an accepted history that is folded is accepted
abbrev pub IsAcceptedWhereFolded : Dated → Type 0
IsAcceptedWhereFolded h = IsAccepted h → IsAccepted (folded h)

-- a second fold changes nothing: the floor is that of the folded history too
abbrev pub IsFoldedOnce : Dated → Type 0
IsFoldedOnce h = folded (folded h) ≡ folded h

-- what stays: the entries of gates that aren't past, and of versions those, and their spellings,
-- that aren't forgotten
pub record KeepsTheRest (h : Dated) : Type 0 where
  pub gates : (x : GateEntry) → Contains (folded h).gates x ↔
      (Contains h.gates x × ¬ IsPast h.gates (floor_in h) x)
  pub apis : (x : ApiEntry) → Contains (folded h).apis x ↔
      (Contains h.apis x × ¬ IsForgotten h.apis (subject x) (floor_in h))
  pub spells : (s : Spell) → Contains (folded h).spells s ↔
      (Contains h.spells s × ¬ IsForgotten h.apis (version_of s) (floor_in h))

-- the release is one of those from the floor to the last
pub record IsFromFloor (h : Dated) (o : ℕ) : Type 0 where
  pub from : floor_in h ≤ o
  pub to : o ≤ last_of h

-- at the release both have the same gates, and the same versions with the same rows; and so have
-- both where they are cut at it
pub record HaveTablesInCommon (h k : Dated) (o : ℕ) : Type 0 where
  pub known : HaveSameTables h k o
  pub cut : HaveSameTables (cutoff h o) (cutoff k o) o

-- from the floor on the folded history has the tables of the whole one
abbrev pub HasTablesOfWhole : Dated → ℕ → Type 0
HasTablesOfWhole h o = IsAccepted h → floor_in h ≤ o → HaveTablesInCommon h (folded h) o

-- and so, where the history speaks of it, the release has the same views by both, and takes the same
-- texts
pub record IsViewedAlike (h : Dated) (o : ℕ) : Type 0 where
  pub views : HaveSameViews h (folded h) o
  pub texts : TakeSameTexts h (folded h) o

abbrev pub IsViewedAsWhole : Dated → ℕ → Type 0
IsViewedAsWhole h o = IsAccepted h → IsFromFloor h o → IsViewedAlike h o

-- the fault by the folded history is that by the whole. Only of a key that names versions that were
-- removed it may say that it names nothing, or, where the key names one that comes later too, only
-- what comes later: those removed may be forgotten by the floor
abbrev pub IsSeenAs : ConfigFault → ConfigFault → Type 0
IsSeenAs whole seen =
    (seen ≡ whole)
    ⊎ ((place : ℕ) × (whole ≡ At place RemovedApi)
    × ((seen ≡ At place UnknownApi) ⊎ (seen ≡ At place AfterEmulated)))

-- by the folded history a text of flags has the faults that it has by the whole: of gates the same
pub record HaveFaultsInCommon (h k : Dated) (o : ℕ) (text : List ℕ) : Type 0 where
  pub gates : (f : GateFault) → IsGateFault h.gates o text f ↔ IsGateFault k.gates o text f
  pub kept : (f : ConfigFault) → IsConfigFault h.apis o text f →
      (g : ConfigFault) × IsSeenAs f g × IsConfigFault k.apis o text g
  pub from : (g : ConfigFault) → IsConfigFault k.apis o text g →
      (f : ConfigFault) × IsSeenAs f g × IsConfigFault h.apis o text f

abbrev pub HasFaultsOfWhole : Dated → ℕ → List ℕ → Type 0
HasFaultsOfWhole h o text =
    IsAccepted h → floor_in h ≤ o → HaveFaultsInCommon h (folded h) o text
