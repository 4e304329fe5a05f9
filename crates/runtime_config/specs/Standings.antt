-- What is best of the versions that a key names: live, or introduced once, or at least spoken of.
use Rattle.std.specs.Prelude.{ℕ, ◌≡◌, ◌&&◌, List, Bool, nat_le, Option, Some, None, if◌then◌else◌}
use Rattle.std.specs.List.{list_any}
use Rattle.std.specs.Ordering.{nat_cmp}
use Rattle.std.specs.Cmp.Lexicographic.{slice_cmp}
use Rattle.std.specs.BTreeMap.{BTreeMap, get}
use Rattle.lifecycle.specs.Entry.{subject}
use Rattle.lifecycle.specs.Tables.{is_introduction, live}
use Rattle.lifecycle.specs.declared.entry.ApiEntry.{ApiEntry}
use Rattle.runtime_config.specs.Keys.{names}
use Rattle.runtime_config.specs.declared.fault.ConfigCause.{ConfigCause}
use Rattle.runtime_config.specs.declared.fault.ConfigCause.TheVariants.{UnknownApi, AfterEmulated, RemovedApi}
use Rattle.runtime_config.specs.declared.standing.Standing.{Standing}
use Rattle.runtime_config.specs.declared.standing.Standing.TheVariants.{Later, Gone, Live}

-- the standing that the three tests leave
abbrev pub standing_of : Bool → Bool → Bool → Option Standing
standing_of some introduced live =
    (if live then Some Live else
    (if introduced then Some Gone else (if some then Some Later else None)))

-- the standing of what the key names among these entries, by the tables of the release
abbrev pub standing : List ApiEntry → ℕ → List ApiEntry → List ℕ → Option Standing
standing tables e entries key =
    standing_of (list_any (λ x. names key (subject x)) entries)
    (list_any (λ x. nat_le x.since e && (names key (subject x) && is_introduction x.change))
    entries)
    (list_any (λ x. nat_le x.since e && (names key (subject x) && live tables (subject x))) entries)

abbrev pub standing_cause : Standing → Option ConfigCause
standing_cause Live = None
standing_cause Gone = Some RemovedApi
standing_cause Later = Some AfterEmulated

-- why a key with this standing isn't taken
abbrev pub cause_of : Option Standing → Option ConfigCause
cause_of None = Some UnknownApi
cause_of (Some s) = standing_cause s

-- the map has the standing of each key
pub record HasStandings (tables : List ApiEntry) (e : ℕ) (entries : List ApiEntry)
    (m : BTreeMap (List ℕ) Standing) : Type 0 where
  pub at : (key : List ℕ) → get (slice_cmp nat_cmp) m key ≡ standing tables e entries key
