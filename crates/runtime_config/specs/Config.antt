-- Which runtime configurations a release accepts, why it refuses another, and which versions it serves.
use Rattle.std.specs.Prelude.{ℕ, ◌≡◌, ◌↔◌, ◌⊎◌, ◌∷◌, [], ◌&&◌, List, Bool, true, false, All, Contains, Option, Some, None, unwrap_or, codes}
use Rattle.std.specs.List.{list_any}
use Rattle.std.specs.Option.{option_map_or}
use Rattle.flag_text.specs.Pieces.{FlagPiece, pieces, last_pieces}
use Rattle.flag_text.specs.Said.{said, last_said}
use Rattle.flag_text.specs.Passes.{StopsAt, HasBoolean, LacksBoolean}
use Rattle.flag_text.specs.declared.pass.PairCause.TheVariants.{NoValue, NoBoolean}
use Rattle.flag_text.specs.declared.vocabulary.Vocabulary.TheVariants.{Plain}
use Rattle.lifecycle.specs.Entry.{GroupVersionResource, subject}
use Rattle.lifecycle.specs.Tables.{cutoff, is_introduction, first_change, live}
use Rattle.lifecycle.specs.Version.{IsWord, IsVersion, word_text}
use Rattle.lifecycle.specs.declared.entry.ApiEntry.{ApiEntry}
use Rattle.lifecycle.specs.declared.entry.ApiChange.{ApiChange}
use Rattle.lifecycle.specs.declared.entry.ApiChange.TheVariants.{Introduced}
use Rattle.lifecycle.specs.declared.version.VersionWord.{VersionWord}
use Rattle.runtime_config.specs.Keys.{is_api_key, all_key, level_key, version_key, resource_key, names}
use Rattle.runtime_config.specs.Served.{AreInOrder}
use Rattle.runtime_config.specs.declared.fault.ConfigCause.{ConfigCause}
use Rattle.runtime_config.specs.declared.fault.ConfigCause.TheVariants.{BadPair, BadBool, UnknownApi, AfterEmulated, RemovedApi}
use Rattle.runtime_config.specs.declared.fault.ConfigFault.{ConfigFault}
use Rattle.runtime_config.specs.declared.fault.ConfigFault.TheVariants.{Memory, At, OnlyAllFalse}

-- the piece has a `=`, and `true` or `false` behind it
abbrev pub IsPair : FlagPiece → Type 0
IsPair = HasBoolean Plain

-- the entries speak of a version that the key names
abbrev pub names_some : List ℕ → List ApiEntry → Bool
names_some key entries = list_any (λ x. names key (subject x)) entries

-- the tables introduce a version that the key names
abbrev pub names_introduced : List ℕ → List ApiEntry → Bool
names_introduced key tables =
    list_any (λ x. names key (subject x) && is_introduction x.change) tables

-- the tables speak of a live version that the key names
abbrev pub names_live : List ℕ → List ApiEntry → Bool
names_live key tables = list_any (λ x. names key (subject x) && live tables (subject x)) tables

-- the tables take the key
abbrev pub IsTakenKey : List ApiEntry → List ℕ → Type 0
IsTakenKey tables key = (is_api_key key ≡ true) ⊎ (names_live key tables ≡ true)

-- `api/all=false` is all that is left
abbrev pub IsOnlyAllFalse : List FlagPiece → Type 0
IsOnlyAllFalse ps =
    (p : FlagPiece) × (last_pieces ps ≡ p ∷ []) × (p.name ≡ all_key) × (said Plain p ≡ Some false)

-- the text is valid in the tables
pub record IsRuntimeText (tables : List ApiEntry) (text : List ℕ) : Type 0 where
  pub pairs : All IsPair (pieces text)
  pub taken : All (λ p. IsTakenKey tables p.name) (last_pieces (pieces text))
  pub more : ¬ IsOnlyAllFalse (pieces text)

-- the fault of a piece by itself
abbrev pub HasFault : FlagPiece → ConfigCause → Type 0
HasFault p BadPair = LacksBoolean Plain p NoValue
HasFault p BadBool = LacksBoolean Plain p NoBoolean
HasFault p _ = ⊥

-- why a key isn't taken: it names no entry of the history; or no live version, but one that was introduced; or only
-- later ones
pub record IsUnknownKey (entries : List ApiEntry) (key : List ℕ) : Type 0 where
  pub no_api_key : is_api_key key ≡ false
  pub nothing : names_some key entries ≡ false

pub record IsRemovedKey (tables : List ApiEntry) (key : List ℕ) : Type 0 where
  pub no_api_key : is_api_key key ≡ false
  pub none_live : names_live key tables ≡ false
  pub introduced : names_introduced key tables ≡ true

pub record IsLaterKey (entries tables : List ApiEntry) (key : List ℕ) : Type 0 where
  pub no_api_key : is_api_key key ≡ false
  pub something : names_some key entries ≡ true
  pub none_live : names_live key tables ≡ false
  pub none_introduced : names_introduced key tables ≡ false

-- the fault of a last piece, by the whole history and the release
abbrev pub IsRefused : List ApiEntry → ℕ → FlagPiece → ConfigCause → Type 0
IsRefused entries e p UnknownApi = IsUnknownKey entries p.name
IsRefused entries e p RemovedApi = IsRemovedKey (cutoff entries e) p.name
IsRefused entries e p AfterEmulated = IsLaterKey entries (cutoff entries e) p.name
IsRefused entries e p _ = ⊥

-- the first pass: over all pieces, each by itself
abbrev pub IsFirstPassFault : List FlagPiece → ConfigFault → Type 0
IsFirstPassFault ps (At place cause) = StopsAt IsPair (λ p. HasFault p cause) ps place
IsFirstPassFault ps OnlyAllFalse = ⊥
IsFirstPassFault ps Memory = ⊥

-- the second pass: over the last piece of each key, by the history and the release
abbrev pub IsSecondPassFault : List ApiEntry → ℕ → List FlagPiece → ConfigFault → Type 0
IsSecondPassFault entries e last (At place cause) =
    StopsAt (λ p. IsTakenKey (cutoff entries e) p.name)
    (λ p. IsRefused entries e p cause) last place
IsSecondPassFault entries e last OnlyAllFalse = ⊥
IsSecondPassFault entries e last Memory = ⊥

-- the first pass finds nothing, and all that is left is `api/all=false`, which every release takes
pub record IsAllOff (text : List ℕ) : Type 0 where
  pub pairs : All IsPair (pieces text)
  pub only : IsOnlyAllFalse (pieces text)

-- the fault of a text; want of memory is free
abbrev pub IsTextFault : List ApiEntry → ℕ → List ℕ → ConfigFault → Type 0
IsTextFault entries e text (At place cause) =
    IsFirstPassFault (pieces text) (At place cause) ⊎
    (All IsPair (pieces text)
    × IsSecondPassFault entries e (last_pieces (pieces text)) (At place cause))
IsTextFault entries e text OnlyAllFalse = IsAllOff text
IsTextFault entries e text Memory = Unit {0}

-- the version word that a version's text is
abbrev pub HasWord : List ℕ → Option VersionWord → Type 0
HasWord text None = ¬ IsVersion text
HasWord text (Some w) = IsWord w × (text ≡ word_text w)

-- what the text says of the level of a version
abbrev pub level_said : List FlagPiece → Option VersionWord → Option Bool
level_said ps None = None
level_said ps (Some w) = last_said Plain ps (level_key w.level)

-- the most specific given key decides: that of the resource, of the version, of its level, of all; else the
-- introduction
abbrev pub switched : List FlagPiece → GroupVersionResource → Option VersionWord → Bool → Bool
switched ps name w enabled =
    unwrap_or (last_said Plain ps (resource_key name))
    (unwrap_or (last_said Plain ps (version_key name))
    (unwrap_or (level_said ps w) (unwrap_or (last_said Plain ps all_key) enabled)))

abbrev pub enables : ApiChange → Bool
enables (Introduced kind singular namespaced enabled) = enabled
enables _ = false

-- the introduction of the version enables it
abbrev pub enabled_by_default : List ApiEntry → GroupVersionResource → Bool
enabled_by_default tables name =
    option_map_or (λ x. enables x.change) (first_change is_introduction tables name) false

-- the version is live and switched on
pub record IsServed (tables : List ApiEntry) (ps : List FlagPiece)
    (name : GroupVersionResource) : Type 0 where
  pub live : live tables name ≡ true
  pub word : Option VersionWord
  pub has_word : HasWord name.version word
  pub on : switched ps name word (enabled_by_default tables name) ≡ true

-- the list has exactly the served versions, in order of bytes
pub record AreServed (tables : List ApiEntry) (ps : List FlagPiece)
    (served : List GroupVersionResource) : Type 0 where
  pub order : AreInOrder served
  pub exact : (name : GroupVersionResource) → Contains served name ↔ IsServed tables ps name

-- the name of a cause, as it is printed
abbrev pub cause_name : ConfigCause → List ℕ
cause_name BadPair = codes "BadPair"
cause_name BadBool = codes "BadBool"
cause_name UnknownApi = codes "UnknownApi"
cause_name AfterEmulated = codes "AfterEmulated"
cause_name RemovedApi = codes "RemovedApi"
