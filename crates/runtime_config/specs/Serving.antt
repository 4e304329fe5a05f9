-- What the booleans that were read leave served.
use Rattle.std.specs.Prelude.{ℕ, ◌≡◌, ◌↔◌, List, Bool, true, Any, Contains, Option, Some, None, unwrap_or}
use Rattle.std.specs.BTreeMap.{BTreeMap}
use Rattle.flag_text.specs.Said.{said_in}
use Rattle.lifecycle.specs.Entry.{GroupVersionResource, subject}
use Rattle.lifecycle.specs.Tables.{live}
use Rattle.lifecycle.specs.declared.entry.ApiEntry.{ApiEntry}
use Rattle.lifecycle.specs.declared.version.VersionWord.{VersionWord}
use Rattle.runtime_config.specs.Keys.{all_key, level_key, version_key, resource_key}
use Rattle.runtime_config.specs.Config.{HasWord, enabled_by_default}
use Rattle.runtime_config.specs.Served.{AreInOrder}

abbrev pub Booleans : Type 0
Booleans = BTreeMap (List ℕ) (Option Bool)

abbrev pub level_in : Booleans → Option VersionWord → Option Bool
level_in m None = None
level_in m (Some w) = said_in m (level_key w.level)

-- the most specific key that the map has decides
abbrev pub switched_in : Booleans → List ℕ → List ℕ → Option VersionWord → Bool → Bool
switched_in m resource version w enabled =
    unwrap_or (said_in m resource)
    (unwrap_or (said_in m version)
    (unwrap_or (level_in m w) (unwrap_or (said_in m all_key) enabled)))

-- the version with this text is switched so
abbrev pub IsSwitched : Booleans → List ℕ → List ℕ → List ℕ → Bool → Bool → Type 0
IsSwitched m text resource version enabled on =
    (w : Option VersionWord) × HasWord text w × (on ≡ switched_in m resource version w enabled)

-- the version is live, and switched on by the map
pub record IsOnIn (tables : List ApiEntry) (m : Booleans)
    (name : GroupVersionResource) : Type 0 where
  pub live : live tables name ≡ true
  pub word : Option VersionWord
  pub has_word : HasWord name.version word
  pub on :
      switched_in m (resource_key name) (version_key name) word (enabled_by_default tables name)
      ≡ true

-- the names of the versions of these entries that are on, in order of bytes
pub record AreNamesOn (tables : List ApiEntry) (m : Booleans) (entries : List ApiEntry)
    (names : List GroupVersionResource) : Type 0 where
  pub order : AreInOrder names
  pub exact : (name : GroupVersionResource) → Contains names name ↔
      Any (λ x. (subject x ≡ name) × IsOnIn tables m name) entries
