-- What a change of the state keeps: objects fit the versions of their resources, and a store stays
-- within its limits.
use Rattle.std.specs.Prelude.{◌≡◌, ◌<◌, List, Some, None, Contains}
use Rattle.fields.specs.Fits.{Fits}
use Rattle.fields.specs.declared.map.FieldPair.{FieldPair}
use Rattle.object_journal.specs.Journal.{most_keys, last_revision}
use Rattle.object_journal.specs.declared.key.Key.{Key}
use Rattle.object_state.specs.Objects.{HasKey}
use Rattle.object_state.specs.State.{State}
use Rattle.object_state.specs.declared.object.Change.{Change}
use Rattle.object_state.specs.declared.object.Object.{Object}
use Rattle.release_view.specs.declared.known.KnownVersion.{KnownVersion}

-- the fields fit each version of the key's resource
abbrev pub FitsEach : List KnownVersion → Key → List FieldPair → Type 0
FitsEach versions key fields = (v : KnownVersion) → Contains versions v
    → v.table.group ≡ key.group → v.table.resource ≡ key.resource → Fits v.table.rows fields

-- the change keeps within the limits of a store: what goes was there, what comes has room, and
-- there is a next revision
pub record IsWithin (s : State) (change : Change) : Type 0 where
  pub held : change.object ≡ None → HasKey s.objects change.key
  pub room : ¬ HasKey s.objects change.key → s.records < most_keys
  pub more : s.revision < last_revision

-- and the object that it leaves at its key, if there is one, fits each version of its resource
pub record IsSound (versions : List KnownVersion) (s : State) (change : Change) : Type 0 where
  pub within : IsWithin s change
  pub fits : (object : Object) → change.object ≡ Some object
      → FitsEach versions change.key object.fields
