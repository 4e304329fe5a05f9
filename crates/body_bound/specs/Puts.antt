-- How long an entry of the journal is that stores what a request gives an object.
use Rattle.std.specs.Prelude.{◌≡◌, ◌≤◌, ℕ, List, Contains, length}
use Rattle.body_bound.specs.Shown.{IsRequestRead, HoldsLess}
use Rattle.conversion.specs.declared.mode.Mode.TheVariants.{Body}
use Rattle.fields.specs.declared.map.FieldPair.{FieldPair}
use Rattle.object_journal.specs.Payload.{HasShortTexts, longest_payload, payload_of}
use Rattle.object_journal.specs.declared.entry.Entry.{Entry}
use Rattle.object_journal.specs.declared.key.Key.{Key}
use Rattle.object_state.specs.declared.object.Object.{Object}
use Rattle.release_view.specs.Later.{AreOfOneHistory}
use Rattle.release_view.specs.Views.{Viewed}
use Rattle.release_view.specs.declared.known.KnownVersion.{KnownVersion}
use Rattle.schemas.specs.Dated.{Dated, IsShaped}
use Rattle.storage_version.specs.Kept.{IsPutOf}

-- a request gives the object its fields, in a version of the key's resource: its body is read as them,
-- and perhaps as others that are dropped. The namespace and the name are as short as a path has them
pub record IsGiven (versions : List KnownVersion) (key : Key) (object : Object) : Type 0 where
  pub namespace : length key.namespace ≤ 63
  pub name : length key.name ≤ 253
  pub version : KnownVersion
  pub among : Contains versions version
  pub of_group : version.table.group ≡ key.group
  pub of_resource : version.table.resource ≡ key.resource
  pub body : List ℕ
  pub held : List FieldPair
  pub read : IsRequestRead Body version.table.rows body held
  pub kept : HoldsLess object.fields held

-- the journal takes the entry
pub record IsWithin (e : Entry) : Type 0 where
  pub texts : HasShortTexts e.key
  pub payload : length (payload_of e) ≤ longest_payload

-- the journal takes each entry that puts, in its storage version, what a request gives an object,
-- whichever history the views are of
abbrev pub PutsAreWithin : Viewed → Viewed → Type 0
PutsAreWithin back view = (history : Dated) (key : Key) (object : Object) (entry : Entry)
    → IsShaped history → AreOfOneHistory history back view
    → IsGiven view.versions key object
    → IsPutOf back.versions view.versions key object entry → IsWithin entry
