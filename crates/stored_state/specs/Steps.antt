-- One record as a release reads it, and what the records so far are read as.
use Rattle.std.specs.Prelude.{◌≡◌, ◌⊎◌, ◌↔◌, List, [], ◌∷◌, ◌++◌, Option, Some, None}
use Rattle.fields.specs.declared.map.FieldPair.{FieldPair}
use Rattle.object_journal.specs.declared.key.Key.{Key}
use Rattle.object_state.specs.Objects.{AreInKeyOrder, Holds}
use Rattle.object_state.specs.declared.object.Object.{Object}
use Rattle.object_state.specs.declared.object.Stored.{Stored}
use Rattle.object_store.specs.declared.item.Item.{Item}
use Rattle.release_view.specs.Views.{Viewed}
use Rattle.release_view.specs.declared.known.KnownVersion.{KnownVersion}
use Rattle.storage_version.specs.Bodies.{IsBodyRead}
use Rattle.storage_version.specs.Standing.{IsLive, IsReadAs, HasRecord}
use Rattle.stored_state.specs.Reading.{IsUnreadable, IsUnreadableAt}
use Rattle.stored_state.specs.declared.fault.StartFault.{StartFault}
use Rattle.stored_state.specs.declared.fault.StartFault.TheVariants.{Undecodable, Memory}

-- ---- one record

-- the fields that the record is read as, where its kind is live
abbrev pub IsFieldsOf : List KnownVersion → Item → Option (List FieldPair) → Type 0
IsFieldsOf versions item None = ¬ IsLive versions item.key
IsFieldsOf versions item (Some held) = IsLive versions item.key
    × IsBodyRead versions item.key.group item.key.resource item.body held

-- why one release doesn't read the record; want of memory is free
abbrev pub IsFaultIn : Viewed → Item → StartFault → Type 0
IsFaultIn view item (Undecodable key version minor) =
    (item.key ≡ key) × IsUnreadable view item version × (minor ≡ view.minor)
IsFaultIn view item Memory = Unit {0}

-- why not both releases read the record
abbrev pub IsFaultAt : Viewed → Viewed → Item → StartFault → Type 0
IsFaultAt back view item (Undecodable key version minor) =
    (item.key ≡ key) × IsUnreadableAt back view item minor version
IsFaultAt back view item Memory = Unit {0}

-- the object that the record is read as, under the record's key, where its kind is live
abbrev pub IsStoredOf : List KnownVersion → Item → Option Stored → Type 0
IsStoredOf versions item None = ¬ IsLive versions item.key
IsStoredOf versions item (Some s) = IsLive versions item.key × (s.key ≡ item.key)
    × IsReadAs versions item s.object

-- ---- the records so far

-- the objects with that of one record more, if its kind is live
abbrev pub AreWith : List KnownVersion → Item → List Stored → List Stored → Type 0
AreWith versions item old new = (IsStoredOf versions item None × (new ≡ old))
    ⊎ ((s : Stored) × IsStoredOf versions item (Some s) × (new ≡ old ++ s ∷ []))

-- the objects, in key order, that records of live kinds are read as
pub record AreObjectsOf (versions : List KnownVersion) (items : List Item)
    (objects : List Stored) : Type 0 where
  pub order : AreInKeyOrder objects
  pub exact : (key : Key) (object : Object)
      → Holds objects key object ↔ HasRecord items versions key object
