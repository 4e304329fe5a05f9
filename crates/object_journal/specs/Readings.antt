-- What a reader knows at a gate.
use Rattle.std.specs.Prelude.{◌≡◌, ℕ, ◌≤◌, ◌<◌, List, [], ◌∷◌, ◌++◌, length, take, drop}
use Rattle.object_journal.specs.declared.entry.Entry.{Entry}
use Rattle.object_journal.specs.declared.reading.Reading.{Reading}
use Rattle.object_journal.specs.Journal.{IsNextRevision, IsLawfulChange, AreLawful, IsJournal, last_revision, revision_after, header_of, records_of}
use Rattle.object_journal.specs.Payload.{frame_bytes}
use Rattle.object_journal.specs.Parts.{IsRecordAt}
use Rattle.object_journal.specs.HeldKeys.{AreHeld}

-- the base, the revision and the keys of what was read are those of the entries
pub record IsState (r : Reading) (entries : List Entry) : Type 0 where
  pub base_fits : r.base ≤ last_revision
  pub lawful : AreLawful r.base entries
  pub held : AreHeld r.held entries
  pub revision : r.revision ≡ revision_after r.base entries
  pub revision_fits : r.revision ≤ last_revision

-- the record of the entry stands at the front, with the next gate at this place, and the entry may follow but for the
-- number of keys
pub record IsNextRecord (r : Reading) (entries : List Entry) (bytes : List ℕ) (e : Entry) (place : ℕ) : Type 0 where
  pub at_front : IsRecordAt bytes e place
  pub next_revision : IsNextRevision r.base entries e.revision
  pub change : IsLawfulChange entries e e.change

-- the record of the entry at the front, up to this place, was taken in behind the entries
pub record Advances (old new : Reading) (entries : List Entry) (bytes : List ℕ) (entry : Entry) (place : ℕ) : Type 0 where
  pub state : IsState new (entries ++ entry ∷ [])
  pub base : new.base ≡ old.base
  pub at_front : take place bytes ≡ frame_bytes entry
  pub within : place < length bytes

-- nothing was read behind the header
pub record Begins (r : Reading) (base : ℕ) : Type 0 where
  pub state : IsState r []
  pub base_is : r.base ≡ base

-- the header at the front
pub record HasHeader (bytes : List ℕ) (base : ℕ) : Type 0 where
  pub parts : bytes ≡ header_of base ++ drop 16 bytes
  pub base_fits : base ≤ last_revision

-- the entries are all that stands in front of the gate at this place
pub record IsReadTo (r : Reading) (entries : List Entry) (bytes : List ℕ) (place : ℕ) : Type 0 where
  pub state : IsState r entries
  pub front : take place bytes ≡ header_of r.base ++ records_of entries
  pub within : place < length bytes

-- entries that were gathered as they were read up to the gate at this place
pub record GathersTo {G : Type 0} (is_of : G → List Entry
    → Type 0) (r : Reading) (gathered : G) (bytes : List ℕ) (place : ℕ) : Type 0 where
  pub entries : List Entry
  pub read : IsReadTo r entries bytes place
  pub made : is_of gathered entries

-- the bytes mean the base and these entries, with a gate behind them at this place
pub record IsWholeReading (r : Reading) (entries : List Entry) (bytes : List ℕ) (place : ℕ) : Type 0 where
  pub means : IsJournal bytes r.base entries
  pub state : IsState r entries
  pub gate : place ≡ length (header_of r.base ++ records_of entries)

-- what was gathered are the entries that the bytes mean
pub record Gathers {G : Type 0} (is_of : G → List Entry → Type 0) (r : Reading) (gathered : G) (bytes : List ℕ) (place : ℕ) : Type 0 where
  pub entries : List Entry
  pub whole : IsWholeReading r entries bytes place
  pub made : is_of gathered entries
