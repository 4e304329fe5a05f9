-- The journal, format 1: which bytes of a file mean which entries, and where the others break the grammar.
use Rattle.std.specs.Prelude.{◌≡◌, ◌≢◌, ◌⊎◌, ℕ, ◌+◌, ◌≤◌, ◌<◌, List, [], ◌∷◌, ◌++◌, length, codes, All, AllPairs, max}
use Rattle.std.specs.Int.{w64, to_be_bytes}
use Rattle.std.specs.Str.{IsUtf8}
use Rattle.object_journal.specs.declared.key.Key.{Key}
use Rattle.object_journal.specs.declared.entry.Entry.{Entry}
use Rattle.object_journal.specs.declared.entry.Change.{Change}
use Rattle.object_journal.specs.declared.entry.Change.TheVariants.{Put, Removal}
use Rattle.object_journal.specs.Payload.{HasShortTexts, longest_payload, payload_of, frame_bytes}

-- limits of a journal
abbrev pub last_revision : ℕ
last_revision = 1000000

abbrev pub most_keys : ℕ
most_keys = 4096

-- what entries leave

abbrev pub IsPut : Change → Type 0
IsPut (Put created body) = Unit {0}
IsPut Removal = ⊥

-- entries leave those puts behind which none of them is of the same key
pub record Leaves (entries : List Entry) (e : Entry) : Type 0 where
  pub before : List Entry
  pub behind : List Entry
  pub parts : entries ≡ before ++ e ∷ behind
  pub put : IsPut e.change
  pub last : All (λ other. other.key ≢ e.key) behind

-- the keys that they leave held
abbrev pub IsHeld : List Entry → Key → Type 0
IsHeld entries key = (e : Entry) × Leaves entries e × (e.key ≡ key)

-- the greatest of the base and of the revisions
abbrev pub revision_after : ℕ → List Entry → ℕ
revision_after base [] = base
revision_after base (e ∷ es) = max e.revision (revision_after base es)

-- which entry may follow others

-- a put was created at its revision or before it, and a removal is of a held key
abbrev pub IsLawfulChange : List Entry → Entry → Change → Type 0
IsLawfulChange before e (Put created body) = (1 ≤ created) × (created ≤ e.revision)
IsLawfulChange before e Removal = IsHeld before e.key

-- Up to the base the revisions are those of a compacted journal, in any order. From the first above the base on, each
-- is the next one.
pub record IsNextRevision (base : ℕ) (before : List Entry) (revision : ℕ) : Type 0 where
  pub first : 1 ≤ revision
  pub fits : revision ≤ last_revision
  pub at_base : revision_after base before ≡ base → revision ≤ base + 1
  pub above_base : base < revision_after base before → revision ≡ revision_after base before + 1

pub record HasLawfulTexts (k : Key) : Type 0 where
  pub short : HasShortTexts k
  pub group : IsUtf8 k.group
  pub resource : IsUtf8 k.resource
  pub namespace : IsUtf8 k.namespace
  pub name : IsUtf8 k.name

-- no more keys than a journal may hold are held
abbrev pub FewHeld : List Entry → Type 0
FewHeld entries = (keys : List Key) → AllPairs (λ a b. a ≢ b) keys → All (IsHeld entries) keys → length keys ≤ most_keys

pub record MayFollow (base : ℕ) (before : List Entry) (e : Entry) : Type 0 where
  pub revision : IsNextRevision base before e.revision
  pub texts : HasLawfulTexts e.key
  pub within : length (payload_of e) ≤ longest_payload
  pub change : IsLawfulChange before e e.change
  pub few : FewHeld (before ++ e ∷ [])

-- each entry may follow those before it
abbrev pub AreLawful : ℕ → List Entry → Type 0
AreLawful base entries = (before : List Entry) (e : Entry) (behind : List Entry) → entries ≡ before ++ e ∷ behind
    → MayFollow base before e

-- the bytes

-- a gate of this byte is open, of any other closed
abbrev pub open_gate : ℕ
open_gate = 79

abbrev pub header_of : ℕ → List ℕ
header_of base = codes "KEMUJNL1" ++ to_be_bytes w64 base

-- the records, each behind its open gate
abbrev pub records_of : List Entry → List ℕ
records_of [] = []
records_of (e ∷ es) = (open_gate ∷ frame_bytes e) ++ records_of es

-- a file of at most 16 bytes is fresh, whatever it holds
abbrev pub IsFresh : List ℕ → Type 0
IsFresh bytes = length bytes ≤ 16

-- a header and one gate, whatever its byte
pub record IsHeader (bytes : List ℕ) (base : ℕ) : Type 0 where
  pub gate : ℕ
  pub parts : bytes ≡ header_of base ++ gate ∷ []
  pub base_fits : base ≤ last_revision

-- A header, lawful records, and the first closed gate. What is behind it means nothing.
pub record IsGated (bytes : List ℕ) (base : ℕ) (entries : List Entry) : Type 0 where
  pub gate : ℕ
  pub behind : List ℕ
  pub parts : bytes ≡ header_of base ++ (records_of entries ++ gate ∷ behind)
  pub base_fits : base ≤ last_revision
  pub lawful : AreLawful base entries
  pub closed : gate ≢ open_gate

-- the bytes of a file mean this base and these entries
abbrev pub IsJournal : List ℕ → ℕ → List Entry → Type 0
IsJournal bytes base entries =
    (IsFresh bytes × (base ≡ 0) × (entries ≡ []))
    ⊎ (IsHeader bytes base × (entries ≡ []))
    ⊎ IsGated bytes base entries

-- where other bytes break the grammar

abbrev pub HasNoHeader : List ℕ → Type 0
HasNoHeader bytes = (base : ℕ) (rest : List ℕ) → base ≤ last_revision → bytes ≢ header_of base ++ rest

-- behind an open gate these bytes have no whole record and next gate, or an unlawful record
abbrev pub HasNoNext : ℕ → List Entry → List ℕ → Type 0
HasNoNext base before rest = (e : Entry) (gate : ℕ) (behind : List ℕ) → rest ≡ frame_bytes e ++ gate ∷ behind → ¬ MayFollow base before e

-- behind lawful records, at this place, an open gate that no lawful record follows
pub record IsBrokenAt (bytes : List ℕ) (place : ℕ) : Type 0 where
  pub base : ℕ
  pub entries : List Entry
  pub rest : List ℕ
  pub parts : bytes ≡ header_of base ++ (records_of entries ++ open_gate ∷ rest)
  pub base_fits : base ≤ last_revision
  pub lawful : AreLawful base entries
  pub none : HasNoNext base entries rest
  pub place_is : place ≡ length (header_of base ++ records_of entries)

-- the place of the header, or that of the gate before the first unlawful record
abbrev pub IsRefusal : List ℕ → ℕ → Type 0
IsRefusal bytes place =
    ((16 < length bytes) × HasNoHeader bytes × (place ≡ 0))
    ⊎ ((17 < length bytes) × IsBrokenAt bytes place)
