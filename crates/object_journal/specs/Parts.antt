-- What the bytes of a record are parted into.
use Rattle.std.specs.Prelude.{◌≡◌, ℕ, ◌≤◌, ◌<◌, ◌^◌, List, ◌++◌, length, take}
use Rattle.std.specs.Str.{IsUtf8}
use Rattle.object_journal.specs.declared.key.Key.{Key}
use Rattle.object_journal.specs.declared.entry.Entry.{Entry}
use Rattle.object_journal.specs.declared.entry.Change.{Change}
use Rattle.object_journal.specs.declared.entry.Change.TheVariants as changes
use Rattle.object_journal.specs.declared.parts.KeyPart.{KeyPart}
use Rattle.object_journal.specs.declared.parts.ChangePart.{ChangePart}
use Rattle.object_journal.specs.declared.parts.ChangePart.TheVariants.{Put, Removal}
use Rattle.object_journal.specs.declared.parts.EntryPart.{EntryPart}
use Rattle.object_journal.specs.Payload.{longest_payload, payload_of, frame_bytes, tag_of, created_of, body_of, text_field, key_fields}
use Rattle.object_journal.specs.Journal.{HasLawfulTexts}

-- what stands in the file, as values
abbrev pub key_seen : KeyPart → Key
key_seen k = record { group = k.group.now; resource = k.resource.now; namespace = k.namespace.now; name = k.name.now }

abbrev pub change_seen : ChangePart → Change
change_seen (Put created body) = changes.Put created body.now
change_seen Removal = changes.Removal

abbrev pub entry_seen : EntryPart → Entry
entry_seen e = record { key = key_seen e.key; revision = e.revision; change = change_seen e.change }

pub record IsText (bytes text rest : List ℕ) : Type 0 where
  pub parts : bytes ≡ text_field text ++ rest
  pub short : length text ≤ 65535
  pub utf8 : IsUtf8 text

pub record AreTwoTexts (bytes a b rest : List ℕ) : Type 0 where
  pub parts : bytes ≡ text_field a ++ (text_field b ++ rest)
  pub short_a : length a ≤ 65535
  pub short_b : length b ≤ 65535
  pub utf8_a : IsUtf8 a
  pub utf8_b : IsUtf8 b

pub record IsKey (bytes : List ℕ) (k : Key) (rest : List ℕ) : Type 0 where
  pub parts : bytes ≡ key_fields k ++ rest
  pub texts : HasLawfulTexts k

-- the payload of an entry whose texts are lawful
pub record IsPayload (bytes : List ℕ) (e : Entry) : Type 0 where
  pub parts : bytes ≡ payload_of e
  pub texts : HasLawfulTexts e.key
  pub revision : e.revision < 2 ^ 64
  pub created : created_of e.change < 2 ^ 64

pub record IsChange (tag created : ℕ) (body : List ℕ) (c : Change) : Type 0 where
  pub tag_is : tag ≡ tag_of c
  pub created_is : created ≡ created_of c
  pub body_is : body ≡ body_of c

-- the bytes begin with the record of the entry, which has a payload of a lawful length, and a gate follows at the place
pub record IsRecordAt (bytes : List ℕ) (e : Entry) (place : ℕ) : Type 0 where
  pub payload : IsPayload (payload_of e) e
  pub within : length (payload_of e) ≤ longest_payload
  pub parts : take place bytes ≡ frame_bytes e
  pub gate : place < length bytes
  pub place_is : place ≡ length (frame_bytes e)
