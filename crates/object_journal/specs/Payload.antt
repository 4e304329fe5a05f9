-- A record: the payload that an entry has, and the payload behind its length. Numbers stand with their highest byte
-- first.
use Rattle.std.specs.Prelude.{ℕ, ◌≤◌, List, [], ◌∷◌, ◌++◌, length}
use Rattle.std.specs.Int.{w16, w32, w64, to_be_bytes}
use Rattle.object_journal.specs.declared.key.Key.{Key}
use Rattle.object_journal.specs.declared.entry.Entry.{Entry}
use Rattle.object_journal.specs.declared.entry.Change.{Change}
use Rattle.object_journal.specs.declared.entry.Change.TheVariants.{Put, Removal}

abbrev pub tag_of : Change → ℕ
tag_of (Put created body) = 0
tag_of Removal = 1

-- a removal has none, and writes 0
abbrev pub created_of : Change → ℕ
created_of (Put created body) = created
created_of Removal = 0

abbrev pub body_of : Change → List ℕ
body_of (Put created body) = body
body_of Removal = []

-- a text behind its length
abbrev pub text_field : List ℕ → List ℕ
text_field text = to_be_bytes w16 (length text) ++ text

abbrev pub key_fields : Key → List ℕ
key_fields k = text_field k.group ++ text_field k.resource ++ text_field k.namespace ++ text_field k.name

-- the tag, the revision and the created revision
abbrev pub number_fields : ℕ → ℕ → ℕ → List ℕ
number_fields tag revision created = (tag ∷ []) ++ to_be_bytes w64 revision ++ to_be_bytes w64 created

-- the body goes to the end
abbrev pub payload_of : Entry → List ℕ
payload_of e = number_fields (tag_of e.change) e.revision (created_of e.change) ++ key_fields e.key ++ body_of e.change

abbrev pub frame_bytes : Entry → List ℕ
frame_bytes e = to_be_bytes w32 (length (payload_of e)) ++ payload_of e

abbrev pub longest_payload : ℕ
longest_payload = 1048576

-- each text has a length of two bytes
pub record HasShortTexts (k : Key) : Type 0 where
  pub group : length k.group ≤ 65535
  pub resource : length k.resource ≤ 65535
  pub namespace : length k.namespace ≤ 65535
  pub name : length k.name ≤ 65535
