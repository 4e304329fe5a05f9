-- How a frame is seen: as the entry that its payload tells.
use Rattle.std.specs.Prelude.{◌≡◌, ℕ, ◌-◌, ◌≤◌, ◌==◌, if◌then◌else◌, List, [], ◌∷◌, ◌++◌, length, get_or, take, drop}
use Rattle.std.specs.Int.{w16, w64, from_be_bytes}
use Rattle.object_journal.specs.declared.key.Key.{Key}
use Rattle.object_journal.specs.declared.entry.Entry.{Entry}
use Rattle.object_journal.specs.declared.entry.Change.TheVariants.{Put, Removal}
use Rattle.object_journal.specs.Payload.{HasShortTexts, longest_payload, payload_of, frame_bytes}

-- the text at the front, and what is behind it
abbrev pub text_at : List ℕ → List ℕ
text_at bytes = take (from_be_bytes w16 (take 2 bytes)) (drop 2 bytes)

abbrev pub behind_text : List ℕ → List ℕ
behind_text bytes = drop (from_be_bytes w16 (take 2 bytes)) (drop 2 bytes)

abbrev pub key_at : List ℕ → Key
key_at bytes = record {
  group = text_at bytes;
  resource = text_at (behind_text bytes);
  namespace = text_at (behind_text (behind_text bytes));
  name = text_at (behind_text (behind_text (behind_text bytes)));
}

abbrev pub behind_key : List ℕ → List ℕ
behind_key bytes = behind_text (behind_text (behind_text (behind_text bytes)))

abbrev pub entry_in : List ℕ → Entry
entry_in payload = record {
  key = key_at (drop 17 payload);
  revision = from_be_bytes w64 (take 8 (drop 1 payload));
  change = if get_or payload 0 0 == 0 then Put (from_be_bytes w64 (take 8 (drop 9 payload))) (behind_key (drop 17 payload)) else Removal;
}

-- the product writes this byte for a closed gate
abbrev pub closed_gate : ℕ
closed_gate = 0

-- of bytes with a gate at their end
abbrev pub entry_of : List ℕ → Entry
entry_of bytes = entry_in (drop 4 (take (length bytes - 1) bytes))

-- the bytes are length and payload of the entry, which are within their limits, and a closed gate
pub record IsFrame (e : Entry) (bytes : List ℕ) : Type 0 where
  pub bytes_are : bytes ≡ frame_bytes e ++ closed_gate ∷ []
  pub short : HasShortTexts e.key
  pub within : length (payload_of e) ≤ longest_payload
