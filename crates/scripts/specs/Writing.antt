-- How an event is written as a line: `open`, `piece 3 "text"`, `bytes 3 6a6b` or `close 3`, with one space between the parts.
use Rattle.std.specs.Prelude.{◌≡◌, ◌⊎◌, ◌+◌, ◌-◌, ◌*◌, ◌^◌, ◌<◌, ◌≤◌, ℕ, List, ◌∷◌, ◌++◌, Some, length, slice_index, codes, decimal, EachIndex}
use Rattle.std.specs.Str.{IsUtf8}
use Rattle.serde_json.specs.Data.{string}
use Rattle.serde_json.specs.Read.{read}
use Rattle.scripts.specs.declared.script.ScriptEvent.{ScriptEvent}
use Rattle.scripts.specs.declared.script.ScriptEvent.TheVariants.{Open, Piece, Close}

-- the hexadecimal digit, small or capital, has this value
abbrev pub IsHexDigit : ℕ → ℕ → Type 0
IsHexDigit digit value = ((48 ≤ digit) × (digit ≤ 57) × (value ≡ digit - 48))
    ⊎ ((97 ≤ digit) × (digit ≤ 102) × (value ≡ digit - 87))
    ⊎ ((65 ≤ digit) × (digit ≤ 70) × (value ≡ digit - 55))

-- two digits have the value of the byte
abbrev pub IsHexByte : ℕ → ℕ → ℕ → Type 0
IsHexByte high low byte =
    (h : ℕ) × (l : ℕ) × IsHexDigit high h × IsHexDigit low l × (byte ≡ 16 * h + l)

-- two digits for each byte
pub record IsHex (hex bytes : List ℕ) : Type 0 where
  pub two : length hex ≡ 2 * length bytes
  pub each : EachIndex bytes (λ k. IsHexByte (slice_index hex (2 * k)) (slice_index hex (2 * k + 1))
      (slice_index bytes k))

-- The text is a JSON string (RFC 8259) of these bytes: it is what the reader of JSON reads as a string, and begins and ends
-- with a quotation mark, so that nothing stands around it.
pub record IsJsonString (json bytes : List ℕ) : Type 0 where
  pub utf8 : IsUtf8 json
  pub begins : slice_index json 0 ≡ 34
  pub ends : slice_index json (length json - 1) ≡ 34
  pub reads : read json ≡ Some (string bytes)

-- the connection's number in decimal without leading zeros, a space, and what stands behind it
abbrev pub numbered : ℕ → List ℕ → List ℕ
numbered c rest = decimal c ++ 32 ∷ rest

-- the line writes a piece as a JSON string. Numbers have 32 bits
pub record WritesText (line : List ℕ) (c : ℕ) (bytes : List ℕ) : Type 0 where
  pub small : c < 2 ^ 32
  pub json : List ℕ
  pub whole : line ≡ codes "piece " ++ numbered c json
  pub writes : IsJsonString json bytes

-- the line writes a piece in hexadecimal digits
pub record WritesHex (line : List ℕ) (c : ℕ) (bytes : List ℕ) : Type 0 where
  pub small : c < 2 ^ 32
  pub hex : List ℕ
  pub whole : line ≡ codes "bytes " ++ numbered c hex
  pub writes : IsHex hex bytes

-- the line writes that a connection is closed
pub record WritesClose (line : List ℕ) (c : ℕ) : Type 0 where
  pub small : c < 2 ^ 32
  pub whole : line ≡ codes "close " ++ decimal c

-- the line writes the event
abbrev pub Writes : List ℕ → ScriptEvent → Type 0
Writes line Open = line ≡ codes "open"
Writes line (Piece c bytes) = WritesText line c bytes ⊎ WritesHex line c bytes
Writes line (Close c) = WritesClose line c

-- a line writes at most one event
abbrev pub WritesOne : List ℕ → Type 0
WritesOne line = (a b : ScriptEvent) → Writes line a → Writes line b → a ≡ b
