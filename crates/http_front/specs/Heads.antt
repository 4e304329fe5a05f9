-- The front of a stream of bytes: empty lines, which are skipped, and the head of a request (RFC 9112).
use Rattle.std.specs.Prelude.{◌≡◌, ◌<◌, ◌==◌, ℕ, List, [], ◌∷◌, ◌++◌, length, take, drop, count_by}
use Rattle.httparse.specs.Grammar.{LineEnd, print_end, print_blank}

-- CR LF, or LF alone, stands first
abbrev pub BeginsEmptyLine : List ℕ → Type 0
BeginsEmptyLine bytes = (end : LineEnd) × (rest : List ℕ) × (bytes ≡ print_end end ++ rest)

-- a line feed stands last, with an empty line behind it
abbrev pub EndsHead : List ℕ → Type 0
EndsHead bytes = (lines : List ℕ) × (end : LineEnd) × (bytes ≡ lines ++ (10 ∷ print_end end))

-- a head doesn't begin with an empty line, and ends at its first line feed that has one behind it
pub record IsHeadText (head : List ℕ) : Type 0 where
  pub starts : ¬ (BeginsEmptyLine head)
  pub ends : EndsHead head
  pub first : (front rest : List ℕ) → head ≡ front ++ rest → EndsHead front → rest ≡ []

-- the stream is empty lines, which are skipped, a head, and what stands behind it
pub record IsFront (stream : List ℕ) (skipped : List LineEnd) (head rest : List ℕ) : Type 0 where
  pub lawful : IsHeadText head
  pub whole : stream ≡ print_blank skipped ++ (head ++ rest)

-- no head has ended
abbrev pub HasNoHead : List ℕ → Type 0
HasNoHead stream =
    (skipped : List LineEnd) (head rest : List ℕ) → ¬ (IsFront stream skipped head rest)

-- no head has ended before the last of these bytes
abbrev pub IsOfOneHead : List ℕ → Type 0
IsOfOneHead bytes =
    (skipped : List LineEnd) (head rest : List ℕ) → IsFront bytes skipped head rest → rest ≡ []

-- the bytes that are skipped, and those of the head
abbrev pub front_bytes : List LineEnd → List ℕ → List ℕ
front_bytes skipped head = print_blank skipped ++ head

abbrev pub line_feeds : List ℕ → ℕ
line_feeds bytes = count_by (λ c. c == 10) bytes

-- the first n bytes of the text are the shortest front of it that ends as a head does
pub record IsFirstEnd (text : List ℕ) (n : ℕ) : Type 0 where
  pub ends : EndsHead (take n text)
  pub first : (m : ℕ) → m < n → ¬ (EndsHead (take m text))

-- the stream begins with these bytes, which are skipped lines and this head
pub record IsFrontOf (stream front head : List ℕ) : Type 0 where
  pub skipped : List LineEnd
  pub both : front ≡ front_bytes skipped head
  pub parts : IsFront stream skipped head (drop (length front) stream)
