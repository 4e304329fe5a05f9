-- The items that a stream of bytes splits into: whole requests, and at most one that can't be taken.
use Rattle.std.specs.Prelude.{◌≡◌, ◌<◌, ◌≤◌, ◌+◌, ◌⊎◌, ℕ, List, [], ◌∷◌, ◌++◌, Bool, true, false, length}
use Rattle.std.specs.List.{list_all}
use Rattle.httparse.specs.Grammar.{LineEnd, RequestHead, ReadsRequest}
use Rattle.http_front.specs.Heads.{IsFront, HasNoHead, IsOfOneHead, front_bytes, line_feeds}
use Rattle.http_front.specs.Said.{head_length, body_size, length_values, is_length_text, IsSaidBy}
use Rattle.http_front.specs.declared.request.Request.{Request}
use Rattle.http_front.specs.declared.request.Taken.{Taken}
use Rattle.http_front.specs.declared.request.Taken.TheVariants.{More, Bad, Whole}

-- the stream begins with a head that `httparse` reads as this tree, up to its last byte
pub record BeginsHead (stream : List ℕ) (tree : RequestHead) (rest : List ℕ) : Type 0 where
  pub skipped : List LineEnd
  pub head : List ℕ
  pub front : IsFront stream skipped head rest
  pub reads : ReadsRequest head tree []

-- 16,384 bytes are there without the end of a head
pub record HasNoEnd (stream : List ℕ) : Type 0 where
  pub bytes : List ℕ
  pub rest : List ℕ
  pub whole : stream ≡ bytes ++ rest
  pub full : length bytes ≡ 16384
  pub none : HasNoHead bytes

-- the head ends beyond 16,384 bytes
pub record EndsLate (stream : List ℕ) : Type 0 where
  pub skipped : List LineEnd
  pub head : List ℕ
  pub rest : List ℕ
  pub front : IsFront stream skipped head rest
  pub long : 16384 < length (front_bytes skipped head)

-- what is skipped and the head have more than 128 line feeds; while a head hasn't ended, all bytes are its own
pub record HasManyLines (stream : List ℕ) : Type 0 where
  pub bytes : List ℕ
  pub rest : List ℕ
  pub whole : stream ≡ bytes ++ rest
  pub one : IsOfOneHead bytes
  pub many : 128 < line_feeds bytes

-- the head is none that `httparse` reads up to its last byte
pub record HasOtherHead (stream : List ℕ) : Type 0 where
  pub skipped : List LineEnd
  pub head : List ℕ
  pub rest : List ℕ
  pub front : IsFront stream skipped head rest
  pub other : (tree : RequestHead) → ¬ (ReadsRequest head tree [])

-- there are two `Content-Length` lines
pub record HasTwoLengths (stream : List ℕ) : Type 0 where
  pub tree : RequestHead
  pub rest : List ℕ
  pub head : BeginsHead stream tree rest
  pub two : 1 < length (length_values tree)

-- the value of a `Content-Length` line isn't 1 to 19 decimal digits
pub record HasBadLength (stream : List ℕ) : Type 0 where
  pub tree : RequestHead
  pub rest : List ℕ
  pub head : BeginsHead stream tree rest
  pub bad : list_all is_length_text (length_values tree) ≡ false

-- no request can be taken
pub data IsBad (stream : List ℕ) : Type 0 where
  no_end : HasNoEnd stream → IsBad stream
  ends_late : EndsLate stream → IsBad stream
  many_lines : HasManyLines stream → IsBad stream
  other_head : HasOtherHead stream → IsBad stream
  two_lengths : HasTwoLengths stream → IsBad stream
  bad_length : HasBadLength stream → IsBad stream

-- the stream begins with a head from which a request can be taken
pub record BeginsSoundHead (stream : List ℕ) (tree : RequestHead) (rest : List ℕ) : Type 0 where
  pub head : BeginsHead stream tree rest
  pub short : length (front_bytes head.skipped head.head) ≤ 16384
  pub few : line_feeds (front_bytes head.skipped head.head) ≤ 128
  pub once : length (length_values tree) ≤ 1
  pub numbers : list_all is_length_text (length_values tree) ≡ true

-- the stream begins with this request
pub record BeginsRequest (stream : List ℕ) (request : Request) (behind : List ℕ) : Type 0 where
  pub tree : RequestHead
  pub head : BeginsSoundHead stream tree (request.body ++ behind)
  pub says : IsSaidBy tree request

-- what a stream is split into
pub data Item : Type 0 where
  taken_request : (taken : Request) → Item
  refused : Item

-- the stream begins with this item. What can't be taken stays in the stream
abbrev pub IsItem : List ℕ → Item → List ℕ → Type 0
IsItem stream (taken_request taken) behind = BeginsRequest stream taken behind
IsItem stream refused behind = IsBad stream × (behind ≡ stream)

-- no item can be split off
abbrev pub HasNoItem : List ℕ → Type 0
HasNoItem stream = (item : Item) (behind : List ℕ) → ¬ (IsItem stream item behind)

-- nothing behind this item counts
abbrev pub is_final : Item → Bool
is_final (taken_request taken) = taken.last
is_final refused = true

-- the stream splits into these items and a rest
abbrev pub IsSplit : List ℕ → List Item → List ℕ → Type 0
IsSplit stream [] rest = HasNoItem stream × (rest ≡ stream)
IsSplit stream (item ∷ items) rest =
    (behind : List ℕ) × IsItem stream item behind
    × (is_final item ≡ true → (items ≡ []) × (rest ≡ behind))
    × (is_final item ≡ false → IsSplit behind items rest)

-- a head has ended, but its body isn't all there
pub record LacksBody (stream : List ℕ) : Type 0 where
  pub tree : RequestHead
  pub rest : List ℕ
  pub head : BeginsSoundHead stream tree rest
  pub short : length rest < body_size (head_length tree)

-- what was taken is the front of the stream; more bytes are needed where the head or the body isn't complete
abbrev pub IsTaken : List ℕ → Taken → Type 0
IsTaken stream More = (HasNoHead stream ⊎ LacksBody stream) × HasNoItem stream
IsTaken stream Bad = IsBad stream
IsTaken stream (Whole taken used) =
    (behind : List ℕ) × BeginsRequest stream taken behind × (used + length behind ≡ length stream)

-- one answer is right
abbrev pub HasOneAnswer : List ℕ → Type 0
HasOneAnswer stream = (a b : Taken) → IsTaken stream a → IsTaken stream b → a ≡ b

-- a stream splits in at most one way
abbrev pub SplitsOnce : List ℕ → Type 0
SplitsOnce stream =
    (items others : List Item) (rest left : List ℕ)
    → IsSplit stream items rest → IsSplit stream others left → (items ≡ others) × (rest ≡ left)

-- more bytes never change an item, and what is complete stays complete
abbrev pub KeepsItems : List ℕ → Type 0
KeepsItems stream =
    (more : List ℕ) (items later : List Item) (rest left : List ℕ)
    → IsSplit stream items rest → IsSplit (stream ++ more) later left
    → (further : List Item) × (later ≡ items ++ further)

-- what is the first item stays it, whatever bytes come
abbrev pub KeepsItem : List ℕ → Type 0
KeepsItem stream =
    (more : List ℕ) (item : Item) (behind : List ℕ) → IsItem stream item behind
    → (later : List ℕ) × IsItem (stream ++ more) item later

-- a request needs no byte behind it
abbrev pub NeedsNoMore : List ℕ → Type 0
NeedsNoMore stream =
    (taken : Request) (behind : List ℕ) → BeginsRequest stream taken behind
    → (front : List ℕ) × (stream ≡ front ++ behind) × BeginsRequest front taken []
