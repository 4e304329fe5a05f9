-- What is known of a stream while it has no item, so that it needn't be looked at again.
use Rattle.std.specs.Prelude.{◌≡◌, ◌≤◌, ◌+◌, ℕ, List, ◌++◌, length, take}
use Rattle.httparse.specs.Grammar.{RequestHead}
use Rattle.http_front.specs.Heads.{HasNoHead, line_feeds}
use Rattle.http_front.specs.Said.{head_length, body_size}
use Rattle.http_front.specs.Items.{BeginsSoundHead, IsTaken}
use Rattle.http_front.specs.declared.request.Known.{Known}
use Rattle.http_front.specs.declared.request.Known.TheVariants.{NoHead, Size}
use Rattle.http_front.specs.declared.request.Next.{Next}
use Rattle.http_front.specs.declared.request.Next.TheVariants.{Waits}
use Rattle.http_front.specs.declared.request.Next.TheVariants as next
use Rattle.http_front.specs.declared.request.Taken.TheVariants as taken

-- no head ends in the first `looked` bytes of the stream, which have so many line feeds
pub record IsLookedAt (stream : List ℕ) (looked lines : ℕ) : Type 0 where
  pub within : looked ≤ length stream
  pub none : HasNoHead (take looked stream)
  pub count : lines ≡ line_feeds (take looked stream)
  pub few : lines ≤ 128

-- the stream begins with a sound head, which has so many bytes with the empty lines before it and its body
pub record IsOfSize (stream : List ℕ) (size : ℕ) : Type 0 where
  pub tree : RequestHead
  pub rest : List ℕ
  pub head : BeginsSoundHead stream tree rest
  pub sum : size + length rest ≡ length stream + body_size (head_length tree)

-- this is so of the stream
abbrev pub IsKnown : List ℕ → Known → Type 0
IsKnown stream (NoHead looked lines) = IsLookedAt stream looked lines
IsKnown stream (Size size) = IsOfSize stream size

-- what comes next of the stream; while it waits for more bytes, with what is known of it
abbrev pub IsNext : List ℕ → Next → Type 0
IsNext stream (Waits known) = IsTaken stream taken.More × IsKnown stream known
IsNext stream next.Bad = IsTaken stream taken.Bad
IsNext stream (next.Whole request used) = IsTaken stream (taken.Whole request used)

-- what is known of a stream stays so when more bytes come
abbrev pub StaysKnown : List ℕ → Type 0
StaysKnown stream = (more : List ℕ) (known : Known) → IsKnown stream known → IsKnown (stream ++ more) known
