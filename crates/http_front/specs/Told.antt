-- What is known of a head while a request is taken from it.
use Rattle.std.specs.Prelude.{◌≡◌, ◌≤◌, ℕ, List, [], Option, All, length, map, drop, codes, not, ◌==◌}
use Rattle.httparse.specs.Grammar.{RequestHead, ReadsRequest}
use Rattle.httparse.specs.Spans.{IsWithin, IsHeaderWithin, header_bytes, span_bytes}
use Rattle.httparse.specs.declared.spans.HeaderSpan.{HeaderSpan}
use Rattle.httparse.specs.declared.spans.RequestSpans.{RequestSpans}
use Rattle.http1.specs.Fields.{values_named, elements_named, has_option}
use Rattle.http_front.specs.Said.{verb_of, path_part, query_part, header_lines, head_length, length_said, lawful_length, is_last, says_close}
use Rattle.http_front.specs.Items.{BeginsSoundHead}
use Rattle.http_front.specs.declared.parts.Said.{Said}
use Rattle.http_front.specs.declared.request.Request.{Request}

-- the parts and the lines lie in the head
pub record HasParts (head : List ℕ) (lines : List HeaderSpan) (found : RequestSpans) : Type 0 where
  pub method : IsWithin (length head) found.method
  pub target : IsWithin (length head) found.path
  pub lines_fit : All (IsHeaderWithin (length head)) lines

-- `httparse` reads the whole head as a tree of these parts and lines
pub record IsReadAs (head : List ℕ) (lines : List HeaderSpan) (found : RequestSpans) : Type 0 where
  pub tree : RequestHead
  pub reads : ReadsRequest head tree []
  pub method : span_bytes head found.method ≡ tree.method
  pub target : span_bytes head found.path ≡ tree.target
  pub minor : found.version ≡ tree.minor
  pub lines_are : map (header_bytes head) lines ≡ header_lines tree

-- the values of the lines with this name
abbrev pub values_at : List ℕ → List HeaderSpan → List ℕ → List (List ℕ)
values_at head lines name = values_named name (map (header_bytes head) lines)

-- the number that the lines tell, where they are lawful
abbrev pub number_at : List ℕ → List HeaderSpan → Option ℕ
number_at head lines = lawful_length (values_at head lines (codes "content-length"))

-- what the parts and the lines say, of which those of the length tell this number
pub record IsTold (head : List ℕ) (lines : List HeaderSpan) (found : RequestSpans) (number : ℕ) (said : Said) : Type 0 where
  pub verb : said.verb ≡ verb_of (span_bytes head found.method)
  pub path : said.path.now ≡ path_part (span_bytes head found.path)
  pub query : said.query.now ≡ query_part (span_bytes head found.path)
  pub size : said.length
      ≡ length_said (not (length (values_at head lines (codes "transfer-encoding")) == 0)) number
  pub last : said.last ≡ is_last said.length found.version
      (has_option (codes "close") (elements_named (codes "connection") (map (header_bytes head) lines)))

-- the stream begins with a sound head behind which the front ends, and that says this
pub record HasSaid (stream front : List ℕ) (said : Said) : Type 0 where
  pub tree : RequestHead
  pub within : length front ≤ length stream
  pub head : BeginsSoundHead stream tree (drop (length front) stream)
  pub verb : said.verb ≡ verb_of tree.method
  pub path : said.path.now ≡ path_part tree.target
  pub query : said.query.now ≡ query_part tree.target
  pub size : said.length ≡ head_length tree
  pub last : said.last ≡ is_last (head_length tree) tree.minor (says_close tree)

-- the request is what is said, with this body
pub record IsRequestWith (said : Said) (body : List ℕ) (request : Request) : Type 0 where
  pub verb : request.verb ≡ said.verb
  pub path : request.path ≡ said.path.now
  pub query : request.query ≡ said.query.now
  pub size : request.length ≡ said.length
  pub last : request.last ≡ said.last
  pub body_is : request.body ≡ body
