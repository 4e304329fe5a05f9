-- The bytes of a reply (HTTP/1.1, RFC 9112): lines, an empty line, the body.
use Rattle.std.specs.Prelude.{◌≡◌, ◌≢◌, ◌<◌, ℕ, List, [], ◌∷◌, ◌++◌, Bool, true, false, if◌then◌else◌, Option, Some, None, All, Contains, IfSome, length, decimal, codes, unwrap_or}
use Rattle.std.specs.List.{flat_map}
use Rattle.http.specs.StatusCode.{reason_phrase}
use Rattle.http_front.specs.Refusals.{refusal_text}
use Rattle.http_front.specs.declared.reply.Page.{Page}
use Rattle.http_front.specs.declared.reply.Page.TheVariants.{Json, Metrics}
use Rattle.http_front.specs.declared.reply.Reply.{Reply}

-- the codes of replies: done, created, and the refusals
abbrev pub reply_codes : List ℕ
reply_codes = 200 ∷ 201 ∷ 400 ∷ 404 ∷ 405 ∷ 409 ∷ 411 ∷ 413 ∷ 422 ∷ 507 ∷ []

-- the phrase of a code
abbrev pub phrase : ℕ → List ℕ
phrase code = unwrap_or (reason_phrase code) []

abbrev pub status_line : ℕ → List ℕ
status_line code = codes "HTTP/1.1 " ++ (decimal code ++ (codes " " ++ phrase code))

abbrev pub content_type : Page → List ℕ
content_type Json = codes "application/json"
content_type Metrics = codes "text/plain; version=0.0.4"

-- the methods that would be lawful, if they are told
abbrev pub allow_lines : List ℕ → List (List ℕ)
allow_lines [] = []
allow_lines (c ∷ cs) = (codes "Allow: " ++ (c ∷ cs)) ∷ []

abbrev pub warning_lines : Option (List ℕ) → List (List ℕ)
warning_lines None = []
warning_lines (Some warning) = (codes "Warning: " ++ warning) ∷ []

abbrev pub close_lines : Bool → List (List ℕ)
close_lines true = codes "Connection: close" ∷ []
close_lines false = []

-- the line that tells the length of the body
abbrev pub length_line : List ℕ → List ℕ
length_line body = codes "Content-Length: " ++ decimal (length body)

-- the lines that every head has
abbrev pub first_lines : ℕ → Page → List ℕ → List (List ℕ)
first_lines code page body =
    status_line code ∷ (codes "Content-Type: " ++ content_type page) ∷ length_line body ∷ []

-- the lines that a head may have
abbrev pub further_lines : Reply → List (List ℕ)
further_lines reply =
    allow_lines reply.allow ++ (warning_lines reply.warning ++ close_lines reply.last)

-- the lines of a reply's head, in order
abbrev pub head_lines : Reply → List (List ℕ)
head_lines reply = first_lines reply.code reply.page reply.body ++ further_lines reply

-- the body, left out for HEAD
abbrev pub sent_body : Reply → List ℕ
sent_body reply = if reply.bare then [] else reply.body

-- CR LF
abbrev pub line_end : List ℕ
line_end = 13 ∷ 10 ∷ []

-- the lines, each with its end
abbrev pub lines_text : List (List ℕ) → List ℕ
lines_text lines = flat_map (λ line. line ++ line_end) lines

-- lines, an empty line, and a body
abbrev pub message_text : List (List ℕ) → List ℕ → List ℕ
message_text lines body = lines_text lines ++ (line_end ++ body)

abbrev pub reply_text : Reply → List ℕ
reply_text reply = message_text (head_lines reply) (sent_body reply)

-- no line feed and no carriage return
abbrev pub IsPlain : List ℕ → Type 0
IsPlain text = All (λ c. (c ≢ 10) × (c ≢ 13)) text

-- what a client reads: lines that aren't empty up to the first empty one, and the body behind it
pub record ReadsAs (bytes : List ℕ) (lines : List (List ℕ)) (body : List ℕ) : Type 0 where
  pub some : All (λ line. 0 < length line) lines
  pub plain : All IsPlain lines
  pub whole : bytes ≡ message_text lines body

-- the texts that a reply carries in its head have no line breaks
pub record HasPlainTexts (reply : Reply) : Type 0 where
  pub allow : IsPlain reply.allow
  pub warning : IfSome reply.warning IsPlain

-- a client reads the lines and the body of the reply and no others; the first line tells its code, and
-- where the body is sent, a line tells its length
pub record ReadsBack (reply : Reply) : Type 0 where
  pub reads : ReadsAs (reply_text reply) (head_lines reply) (sent_body reply)
  pub once : (lines : List (List ℕ)) (body : List ℕ) → ReadsAs (reply_text reply) lines body
      → (lines ≡ head_lines reply) × (body ≡ sent_body reply)
  pub told : (code : ℕ) → code < 1000 → status_line code ≡ status_line reply.code → code ≡ reply.code
  pub counted : reply.bare ≡ false → Contains (head_lines reply) (length_line (sent_body reply))

-- the reply to a head that can't be read, after which the connection closes
pub record IsBadReply (reply : Reply) : Type 0 where
  pub code : reply.code ≡ 400
  pub page : reply.page ≡ Json
  pub allow : reply.allow ≡ []
  pub warning : reply.warning ≡ None
  pub body : reply.body ≡ refusal_text 400 (codes "the request is not HTTP/1.1") (codes "BadRequest")
  pub bare : reply.bare ≡ false
  pub last : reply.last ≡ true
