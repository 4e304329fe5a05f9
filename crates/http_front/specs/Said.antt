-- What the head of a request says of it.
use Rattle.std.specs.Prelude.{◌≡◌, ◌+◌, ◌==◌, ◌&&◌, ◌||◌, not, ℕ, List, [], ◌∷◌, Bool, true, if◌then◌else◌, Option, Some, None, map, take, drop, length, nat_lt, nat_le, position, codes, bytes_eq}
use Rattle.std.specs.List.{list_all}
use Rattle.std.specs.Char.{is_ascii_digit}
use Rattle.std.specs.Str.Parse.{digits_value}
use Rattle.httparse.specs.Grammar.{RequestHead}
use Rattle.httparse.specs.Spans.{name_and_value}
use Rattle.http1.specs.Fields.{values_named, elements_named, has_option}
use Rattle.http_front.specs.declared.request.Verb.{Verb}
use Rattle.http_front.specs.declared.request.Verb.TheVariants.{Get, Post, Put, Delete, Patch, Head, Other}
use Rattle.http_front.specs.declared.request.Length.{Length}
use Rattle.http_front.specs.declared.request.Length.TheVariants.{Given, Chunked}
use Rattle.http_front.specs.declared.request.Request.{Request}

-- the names and the values of the header lines
abbrev pub header_lines : RequestHead → List (List ℕ × List ℕ)
header_lines tree = map name_and_value tree.fields

-- the values of the lines with this name, which is compared without case
abbrev pub header_values : List ℕ → RequestHead → List (List ℕ)
header_values name tree = values_named name (header_lines tree)

abbrev pub length_values : RequestHead → List (List ℕ)
length_values tree = header_values (codes "content-length") tree

-- 1 to 19 decimal digits
abbrev pub is_length_text : List ℕ → Bool
is_length_text value = nat_lt 0 (length value) && (nat_le (length value) 19 && list_all is_ascii_digit value)

-- the length that the values of the `Content-Length` lines tell: 0 without one
abbrev pub length_number : List (List ℕ) → ℕ
length_number [] = 0
length_number (value ∷ _) = digits_value 10 value

-- the number, if there is at most one line and its value is 1 to 19 digits
abbrev pub lawful_length : List (List ℕ) → Option ℕ
lawful_length [] = Some 0
lawful_length (value ∷ []) = (if is_length_text value then Some (digits_value 10 value) else None)
lawful_length (_ ∷ _ ∷ _) = None

abbrev pub is_chunked : RequestHead → Bool
is_chunked tree = not (length (header_values (codes "transfer-encoding") tree) == 0)

-- `Transfer-Encoding` counts before `Content-Length`
abbrev pub length_said : Bool → ℕ → Length
length_said chunked number = (if chunked then Chunked else Given number)

abbrev pub head_length : RequestHead → Length
head_length tree = length_said (is_chunked tree) (length_number (length_values tree))

-- a body of this length isn't read: the request is whole at its head
abbrev pub is_unread : Length → Bool
is_unread Chunked = true
is_unread (Given number) = nat_lt 65536 number

-- how many bytes of the stream are the body
abbrev pub body_size : Length → ℕ
body_size Chunked = 0
body_size (Given number) = (if nat_lt 65536 number then 0 else number)

-- `close` is a word of a `Connection` line
abbrev pub says_close : RequestHead → Bool
says_close tree = has_option (codes "close") (elements_named (codes "connection") (header_lines tree))

-- the connection closes after the reply: the body isn't read, the version is HTTP/1.0, or the head says so
abbrev pub is_last : Length → ℕ → Bool → Bool
is_last size minor close = is_unread size || ((minor == 0) || close)

-- the verb of the method, by its exact word
abbrev pub verb_of : List ℕ → Verb
verb_of method =
    (if bytes_eq method (codes "GET") then Get
    else (if bytes_eq method (codes "POST") then Post
    else (if bytes_eq method (codes "PUT") then Put
    else (if bytes_eq method (codes "DELETE") then Delete
    else (if bytes_eq method (codes "PATCH") then Patch
    else (if bytes_eq method (codes "HEAD") then Head else Other))))))

-- the place of the first `?`
abbrev pub question_at : List ℕ → Option ℕ
question_at target = position (λ c. c == 63) target

abbrev pub path_until : List ℕ → Option ℕ → List ℕ
path_until target None = target
path_until target (Some at) = take at target

-- the target up to its first `?`
abbrev pub path_part : List ℕ → List ℕ
path_part target = path_until target (question_at target)

abbrev pub query_behind : List ℕ → Option ℕ → List ℕ
query_behind target None = []
query_behind target (Some at) = drop (at + 1) target

-- the target behind its first `?`
abbrev pub query_part : List ℕ → List ℕ
query_part target = query_behind target (question_at target)

-- the request is what this head says, with a body of the length that it tells
pub record IsSaidBy (tree : RequestHead) (request : Request) : Type 0 where
  pub verb : request.verb ≡ verb_of tree.method
  pub path : request.path ≡ path_part tree.target
  pub query : request.query ≡ query_part tree.target
  pub size : request.length ≡ head_length tree
  pub last : request.last ≡ is_last (head_length tree) tree.minor (says_close tree)
  pub body : length request.body ≡ body_size (head_length tree)
