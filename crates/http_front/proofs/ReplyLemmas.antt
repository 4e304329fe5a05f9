-- A reply is read in one way.
use Rattle.std.proofs.Common.{◌≡◌, ℕ, ◌<◌, ◌^◌, List, [], ◌∷◌, ◌++◌, Bool, true, false, not, ◌&&◌, ◌==◌, cond, Option, Some, None, length, decimal, refl, sym, ◌∙◌, ap, arith, append_assoc}
use Rattle.std.specs.Prelude.{◌≢◌, Contains, IfSome, codes}
use Rattle.std.specs.List.{AllByRecursion, list_all}
use Rattle.std.proofs.Common.{drop}
use Rattle.std.proofs.lemmas.Fmt.{decimal_is_IsNumeral}
use Rattle.std.specs.Str.Parse.{digits_value}
use Rattle.std.specs.Str.{all_ascii_digits}
use Rattle.std.specs.Char.{is_ascii_digit}
use Rattle.std.proofs.lemmas.Grind.{flat_map-append}
use Rattle.std.proofs.lemmas.List.{append-nil}
use Rattle.std.proofs.lemmas.Bool.{and_parts, false≢true}
use Rattle.std.proofs.lemmas.List.Sums.{list_all-from_AllPass}
use Rattle.std.proofs.lemmas.List.Elements.{recursion_from_All, All-from_recursion, All-contains}
use Rattle.http_header.specs.FieldValue.{IsVisibleAscii}
use Rattle.http_header.specs.Token.{is_visible_or_blank}
use Rattle.lifecycle.proofs.DigitLemmas.{all_ascii_digits-decimal, one_split}
use Rattle.http_front.specs.declared.reply.Page.{Page}
use Rattle.http_front.specs.declared.reply.Page.TheVariants.{Json, Metrics}
use Rattle.http_front.specs.declared.reply.Reply.{Reply}
use Rattle.http_front.specs.Replies.{reply_codes, phrase, status_line, content_type, first_lines, allow_lines, warning_lines, close_lines, length_line, head_lines, sent_body, line_end, lines_text, message_text, reply_text, IsPlain, HasPlainTexts, ReadsBack}

-- neither a line feed nor a carriage return
abbrev pub Plain : ℕ → Type 0
Plain c = (c ≢ 10) × (c ≢ 13)

byte_plain : (p : ℕ → Bool) → p 10 ≡ false → p 13 ≡ false → (c : ℕ) → p c ≡ true → Plain c
byte_plain p ten thirteen c h = (
  λ e. false≢true (sym ten ∙ ap p (sym e) ∙ h),
  λ e. false≢true (sym thirteen ∙ ap p (sym e) ∙ h),
)

text_plain : (p : ℕ → Bool) → p 10 ≡ false → p 13 ≡ false → (text : List ℕ) → list_all p text ≡ true → AllByRecursion Plain text
text_plain p ten thirteen [] h = tt
text_plain p ten thirteen (c ∷ cs) h =
    let (here, more) = and_parts (p c) (list_all p cs) h in
    (byte_plain p ten thirteen c here, text_plain p ten thirteen cs more)

digits_plain : (text : List ℕ) → all_ascii_digits text ≡ true → AllByRecursion Plain text
digits_plain [] h = tt
digits_plain (c ∷ cs) h =
    let (here, more) = and_parts (is_ascii_digit c) (all_ascii_digits cs) h in
    (byte_plain is_ascii_digit refl refl c here, digits_plain cs more)

both_plain : (a b : List ℕ) → AllByRecursion Plain a → AllByRecursion Plain b → AllByRecursion Plain (a ++ b)
both_plain [] b p q = q
both_plain (c ∷ cs) b p q = (p.0, both_plain cs b p.1 q)

-- a line that isn't empty and has no line break
abbrev pub Line : List ℕ → Type 0
Line text = (0 < length text) × AllByRecursion Plain text

line_once : (a b x y : List ℕ) → AllByRecursion Plain a → AllByRecursion Plain b → a ++ (13 ∷ 10 ∷ x) ≡ b ++ (13 ∷ 10 ∷ y) → (a ≡ b) × (x ≡ y)
line_once [] [] x y p q e = (refl, (let same : 13 ∷ 10 ∷ x ≡ 13 ∷ 10 ∷ y = e in cc))
line_once [] (c ∷ b) x y p q e = absurd (q.0.1 (let same : 13 ∷ 10 ∷ x ≡ c ∷ (b ++ (13 ∷ 10 ∷ y)) = e in cc))
line_once (c ∷ a) [] x y p q e = absurd (p.0.1 (let same : c ∷ (a ++ (13 ∷ 10 ∷ x)) ≡ 13 ∷ 10 ∷ y = e in cc))
line_once (c ∷ a) (d ∷ b) x y p q e =
    let same : c ∷ (a ++ (13 ∷ 10 ∷ x)) ≡ d ∷ (b ++ (13 ∷ 10 ∷ y)) = e in
    let head : c ≡ d = cc in
    let tail : a ++ (13 ∷ 10 ∷ x) ≡ b ++ (13 ∷ 10 ∷ y) = cc in
    let rest = line_once a b x y p.1 q.1 tail in
    ((let later : a ≡ b = rest.0 in cc), rest.1)

first_line : (line : List ℕ) (lines : List (List ℕ)) (body : List ℕ) → message_text (line ∷ lines) body ≡ line ++ (13 ∷ 10 ∷ message_text lines body)
first_line line lines body =
    append_assoc (line ++ line_end) (lines_text lines) (line_end ++ body) ∙ append_assoc line line_end (lines_text lines ++ (line_end ++ body))

no_line_first : (line : List ℕ) (lines : List (List ℕ)) (x y : List ℕ) → Line line → 13 ∷ 10 ∷ x ≡ message_text (line ∷ lines) y → ⊥
no_line_first [] lines x y h e = let some : 0 < 0 = h.0 in omega (arith, some)
no_line_first (c ∷ cs) lines x y h e = h.1.0.1 (let same : 13 ∷ 10 ∷ x ≡ c ∷ (cs ++ (13 ∷ 10 ∷ message_text lines y)) = e ∙ first_line (c ∷ cs) lines y in cc)

message_once : (a b : List (List ℕ)) (x y : List ℕ) → AllByRecursion Line a → AllByRecursion Line b → message_text a x ≡ message_text b y → (a ≡ b) × (x ≡ y)
message_once [] [] x y p q e = (refl, (let same : 13 ∷ 10 ∷ x ≡ 13 ∷ 10 ∷ y = e in cc))
message_once [] (m ∷ ms) x y p q e = absurd (no_line_first m ms x y q.0 e)
message_once (l ∷ ls) [] x y p q e = absurd (no_line_first l ls y x p.0 (sym e))
message_once (l ∷ ls) (m ∷ ms) x y p q e =
    let once = line_once l m (message_text ls x) (message_text ms y) p.0.1 q.0.1 (sym (first_line l ls x) ∙ e ∙ first_line m ms y) in
    let rest = message_once ls ms x y p.1 q.1 once.1 in
    let first : l ≡ m = once.0 in
    let later : ls ≡ ms = rest.0 in
    (cc, rest.1)

are_lines : (lines : List (List ℕ)) → AllByRecursion (λ line. 0 < length line) lines → AllByRecursion IsPlain lines → AllByRecursion Line lines
are_lines [] some plain = tt
are_lines (l ∷ ls) some plain = ((some.0, recursion_from_All Plain l plain.0), are_lines ls some.1 plain.1)

some_lines : (lines : List (List ℕ)) → AllByRecursion Line lines → AllByRecursion (λ line. 0 < length line) lines
some_lines [] h = tt
some_lines (l ∷ ls) h = (h.0.0, some_lines ls h.1)

plain_lines : (lines : List (List ℕ)) → AllByRecursion Line lines → AllByRecursion IsPlain lines
plain_lines [] h = tt
plain_lines (l ∷ ls) h = (All-from_recursion Plain l h.0.1, plain_lines ls h.1)

-- no line feed and no carriage return, as a test
abbrev is_plain : ℕ → Bool
is_plain c = not (c == 10) && not (c == 13)

prefix_line : (c : ℕ) (word text : List ℕ) → list_all is_plain (c ∷ word) ≡ true → AllByRecursion Plain text → Line ((c ∷ word) ++ text)
prefix_line c word text h plain = (omega arith, both_plain (c ∷ word) text (text_plain is_plain refl refl (c ∷ word) h) plain)

allow_line : (allow : List ℕ) → AllByRecursion Plain allow → (rest : List (List ℕ)) → AllByRecursion Line rest → AllByRecursion Line (allow_lines allow ++ rest)
allow_line [] plain rest h = h
allow_line (c ∷ cs) plain rest h = (prefix_line 65 (codes "llow: ") (c ∷ cs) refl plain, h)

warning_line : (warning : Option (List ℕ)) → IfSome warning IsPlain → (rest : List (List ℕ)) → AllByRecursion Line rest → AllByRecursion Line (warning_lines warning ++ rest)
warning_line None plain rest h = h
warning_line (Some w) plain rest h = (prefix_line 87 (codes "arning: ") w refl (recursion_from_All Plain w plain), h)

close_line : (last : Bool) → AllByRecursion Line (close_lines last)
close_line true = (prefix_line 67 (codes "onnection: close") [] refl tt, tt)
close_line false = tt

type_line : (page : Page) → Line (codes "Content-Type: " ++ content_type page)
type_line Json = prefix_line 67 (codes "ontent-Type: ") (codes "application/json") refl (text_plain is_plain refl refl (codes "application/json") refl)
type_line Metrics = prefix_line 67 (codes "ontent-Type: ") (codes "text/plain; version=0.0.4") refl (text_plain is_plain refl refl (codes "text/plain; version=0.0.4") refl)

first_is_line : (code : ℕ) → code < 2 ^ 64 → IsVisibleAscii (phrase code) → Line (status_line code)
first_is_line code small visible = prefix_line 72 (codes "TTP/1.1 ") (decimal code ++ (codes " " ++ phrase code)) refl
    (both_plain (decimal code) (codes " " ++ phrase code) (digits_plain (decimal code) (all_ascii_digits-decimal code small))
    (both_plain (codes " ") (phrase code) (text_plain is_plain refl refl (codes " ") refl)
    (text_plain is_visible_or_blank refl refl (phrase code) (list_all-from_AllPass is_visible_or_blank (phrase code) visible))))

length_is_line : (body : List ℕ) → length body < 2 ^ 64 → Line (length_line body)
length_is_line body small = prefix_line 67 (codes "ontent-Length: ") (decimal (length body)) refl (digits_plain (decimal (length body)) (all_ascii_digits-decimal (length body) small))

head_is_lines : (reply : Reply) → reply.code < 2 ^ 64 → length reply.body < 2 ^ 64 → IsVisibleAscii (phrase reply.code) → HasPlainTexts reply → AllByRecursion Line (head_lines reply)
head_is_lines reply code body visible plain = (
  first_is_line reply.code code visible,
  (
    type_line reply.page,
    (
      length_is_line reply.body body,
      allow_line reply.allow (recursion_from_All Plain reply.allow plain.allow) (warning_lines reply.warning ++ close_lines reply.last)
          (warning_line reply.warning plain.warning (close_lines reply.last) (close_line reply.last)),
    ),
  ),
)

code_told : (m n : ℕ) → m < 2 ^ 64 → n < 2 ^ 64 → status_line m ≡ status_line n → m ≡ n
code_told m n small below e =
    let same : decimal m ++ (32 ∷ phrase m) ≡ decimal n ++ (32 ∷ phrase n) = ap (λ (l : List ℕ). drop 9 l) e in
    let split = one_split (decimal m) (32 ∷ phrase m) (decimal n) (32 ∷ phrase n) same (all_ascii_digits-decimal m small) refl (all_ascii_digits-decimal n below) refl in
    let first : digits_value 10 (decimal m) ≡ m = (decimal_is_IsNumeral m small).1 in
    let second : digits_value 10 (decimal n) ≡ n = (decimal_is_IsNumeral n below).1 in
    sym first ∙ ap (λ (l : List ℕ). digits_value 10 l) split.0 ∙ second

body_sent : (bare : Bool) (body : List ℕ) → bare ≡ false → body ≡ cond bare [] body
body_sent true body e = absurd (false≢true (sym e))
body_sent false body e = refl

pub reads_back : (reply : Reply) → reply.code < 2 ^ 64 → length reply.body < 2 ^ 64 → IsVisibleAscii (phrase reply.code) → HasPlainTexts reply → ReadsBack reply
reads_back reply code body visible plain =
    let lines = head_is_lines reply code body visible plain in record {
      reads = record {
        some = All-from_recursion (λ line. 0 < length line) (head_lines reply) (some_lines (head_lines reply) lines);
        plain = All-from_recursion IsPlain (head_lines reply) (plain_lines (head_lines reply) lines);
        whole = refl;
      };
      once = λ others rest h.
          let once = message_once (head_lines reply) others (sent_body reply) rest lines
          (are_lines others (recursion_from_All (λ line. 0 < length line) others h.some) (recursion_from_All IsPlain others h.plain)) h.whole in
          (sym once.0, sym once.1);
      told = λ other below same. code_told other reply.code (omega (arith, below)) code same;
      counted = λ sent. (2, omega arith, ap length_line (body_sent reply.bare reply.body sent));
    }

-- one line as a text
pub single_line : (word value : List ℕ) → word ++ (value ++ line_end) ≡ lines_text ((word ++ value) ∷ [])
single_line word value = sym (append_assoc word value line_end) ∙ sym (append-nil ((word ++ value) ++ line_end))

status_shape : (a b c d e : List ℕ) → a ++ (b ++ (c ++ (d ++ e))) ≡ (a ++ (b ++ (c ++ d))) ++ e
status_shape a b c d e = sym (append_assoc a (b ++ (c ++ d)) e ∙ ap (λ (x : List ℕ). a ++ x) (append_assoc b (c ++ d) e ∙ ap (λ (x : List ℕ). b ++ x) (append_assoc c d e)))

three_lines : (x y z : List ℕ) → ((x ++ line_end) ++ (y ++ line_end)) ++ (z ++ line_end) ≡ lines_text (x ∷ y ∷ z ∷ [])
three_lines x y z = append_assoc (x ++ line_end) (y ++ line_end) (z ++ line_end)
    ∙ ap (λ (r : List ℕ). (x ++ line_end) ++ ((y ++ line_end) ++ r)) (sym (append-nil (z ++ line_end)))

-- the status line, the type and the length, as they are written one behind the other
pub first_shape : (code : ℕ) (page : Page) (body s t u w phrased kind : List ℕ) → phrased ≡ phrase code → kind ≡ content_type page
    → s ≡ codes "HTTP/1.1 " ++ (decimal code ++ (codes " " ++ (phrased ++ line_end)))
    → t ≡ codes "Content-Type: " ++ (kind ++ line_end)
    → u ≡ codes "Content-Length: " ++ (decimal (length body) ++ line_end)
    → w ≡ (s ++ t) ++ u → w ≡ lines_text (first_lines code page body)
first_shape code page body s t u w phrased kind p k hs ht hu hw =
    let status : s ≡ status_line code ++ line_end = hs ∙ ap (λ (x : List ℕ). codes "HTTP/1.1 " ++ (decimal code ++ (codes " " ++ (x ++ line_end)))) p ∙ status_shape (codes "HTTP/1.1 ") (decimal code) (codes " ") (phrase code) line_end in
    let type : t ≡ (codes "Content-Type: " ++ content_type page) ++ line_end = ht ∙ ap (λ (x : List ℕ). codes "Content-Type: " ++ (x ++ line_end)) k ∙ sym (append_assoc (codes "Content-Type: ") (content_type page) line_end) in
    let count : u ≡ length_line body ++ line_end = hu ∙ sym (append_assoc (codes "Content-Length: ") (decimal (length body)) line_end) in
    hw ∙ ap (λ (x : List ℕ). (x ++ t) ++ u) status ∙ ap (λ (x : List ℕ). ((status_line code ++ line_end) ++ x) ++ u) type
    ∙ ap (λ (x : List ℕ). ((status_line code ++ line_end) ++ ((codes "Content-Type: " ++ content_type page) ++ line_end)) ++ x) count
    ∙ three_lines (status_line code) (codes "Content-Type: " ++ content_type page) (length_line body)

lines_both : (a b : List (List ℕ)) → lines_text a ++ lines_text b ≡ lines_text (a ++ b)
lines_both a b = sym (flat_map-append (λ line. line ++ line_end) a b)

pub further_shape : (allow : List ℕ) (warning : Option (List ℕ)) (last : Bool) (a w c text : List ℕ) → a ≡ lines_text (allow_lines allow) → w ≡ lines_text (warning_lines warning) → c ≡ lines_text (close_lines last)
    → text ≡ (a ++ w) ++ c → text ≡ lines_text (allow_lines allow ++ (warning_lines warning ++ close_lines last))
further_shape allow warning last a w c text ha hw hc h =
    h ∙ append_assoc a w c ∙ ap (λ (x : List ℕ). x ++ (w ++ c)) ha ∙ ap (λ (x : List ℕ). lines_text (allow_lines allow) ++ (x ++ c)) hw
    ∙ ap (λ (x : List ℕ). lines_text (allow_lines allow) ++ (lines_text (warning_lines warning) ++ x)) hc
    ∙ ap (λ (x : List ℕ). lines_text (allow_lines allow) ++ x) (lines_both (warning_lines warning) (close_lines last))
    ∙ lines_both (allow_lines allow) (warning_lines warning ++ close_lines last)

pub head_shape : (first further : List (List ℕ)) (a b text : List ℕ) → a ≡ lines_text first → b ≡ lines_text further → text ≡ (a ++ b) ++ line_end → text ≡ lines_text (first ++ further) ++ line_end
head_shape first further a b text ha hb h =
    h ∙ ap (λ (x : List ℕ). (x ++ b) ++ line_end) ha ∙ ap (λ (x : List ℕ). (lines_text first ++ x) ++ line_end) hb ∙ ap (λ (x : List ℕ). x ++ line_end) (lines_both first further)

pub allow_shape : (allow text : List ℕ) → 0 < length allow → text ≡ codes "Allow: " ++ (allow ++ line_end) → text ≡ lines_text (allow_lines allow)
allow_shape [] text some h = absurd (let none : 0 < 0 = some in omega (arith, none))
allow_shape (c ∷ cs) text some h = h ∙ single_line (codes "Allow: ") (c ∷ cs)

pub warning_shape : (warning text : List ℕ) → text ≡ codes "Warning: " ++ (warning ++ line_end) → text ≡ lines_text (warning_lines (Some warning))
warning_shape warning text h = h ∙ single_line (codes "Warning: ") warning

small_codes : AllByRecursion (λ c. c < 1000) reply_codes
small_codes = (omega arith, (omega arith, (omega arith, (omega arith, (omega arith, (omega arith, (omega arith, (omega arith, (omega arith, (omega arith, tt))))))))))

pub small_code : (code : ℕ) → Contains reply_codes code → code < 2 ^ 64
small_code code h =
    let below : code < 1000 = All-contains (λ c. c < 1000) reply_codes code (All-from_recursion (λ c. c < 1000) reply_codes small_codes) h in
    omega (arith, below)

pub reply_shape : (reply : Reply) (head text : List ℕ) → reply.bare ≡ false → head ≡ lines_text (head_lines reply) ++ line_end → text ≡ head ++ reply.body → text ≡ reply_text reply
reply_shape reply head text sent is whole =
    whole ∙ ap (λ (h : List ℕ). h ++ reply.body) is ∙ append_assoc (lines_text (head_lines reply)) line_end reply.body
    ∙ ap (λ (b : List ℕ). lines_text (head_lines reply) ++ (line_end ++ b)) (body_sent reply.bare reply.body sent)
