-- How many bytes the texts among tokens have: no more than the bytes that the tokens are of.
use Rattle.std.proofs.Common.{◌≡◌, ℕ, suc, ◌+◌, ◌≤◌, Bool, true, false, cond, ◌&&◌, ◌==◌, nat_eq, List, [], ◌∷◌, ◌++◌, length, drop, Option, Some, None, refl, arith}
use Rattle.std.specs.List.{starts_with}
use Rattle.json.specs.Ascii as ascii
use Rattle.json.specs.Align.{span, span_byte}
use Rattle.json.specs.Lex.{Lexeme, token, comma, colon, Class, quote, backslash, operator, space, other, class, operator_lexeme, string_token, Mode, between, in_word, in_string, in_escape, lex_byte, lex, Place, fresh, after_value, after_comma, after_key, begins_colon, may_begin, may_close, if_allowed, place_token, punctuate, tokens}
use Rattle.json.specs.Text.{content, plain}
use Rattle.json.specs.Token.{Token, begin_object, end_object, begin_array, end_array, key, string, number, boolean, null, bad}
use Rattle.json.specs.Word.{literal, number_before, after_number, head, ends_word, word}
use Rattle.body_bound.proofs.SpanLemmas.{IsBelow, content_below}

abbrev pub token_bytes : Token → ℕ
token_bytes begin_object = 0
token_bytes end_object = 0
token_bytes begin_array = 0
token_bytes end_array = 0
token_bytes (key s) = 0
token_bytes (string s) = length s + 2
token_bytes (number s) = 0
token_bytes (boolean b) = 0
token_bytes null = 0
token_bytes bad = 0

abbrev pub tokens_bytes : List Token → ℕ
tokens_bytes [] = 0
tokens_bytes (t ∷ ts) = token_bytes t + tokens_bytes ts

abbrev lexeme_bytes : Lexeme → ℕ
lexeme_bytes (token t) = token_bytes t
lexeme_bytes comma = 0
lexeme_bytes colon = 0

abbrev lexemes_bytes : List Lexeme → ℕ
lexemes_bytes [] = 0
lexemes_bytes (l ∷ ls) = lexeme_bytes l + lexemes_bytes ls

-- ---- words and operators are no texts

either_token : (b : Bool) (x y : Token) → token_bytes x ≡ 0 → token_bytes y ≡ 0 → token_bytes (cond b x y) ≡ 0
either_token true x y p q = p
either_token false x y p q = q

either_lexeme : (b : Bool) (x y : Lexeme) → lexeme_bytes x ≡ 0 → lexeme_bytes y ≡ 0 → lexeme_bytes (cond b x y) ≡ 0
either_lexeme true x y p q = p
either_lexeme false x y p q = q

number_no_text : (t : List ℕ) (o : Option (List ℕ)) → token_bytes (number_before t o) ≡ 0
number_no_text t None = refl
number_no_text t (Some rest) = either_token (ends_word rest) _ _ refl refl

literal_no_text : (name : List ℕ) (t : Token) (text : List ℕ) → token_bytes t ≡ 0 → token_bytes (literal name t text) ≡ 0
literal_no_text name t text none = either_token (starts_with nat_eq text name && ends_word (drop (length name) text)) t bad none refl

word_no_text : (t : List ℕ) → token_bytes (word t) ≡ 0
unfolding word
word_no_text t =
    either_token (head t == ascii.lower_t) _ _ (literal_no_text ascii.true_text (boolean true) t refl)
    (either_token (head t == ascii.lower_f) _ _ (literal_no_text ascii.false_text (boolean false) t refl)
    (either_token (head t == ascii.lower_n) _ _ (literal_no_text ascii.null_text null t refl) (number_no_text t (after_number t))))

operator_no_text : (x : ℕ) → lexeme_bytes (operator_lexeme x) ≡ 0
operator_no_text x =
    either_lexeme (x == ascii.open_brace) _ _ refl (either_lexeme (x == ascii.close_brace) _ _ refl
    (either_lexeme (x == ascii.open_bracket) _ _ refl (either_lexeme (x == ascii.close_bracket) _ _ refl (either_lexeme (x == ascii.comma) _ _ refl refl))))

-- ---- lexemes

string_within : (n : ℕ) (o : Option (List ℕ)) → IsBelow n o → token_bytes (string_token o) ≤ n + 1
string_within n None h = omega arith
string_within n (Some s) h = omega (arith, h)

abbrev IsWithin : List ℕ → Mode → Type 0
IsWithin xs m = span m xs + lexemes_bytes (lex m xs) ≤ length xs

byte_within : (m : Mode) (c : Class) (x : ℕ) (xs : List ℕ) → ((n : Mode) → IsWithin xs n)
    → span_byte m c (λ n. span n xs) + lexemes_bytes (lex_byte m c x xs (λ n. lex n xs)) ≤ suc (length xs)
byte_within between quote x xs h = let here = string_within (span in_string xs) (content plain xs) (content_below plain xs) in let more = h in_string in omega (arith, here, more)
byte_within between backslash x xs h = let more = h in_word in omega (arith, more)
byte_within between operator x xs h = let none = operator_no_text x in let more = h between in omega (arith, none, more)
byte_within between space x xs h = let more = h between in omega (arith, more)
byte_within between other x xs h = let none = word_no_text (x ∷ xs) in let more = h in_word in omega (arith, none, more)
byte_within in_word quote x xs h = let more = h in_word in omega (arith, more)
byte_within in_word backslash x xs h = let more = h in_word in omega (arith, more)
byte_within in_word operator x xs h = let none = operator_no_text x in let more = h between in omega (arith, none, more)
byte_within in_word space x xs h = let more = h between in omega (arith, more)
byte_within in_word other x xs h = let more = h in_word in omega (arith, more)
byte_within in_string quote x xs h = let more = h between in omega (arith, more)
byte_within in_string backslash x xs h = let more = h in_escape in omega (arith, more)
byte_within in_string operator x xs h = let more = h in_string in omega (arith, more)
byte_within in_string space x xs h = let more = h in_string in omega (arith, more)
byte_within in_string other x xs h = let more = h in_string in omega (arith, more)
byte_within in_escape c x xs h = let more = h in_string in omega (arith, more)

lexed_within : (xs : List ℕ) (m : Mode) → IsWithin xs m
unfolding lex span
lexed_within [] m = omega arith
lexed_within (x ∷ xs) m = byte_within m (class x) x xs (lexed_within xs)

-- ---- commas and colons

allowed_within : (b : Bool) (t : Token) (k : Place → List Token) (next : Place) (n : ℕ) → tokens_bytes (k next) ≤ n → tokens_bytes (if_allowed b t k next) ≤ token_bytes t + n
allowed_within true t k next n h = omega (arith, h)
allowed_within false t k next n h = omega arith

placed_within : (p : Place) (t : Token) (b : Bool) (k : Place → List Token) (n : ℕ) → ((next : Place) → tokens_bytes (k next) ≤ n) → tokens_bytes (place_token p t b k) ≤ token_bytes t + n
placed_within p begin_object b k n h = allowed_within (may_begin p) begin_object k fresh n (h fresh)
placed_within p end_object b k n h = allowed_within (may_close p) end_object k after_value n (h after_value)
placed_within p begin_array b k n h = allowed_within (may_begin p) begin_array k fresh n (h fresh)
placed_within p end_array b k n h = allowed_within (may_close p) end_array k after_value n (h after_value)
placed_within p (key s) b k n h = omega arith
placed_within p (string s) true k n h = let key_is = allowed_within (may_begin p) (key s) k after_key n (h after_key) in omega (arith, key_is)
placed_within p (string s) false k n h = allowed_within (may_begin p) (string s) k after_value n (h after_value)
placed_within p (number s) b k n h = allowed_within (may_begin p) (number s) k after_value n (h after_value)
placed_within p (boolean c) b k n h = allowed_within (may_begin p) (boolean c) k after_value n (h after_value)
placed_within p null b k n h = allowed_within (may_begin p) null k after_value n (h after_value)
placed_within p bad b k n h = omega arith

punctuated_within : (ls : List Lexeme) (p : Place) → tokens_bytes (punctuate p ls) ≤ lexemes_bytes ls
unfolding punctuate
punctuated_within [] fresh = omega arith
punctuated_within [] after_value = omega arith
punctuated_within [] after_comma = omega arith
punctuated_within [] after_key = omega arith
punctuated_within (token t ∷ ls) fresh = placed_within fresh t (begins_colon ls) _ (lexemes_bytes ls) (punctuated_within ls)
punctuated_within (token t ∷ ls) after_value = placed_within after_value t (begins_colon ls) _ (lexemes_bytes ls) (punctuated_within ls)
punctuated_within (token t ∷ ls) after_comma = placed_within after_comma t (begins_colon ls) _ (lexemes_bytes ls) (punctuated_within ls)
punctuated_within (token t ∷ ls) after_key = placed_within after_key t (begins_colon ls) _ (lexemes_bytes ls) (punctuated_within ls)
punctuated_within (comma ∷ ls) fresh = omega arith
punctuated_within (comma ∷ ls) after_value = let more = punctuated_within ls after_comma in omega (arith, more)
punctuated_within (comma ∷ ls) after_comma = omega arith
punctuated_within (comma ∷ ls) after_key = omega arith
punctuated_within (colon ∷ ls) fresh = omega arith
punctuated_within (colon ∷ ls) after_value = omega arith
punctuated_within (colon ∷ ls) after_comma = omega arith
punctuated_within (colon ∷ ls) after_key = let more = punctuated_within ls fresh in omega (arith, more)

pub tokens_within : (xs : List ℕ) → tokens_bytes (tokens xs) ≤ length xs
tokens_within xs = let lexed = lexed_within xs between in let placed = punctuated_within (lex between xs) fresh in omega (arith, lexed, placed)

-- ---- lists of tokens

pub bytes_append : (a b : List Token) → tokens_bytes (a ++ b) ≡ tokens_bytes a + tokens_bytes b
bytes_append [] b = omega arith
bytes_append (t ∷ ts) b = let more = bytes_append ts b in omega (arith, more)
