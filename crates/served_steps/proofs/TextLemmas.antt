-- The strings of what a text in UTF-8 is read as are UTF-8.
use Rattle.std.proofs.Common.{◌≡◌, ℕ, suc, ◌+◌, ◌-◌, ◌<◌, ◌==◌, ◌&&◌, nat_eq, Bool, true, false, cond, List, [], ◌∷◌, ◌++◌, Option, Some, None, IfSome, option_map, option_and_then, IsUtf8, Ordering, Less, Equal, Greater, nat_cmp, refl, subst, arith, length, take, drop, get_or}
use Rattle.std.specs.Cmp.Lexicographic.{slice_cmp}
use Rattle.std.specs.List.{starts_with}
use Rattle.std.specs.Ordering.{match_ordering}
use Rattle.std.proofs.lemmas.Bool.{eqb-true}
use Rattle.std.proofs.lemmas.Str.{IsUtf8-drop, IsCharBoundary-after_ascii}
use Rattle.conversion.specs.Trees.{Names, Stands}
use Rattle.json.proofs.Unique.Spelling.{value-json_tokens_back}
use Rattle.json.specs.Ascii as ascii
use Rattle.json.specs.Json as json
use Rattle.json.specs.Lex as lexer
use Rattle.json.specs.Text as text
use Rattle.json.specs.Token as token
use Rattle.json.specs.Tree as tree
use Rattle.json.specs.Word as words
use Rattle.serde_json.specs.Data.{Data, null, boolean, number, string, array, object, Items, no_items, item, Members, no_members, member, put}
use Rattle.serde_json.specs.Find.{get, get_member}
use Rattle.serde_json.specs.Read.{number_of, of_json, of_items, of_members, max_depth, read}
use Rattle.served_steps.proofs.ContentLemmas.{content_utf8}

-- ---- lexemes

abbrev IsTextToken : token.Token → Type 0
IsTextToken token.begin_object = Unit {0}
IsTextToken token.end_object = Unit {0}
IsTextToken token.begin_array = Unit {0}
IsTextToken token.end_array = Unit {0}
IsTextToken (token.key s) = IsUtf8 s
IsTextToken (token.string s) = IsUtf8 s
IsTextToken (token.number s) = Unit {0}
IsTextToken (token.boolean b) = Unit {0}
IsTextToken token.null = Unit {0}
IsTextToken token.bad = Unit {0}

abbrev IsTextLexeme : lexer.Lexeme → Type 0
IsTextLexeme (lexer.token t) = IsTextToken t
IsTextLexeme lexer.comma = Unit {0}
IsTextLexeme lexer.colon = Unit {0}

abbrev AreTextLexemes : List lexer.Lexeme → Type 0
AreTextLexemes [] = Unit {0}
AreTextLexemes (l ∷ ls) = IsTextLexeme l × AreTextLexemes ls

abbrev AreTextTokens : List token.Token → Type 0
AreTextTokens [] = Unit {0}
AreTextTokens (t ∷ ts) = IsTextToken t × AreTextTokens ts

-- what is behind a byte of ASCII is UTF-8
abbrev IsAfterAscii : List ℕ → Type 0
IsAfterAscii xs = (i : ℕ) → i < length xs → get_or xs i 0 < 128 → IsUtf8 (drop (suc i) xs)

text_after : (xs : List ℕ) → IsUtf8 xs → IsAfterAscii xs
text_after xs u = λ i within small.
    let next : i + 1 ≡ suc i = omega arith in
    subst (λ (n : ℕ). IsUtf8 (drop n xs)) next (IsUtf8-drop xs (i + 1) u (IsCharBoundary-after_ascii xs i u within small))

after_tail : (x : ℕ) (xs : List ℕ) → IsAfterAscii (x ∷ xs) → IsAfterAscii xs
after_tail x xs after = λ i within small. after (suc i) (omega (arith, within)) small

pick_lexeme : (t : Bool) (a b : lexer.Lexeme) → IsTextLexeme a → IsTextLexeme b → IsTextLexeme (cond t a b)
pick_lexeme true a b h k = h
pick_lexeme false a b h k = k

pick_token : (t : Bool) (a b : token.Token) → IsTextToken a → IsTextToken b → IsTextToken (cond t a b)
pick_token true a b h k = h
pick_token false a b h k = k

operator_text : (x : ℕ) → IsTextLexeme (lexer.operator_lexeme x)
operator_text x =
    let last = cond (x == 44) lexer.comma lexer.colon in
    let close = cond (x == 93) (lexer.token token.end_array) last in
    let open_bracket = cond (x == 91) (lexer.token token.begin_array) close in
    let brace = cond (x == 125) (lexer.token token.end_object) open_bracket in
    pick_lexeme (x == 123) (lexer.token token.begin_object) brace tt
    (pick_lexeme (x == 125) (lexer.token token.end_object) open_bracket tt
    (pick_lexeme (x == 91) (lexer.token token.begin_array) close tt
    (pick_lexeme (x == 93) (lexer.token token.end_array) last tt
    (pick_lexeme (x == 44) lexer.comma lexer.colon tt tt))))

number_word : (t : List ℕ) (o : Option (List ℕ)) → IsTextToken (words.number_before t o)
number_word t None = tt
number_word t (Some rest) = pick_token (words.ends_word rest) (token.number (take (length t - length rest) t)) token.bad tt tt

literal_word : (name : List ℕ) (k : token.Token) (t : List ℕ) → IsTextToken k → IsTextToken (words.literal name k t)
literal_word name k t h = pick_token (starts_with nat_eq t name && words.ends_word (drop (length name) t)) k token.bad h tt

word_text : (t : List ℕ) → IsTextToken (words.word t)
unfolding words.word
word_text t =
    let n = words.number_before t (words.after_number t) in
    let u = words.literal ascii.null_text token.null t in
    let f = words.literal ascii.false_text (token.boolean false) t in
    let r = words.literal ascii.true_text (token.boolean true) t in
    let third = cond (words.head t == 110) u n in
    let second = cond (words.head t == 102) f third in
    pick_token (words.head t == 116) r second (literal_word ascii.true_text (token.boolean true) t tt)
    (pick_token (words.head t == 102) f third (literal_word ascii.false_text (token.boolean false) t tt)
    (pick_token (words.head t == 110) u n (literal_word ascii.null_text token.null t tt) (number_word t (words.after_number t))))

string_text : (xs : List ℕ) (o : Option (List ℕ)) → text.content text.plain xs ≡ o → IsUtf8 xs → IsTextToken (lexer.string_token o)
string_text xs None is u = tt
string_text xs (Some s) is u = content_utf8 xs s u is

lex_step : (m : lexer.Mode) (c : lexer.Class) (x : ℕ) (xs : List ℕ) (k : lexer.Mode → List lexer.Lexeme) → (c ≡ lexer.quote → IsUtf8 xs) → ((next : lexer.Mode) → AreTextLexemes (k next)) → AreTextLexemes (lexer.lex_byte m c x xs k)
lex_step lexer.between lexer.quote x xs k u more = (string_text xs (text.content text.plain xs) refl (u refl), more lexer.in_string)
lex_step lexer.between lexer.backslash x xs k u more = (tt, more lexer.in_word)
lex_step lexer.between lexer.operator x xs k u more = (operator_text x, more lexer.between)
lex_step lexer.between lexer.space x xs k u more = more lexer.between
lex_step lexer.between lexer.other x xs k u more = (word_text (x ∷ xs), more lexer.in_word)
lex_step lexer.in_word lexer.quote x xs k u more = more lexer.in_word
lex_step lexer.in_word lexer.backslash x xs k u more = more lexer.in_word
lex_step lexer.in_word lexer.operator x xs k u more = (operator_text x, more lexer.between)
lex_step lexer.in_word lexer.space x xs k u more = more lexer.between
lex_step lexer.in_word lexer.other x xs k u more = more lexer.in_word
lex_step lexer.in_string lexer.quote x xs k u more = more lexer.between
lex_step lexer.in_string lexer.backslash x xs k u more = more lexer.in_escape
lex_step lexer.in_string lexer.operator x xs k u more = more lexer.in_string
lex_step lexer.in_string lexer.space x xs k u more = more lexer.in_string
lex_step lexer.in_string lexer.other x xs k u more = more lexer.in_string
lex_step lexer.in_escape c x xs k u more = more lexer.in_string

-- a quote is a byte of ASCII
quote_small : (x : ℕ) → lexer.class x ≡ lexer.quote → x < 128
quote_small x e = by (x == 34) refl e
  where
    not_class : (t : Bool) (c : lexer.Class) → (c ≡ lexer.quote → ⊥) → (b : lexer.Class) → (b ≡ lexer.quote → ⊥) → cond t c b ≡ lexer.quote → ⊥
    not_class true c h b k e = h e
    not_class false c h b k e = k e

    backslash_apart : lexer.backslash ≡ lexer.quote → ⊥
    backslash_apart e = cc

    operator_apart : lexer.operator ≡ lexer.quote → ⊥
    operator_apart e = cc

    space_apart : lexer.space ≡ lexer.quote → ⊥
    space_apart e = cc

    other_apart : lexer.other ≡ lexer.quote → ⊥
    other_apart e = cc

    by : (t : Bool) → (x == 34) ≡ t → cond t lexer.quote (cond (x == 92) lexer.backslash (cond (words.is_operator x) lexer.operator (cond (words.is_space x) lexer.space lexer.other))) ≡ lexer.quote → x < 128
    by true is e = let same : x ≡ 34 = eqb-true x 34 is in omega (arith, same)
    by false is e =
        absurd (not_class (x == 92) lexer.backslash backslash_apart (cond (words.is_operator x) lexer.operator (cond (words.is_space x) lexer.space lexer.other))
        (not_class (words.is_operator x) lexer.operator operator_apart (cond (words.is_space x) lexer.space lexer.other)
        (not_class (words.is_space x) lexer.space space_apart lexer.other other_apart)) e)

lex_texts : (m : lexer.Mode) (xs : List ℕ) → IsAfterAscii xs → AreTextLexemes (lexer.lex m xs)
unfolding lexer.lex
lex_texts m [] after = tt
lex_texts m (x ∷ xs) after =
    lex_step m (lexer.class x) x xs (λ next. lexer.lex next xs)
    (λ is. after 0 (omega arith) (quote_small x is))
    (λ next. lex_texts next xs (after_tail x xs after))

-- ---- tokens

allowed : (b : Bool) (t : token.Token) (k : lexer.Place → List token.Token) (next : lexer.Place) → IsTextToken t → ((p : lexer.Place) → AreTextTokens (k p)) → AreTextTokens (lexer.if_allowed b t k next)
allowed true t k next h more = (h, more next)
allowed false t k next h more = (tt, tt)

place_text : (p : lexer.Place) (t : token.Token) (b : Bool) (k : lexer.Place → List token.Token) → IsTextToken t → ((q : lexer.Place) → AreTextTokens (k q)) → AreTextTokens (lexer.place_token p t b k)
place_text p token.begin_object b k h more = allowed (lexer.may_begin p) token.begin_object k lexer.fresh tt more
place_text p token.end_object b k h more = allowed (lexer.may_close p) token.end_object k lexer.after_value tt more
place_text p token.begin_array b k h more = allowed (lexer.may_begin p) token.begin_array k lexer.fresh tt more
place_text p token.end_array b k h more = allowed (lexer.may_close p) token.end_array k lexer.after_value tt more
place_text p (token.key s) b k h more = (tt, tt)
place_text p (token.string s) true k h more = allowed (lexer.may_begin p) (token.key s) k lexer.after_key h more
place_text p (token.string s) false k h more = allowed (lexer.may_begin p) (token.string s) k lexer.after_value h more
place_text p (token.number s) b k h more = allowed (lexer.may_begin p) (token.number s) k lexer.after_value tt more
place_text p (token.boolean c) b k h more = allowed (lexer.may_begin p) (token.boolean c) k lexer.after_value tt more
place_text p token.null b k h more = allowed (lexer.may_begin p) token.null k lexer.after_value tt more
place_text p token.bad b k h more = (tt, tt)

punctuated : (p : lexer.Place) (ls : List lexer.Lexeme) → AreTextLexemes ls → AreTextTokens (lexer.punctuate p ls)
unfolding lexer.punctuate
punctuated lexer.fresh [] h = tt
punctuated lexer.after_value [] h = tt
punctuated lexer.after_comma [] h = (tt, tt)
punctuated lexer.after_key [] h = (tt, tt)
punctuated lexer.fresh (lexer.token t ∷ ls) h = place_text lexer.fresh t (lexer.begins_colon ls) (λ next. lexer.punctuate next ls) h.0 (λ next. punctuated next ls h.1)
punctuated lexer.after_value (lexer.token t ∷ ls) h = place_text lexer.after_value t (lexer.begins_colon ls) (λ next. lexer.punctuate next ls) h.0 (λ next. punctuated next ls h.1)
punctuated lexer.after_comma (lexer.token t ∷ ls) h = place_text lexer.after_comma t (lexer.begins_colon ls) (λ next. lexer.punctuate next ls) h.0 (λ next. punctuated next ls h.1)
punctuated lexer.after_key (lexer.token t ∷ ls) h = place_text lexer.after_key t (lexer.begins_colon ls) (λ next. lexer.punctuate next ls) h.0 (λ next. punctuated next ls h.1)
punctuated lexer.fresh (lexer.comma ∷ ls) h = (tt, tt)
punctuated lexer.after_value (lexer.comma ∷ ls) h = punctuated lexer.after_comma ls h.1
punctuated lexer.after_comma (lexer.comma ∷ ls) h = (tt, tt)
punctuated lexer.after_key (lexer.comma ∷ ls) h = (tt, tt)
punctuated lexer.fresh (lexer.colon ∷ ls) h = (tt, tt)
punctuated lexer.after_value (lexer.colon ∷ ls) h = (tt, tt)
punctuated lexer.after_comma (lexer.colon ∷ ls) h = (tt, tt)
punctuated lexer.after_key (lexer.colon ∷ ls) h = punctuated lexer.fresh ls h.1

tokens_text : (bytes : List ℕ) → IsUtf8 bytes → AreTextTokens (lexer.tokens bytes)
tokens_text bytes u = punctuated lexer.fresh (lexer.lex lexer.between bytes) (lex_texts lexer.between bytes (text_after bytes u))

-- ---- values

abbrev mutual
  IsTextJson : json.Json → Type 0
  IsTextJson json.null = Unit {0}
  IsTextJson (json.boolean b) = Unit {0}
  IsTextJson (json.number s) = Unit {0}
  IsTextJson (json.string s) = IsUtf8 s
  IsTextJson (json.array js) = AreTextItems js
  IsTextJson (json.object ms) = AreTextMembers ms

  AreTextItems : json.Items → Type 0
  AreTextItems json.no_items = Unit {0}
  AreTextItems (json.item j js) = IsTextJson j × AreTextItems js

  AreTextMembers : json.Members → Type 0
  AreTextMembers json.no_members = Unit {0}
  AreTextMembers (json.member k j ms) = IsTextJson j × AreTextMembers ms

parted : (ts us : List token.Token) → AreTextTokens (ts ++ us) → AreTextTokens ts × AreTextTokens us
parted [] us h = (tt, h)
parted (t ∷ ts) us h = let p = parted ts us h.1 in ((h.0, p.0), p.1)

mutual
  json_text : (j : json.Json) → AreTextTokens (tree.json_tokens j) → IsTextJson j
  json_text json.null h = tt
  json_text (json.boolean b) h = tt
  json_text (json.number s) h = tt
  json_text (json.string s) h = h.0
  json_text (json.array js) h = items_text js h.1
  json_text (json.object ms) h = members_text ms h.1

  items_text : (js : json.Items) → AreTextTokens (tree.items_tokens js) → AreTextItems js
  items_text json.no_items h = tt
  items_text (json.item j js) h = let p = parted (tree.json_tokens j) (tree.items_tokens js) h in (json_text j p.0, items_text js p.1)

  members_text : (ms : json.Members) → AreTextTokens (tree.members_tokens ms) → AreTextMembers ms
  members_text json.no_members h = tt
  members_text (json.member k j ms) h = let p = parted (tree.json_tokens j) (tree.members_tokens ms) h.1 in (json_text j p.0, members_text ms p.1)

-- the strings of the data are UTF-8
abbrev mutual
  pub IsTextData : Data → Type 0
  IsTextData null = Unit {0}
  IsTextData (boolean b) = Unit {0}
  IsTextData (number n) = Unit {0}
  IsTextData (string s) = IsUtf8 s
  IsTextData (array ds) = HaveTexts ds
  IsTextData (object ms) = MembersHaveTexts ms

  pub HaveTexts : Items → Type 0
  HaveTexts no_items = Unit {0}
  HaveTexts (item d ds) = IsTextData d × HaveTexts ds

  pub MembersHaveTexts : Members → Type 0
  MembersHaveTexts no_members = Unit {0}
  MembersHaveTexts (member k d ms) = IsTextData d × MembersHaveTexts ms

if_map : {A B : Type 0} (P : A → Type 0) (Q : B → Type 0) (f : A → B) → ((a : A) → P a → Q (f a)) → (o : Option A) → IfSome o P → IfSome (option_map f o) Q
if_map P Q f h None k = tt
if_map P Q f h (Some a) k = h a k

if_then : {A B : Type 0} (P : A → Type 0) (Q : B → Type 0) (f : A → Option B) → ((a : A) → P a → IfSome (f a) Q) → (o : Option A) → IfSome o P → IfSome (option_and_then f o) Q
if_then P Q f h None k = tt
if_then P Q f h (Some a) k = h a k

any_some : {A : Type 0} (o : Option A) → IfSome o (λ a. Unit {0})
any_some None = tt
any_some (Some a) = tt

put_at : (o : Ordering) (k l : List ℕ) (d e : Data) (ms : Members) → IsTextData d → MembersHaveTexts (member l e ms) → MembersHaveTexts (put k d ms)
    → MembersHaveTexts (match_ordering o (member k d (member l e ms)) (member l d ms) (member l e (put k d ms)))
put_at Less k l d e ms new h more = (new, h)
put_at Equal k l d e ms new h more = (new, h.1)
put_at Greater k l d e ms new h more = (h.0, more)

put_text : (k : List ℕ) (d : Data) (ms : Members) → IsTextData d → MembersHaveTexts ms → MembersHaveTexts (put k d ms)
put_text k d no_members new h = (new, tt)
put_text k d (member l e ms) new h = put_at (slice_cmp nat_cmp k l) k l d e ms new h (put_text k d ms new h.1)

mutual
  data_of : (j : json.Json) → IsTextJson j → IfSome (of_json j) IsTextData
  data_of json.null h = tt
  data_of (json.boolean b) h = tt
  data_of (json.number s) h = if_map (λ n. Unit {0}) IsTextData number (λ n k. tt) (number_of s) (any_some (number_of s))
  data_of (json.string s) h = h
  data_of (json.array js) h = if_map HaveTexts IsTextData array (λ ds k. k) (of_items js) (items_of_text js h)
  data_of (json.object ms) h = if_map MembersHaveTexts IsTextData object (λ ns k. k) (of_members ms no_members) (members_of_text ms no_members h tt)

  items_of_text : (js : json.Items) → AreTextItems js → IfSome (of_items js) HaveTexts
  items_of_text json.no_items h = tt
  items_of_text (json.item j js) h =
      if_then IsTextData HaveTexts (λ d. option_map (item d) (of_items js)) (λ d k. if_map HaveTexts HaveTexts (item d) (λ ds l. (k, l)) (of_items js) (items_of_text js h.1)) (of_json j) (data_of j h.0)

  members_of_text : (ms : json.Members) (found : Members) → AreTextMembers ms → MembersHaveTexts found → IfSome (of_members ms found) MembersHaveTexts
  members_of_text json.no_members found h k = k
  members_of_text (json.member name j ms) found h k =
      if_then IsTextData MembersHaveTexts (λ d. of_members ms (put name d found)) (λ d l. members_of_text ms (put name d found) h.1 (put_text name d found l k)) (of_json j) (data_of j h.0)

last_text : (o : Option (json.Json × List token.Token)) → ((j : json.Json) (r : List token.Token) → o ≡ Some (j, r) → IsTextJson j) → IfSome (option_and_then (λ p. json.if_last p.0 p.1) o) IsTextJson
last_text None h = tt
last_text (Some (j, [])) h = h j [] refl
last_text (Some (j, t ∷ r)) h = tt

-- what a text in UTF-8 is read as has strings in UTF-8
pub read_texts : (bytes : List ℕ) (d : Data) → IsUtf8 bytes → read bytes ≡ Some d → IsTextData d
read_texts bytes d u e =
    let ts = lexer.tokens bytes in
    let all = tokens_text bytes u in
    let whole : (j : json.Json) (r : List token.Token) → json.value max_depth ts ≡ Some (j, r) → IsTextJson j =
    λ j r h. json_text j (parted (tree.json_tokens j) r (subst AreTextTokens (value-json_tokens_back max_depth ts r j h) all)).0 in
    subst (λ (o : Option Data). IfSome o IsTextData) e
    (if_then IsTextJson IsTextData of_json (λ j h. data_of j h) (option_and_then (λ p. json.if_last p.0 p.1) (json.value max_depth ts)) (last_text (json.value max_depth ts) whole))

-- ---- what stands in it

no_data : (d : Data) → None ≡ Some d → ⊥
no_data d e = cc

same_data : (a b : Data) → Some a ≡ Some b → a ≡ b
same_data a b e = cc

member_at : (o : Ordering) (found : Option Data) (d inner : Data) → IsTextData d → (found ≡ Some inner → IsTextData inner) → match_ordering o found (Some d) found ≡ Some inner → IsTextData inner
member_at Less found d inner h more e = more e
member_at Equal found d inner h more e = subst IsTextData (same_data d inner e) h
member_at Greater found d inner h more e = more e

member_text : (name : List ℕ) (ms : Members) (inner : Data) → MembersHaveTexts ms → get_member name ms ≡ Some inner → IsTextData inner
member_text name no_members inner h e = absurd (no_data inner e)
member_text name (member l d ms) inner h e = member_at (slice_cmp nat_cmp name l) (get_member name ms) d inner h.0 (λ f. member_text name ms inner h.1 f) e

get_text : (name : List ℕ) (d inner : Data) → IsTextData d → get name d ≡ Some inner → IsTextData inner
get_text name null inner h e = absurd (no_data inner e)
get_text name (boolean b) inner h e = absurd (no_data inner e)
get_text name (number n) inner h e = absurd (no_data inner e)
get_text name (string s) inner h e = absurd (no_data inner e)
get_text name (array ds) inner h e = absurd (no_data inner e)
get_text name (object ms) inner h e = member_text name ms inner h e

pub stands_text : (tree : Data) (path : Names) (there : Data) → IsTextData tree → Stands tree path there → IsTextData there
stands_text tree [] there h stands = subst IsTextData stands h
stands_text tree (name ∷ path) there h stands = stands_text stands.0 path there (get_text name tree stands.0 h stands.1) stands.2
