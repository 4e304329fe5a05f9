-- The texts of what is read have no more bytes than what they are read from.
use Rattle.std.proofs.Common.{◌≡◌, ℕ, ◌+◌, ◌≤◌, List, [], ◌∷◌, ◌++◌, length, Option, Some, None, option_map, option_and_then, refl, sym, ap, subst, arith}
use Rattle.std.specs.Ordering.{nat_cmp, match_ordering}
use Rattle.std.specs.Cmp.Lexicographic.{slice_cmp}
use Rattle.std.specs.declared.cmp.Ordering.{Ordering}
use Rattle.std.specs.declared.cmp.Ordering.TheVariants.{Less, Equal, Greater}
use Rattle.json.specs.Json as json
use Rattle.json.specs.Lex.{tokens}
use Rattle.json.specs.Token.{Token}
use Rattle.json.specs.Tree.{json_tokens, items_tokens, members_tokens}
use Rattle.json.proofs.Unique.Spelling.{value-json_tokens_back}
use Rattle.serde_json.specs.Data.{Data, number, array, object, Items, item, Members, no_members, member, put}
use Rattle.serde_json.specs.Read.{number_of, of_json, of_items, of_members, max_depth}
use Rattle.body_bound.specs.Texts.{text_bytes, items_bytes, members_bytes, ReadsWithin}
use Rattle.body_bound.proofs.TokenLemmas.{tokens_bytes, tokens_within, bytes_append}

-- what is there has no more than n bytes of texts
abbrev DataWithin : ℕ → Option Data → Type 0
DataWithin n None = Unit {0}
DataWithin n (Some d) = text_bytes d ≤ n

abbrev ItemsWithin : ℕ → Option Items → Type 0
ItemsWithin n None = Unit {0}
ItemsWithin n (Some ds) = items_bytes ds ≤ n

abbrev MembersWithin : ℕ → Option Members → Type 0
MembersWithin n None = Unit {0}
MembersWithin n (Some ms) = members_bytes ms ≤ n

-- ---- members go in

put_by : (r : Ordering) (a b c : Members) (n : ℕ) → members_bytes a ≤ n → members_bytes b ≤ n → members_bytes c ≤ n → members_bytes (match_ordering r a b c) ≤ n
put_by Less a b c n p q s = p
put_by Equal a b c n p q s = q
put_by Greater a b c n p q s = s

pub put_within : (k : List ℕ) (d : Data) (ms : Members) → members_bytes (put k d ms) ≤ text_bytes d + members_bytes ms
put_within k d no_members = omega arith
put_within k d (member l e ms) = let more = put_within k d ms in
    put_by (slice_cmp nat_cmp k l) _ _ _ _ (omega arith) (omega arith) (omega (arith, more))

-- ---- the tree of a value

map_number : (o : Option _) → DataWithin 0 (option_map number o)
map_number None = tt
map_number (Some n) = omega arith

map_array : (n : ℕ) (o : Option Items) → ItemsWithin n o → DataWithin n (option_map array o)
map_array n None h = tt
map_array n (Some ds) h = h

map_object : (n : ℕ) (o : Option Members) → MembersWithin n o → DataWithin n (option_map object o)
map_object n None h = tt
map_object n (Some ms) h = h

map_item : (n m : ℕ) (d : Data) (o : Option Items) → text_bytes d ≤ n → ItemsWithin m o → ItemsWithin (n + m) (option_map (item d) o)
map_item n m d None p h = tt
map_item n m d (Some ds) p h = omega (arith, p, h)

then_item : (n m : ℕ) (o : Option Data) (ds : Option Items) → DataWithin n o → ItemsWithin m ds → ItemsWithin (n + m) (option_and_then (λ d. option_map (item d) ds) o)
then_item n m None ds p h = tt
then_item n m (Some d) ds p h = map_item n m d ds p h

then_member : (n m : ℕ) (o : Option Data) (f : Data → Option Members) → DataWithin n o → ((d : Data) → text_bytes d ≤ n → MembersWithin m (f d)) → MembersWithin m (option_and_then f o)
then_member n m None f p h = tt
then_member n m (Some d) f p h = h d p

more_members : (n m : ℕ) (o : Option Members) → n ≤ m → MembersWithin n o → MembersWithin m o
more_members n m None le h = tt
more_members n m (Some ms) le h = omega (arith, le, h)

more_data : (n m : ℕ) (o : Option Data) → n ≤ m → DataWithin n o → DataWithin m o
more_data n m None le h = tt
more_data n m (Some d) le h = omega (arith, le, h)

split : (a b : List Token) → tokens_bytes a + tokens_bytes b ≡ tokens_bytes (a ++ b)
split a b = sym (bytes_append a b)

mutual
  json_within : (j : json.Json) → DataWithin (tokens_bytes (json_tokens j)) (of_json j)
  json_within json.null = omega arith
  json_within (json.boolean b) = omega arith
  json_within (json.number s) = map_number (number_of s)
  json_within (json.string s) = omega arith
  json_within (json.array js) =
      more_data (tokens_bytes (items_tokens js)) (tokens_bytes (json_tokens (json.array js))) _ (omega arith) (map_array _ (of_items js) (items_within js))
  json_within (json.object ms) =
      more_data (tokens_bytes (members_tokens ms) + 0) (tokens_bytes (json_tokens (json.object ms))) _ (omega arith) (map_object _ (of_members ms no_members) (members_within ms no_members))

  items_within : (js : json.Items) → ItemsWithin (tokens_bytes (items_tokens js)) (of_items js)
  items_within json.no_items = omega arith
  items_within (json.item j js) =
      subst (λ n. ItemsWithin n (of_items (json.item j js))) (split (json_tokens j) (items_tokens js))
      (then_item _ _ (of_json j) (of_items js) (json_within j) (items_within js))

  members_within : (ms : json.Members) (found : Members) → MembersWithin (tokens_bytes (members_tokens ms) + members_bytes found) (of_members ms found)
  members_within json.no_members found = omega arith
  members_within (json.member k j ms) found =
      then_member (tokens_bytes (json_tokens j)) _ (of_json j) (λ d. of_members ms (put k d found)) (json_within j)
      (λ d le. more_members (tokens_bytes (members_tokens ms) + members_bytes (put k d found)) (tokens_bytes (members_tokens (json.member k j ms)) + members_bytes found) _
      (let both = split (json_tokens j) (members_tokens ms) in let more = put_within k d found in omega (arith, both, more, le))
      (members_within ms (put k d found)))

-- ---- the tree of a text

value_within : (n : ℕ) (o : Option (json.Json × List Token))
    → ((j : json.Json) (rest : List Token) → o ≡ Some (j, rest) → tokens_bytes (json_tokens j ++ rest) ≤ n)
    → DataWithin n (option_and_then of_json (option_and_then (λ p. json.if_last p.0 p.1) o))
value_within n None h = tt
value_within n (Some (j, [])) h =
    let le = h j [] refl in
    let both = bytes_append (json_tokens j) [] in
    more_data (tokens_bytes (json_tokens j)) n (of_json j) (omega (arith, le, both)) (json_within j)
value_within n (Some (j, t ∷ ts)) h = tt

tokens_of : (bytes : List ℕ) (j : json.Json) (rest : List Token) → json.value max_depth (tokens bytes) ≡ Some (j, rest) → tokens_bytes (json_tokens j ++ rest) ≤ length bytes
tokens_of bytes j rest is =
    let back = ap tokens_bytes (value-json_tokens_back max_depth (tokens bytes) rest j is) in
    let le = tokens_within bytes in
    omega (arith, back, le)

pub reads_within : (bytes : List ℕ) → ReadsWithin bytes
reads_within bytes tree e = subst (DataWithin (length bytes)) e (value_within (length bytes) (json.value max_depth (tokens bytes)) (tokens_of bytes))
