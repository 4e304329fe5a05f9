-- JSON of texts in UTF-8 and whole numbers is what its compact text is read as.
use Rattle.std.proofs.Common.{◌≡◌, ℕ, suc, ◌<◌, ◌≤◌, ◌^◌, max, Bool, true, false, cond, ◌==◌, List, [], ◌∷◌, ◌++◌, get_or, drop, decimal, Some, option_map, option_and_then, pos, negsuc, Greater, nat_cmp, IsUtf8, refl, sym, ◌∙◌, ap, arith, append-nil}
use Rattle.std.specs.Cmp.Lexicographic.{slice_cmp}
use Rattle.std.specs.List.Sorted.{IsStrictlySortedBy}
use Rattle.std.specs.Ordering.{match_ordering, ordering_reverse}
use Rattle.std.proofs.lemmas.Bool.{ne_eqb}
use Rattle.std.proofs.lemmas.Cmp.{nat_list_cmp_total}
use Rattle.std.proofs.lemmas.Fmt.{first_decimal, IsAscii-decimal}
use Rattle.std.proofs.lemmas.Str.{IsUtf8-append, IsUtf8-nil, IsUtf8-from_ascii}
use Rattle.conversion.specs.Showing.{names_of}
use Rattle.conversion.specs.Trees.{IsObject}
use Rattle.conversion.specs.Whole.{IsTextOf}
use Rattle.fields.proofs.MapLemmas.{AllAbove}
use Rattle.fields.specs.Order.{IsBelow, Rises}
use Rattle.json.proofs.Printed.Decimals.{IsNumber-decimal}
use Rattle.json.proofs.Printed.Tokens.{tokens-print}
use Rattle.json.proofs.Printed.Trees.{ArePrintable-json_tokens, value-json_tokens}
use Rattle.json.proofs.Printed.Utf8.{IsUtf8-are_ascii, IsUtf8-quoted, IsUtf8-boolean}
use Rattle.json.specs.Json as json
use Rattle.json.specs.Lex.{tokens}
use Rattle.json.specs.Print.{IsNumber, quoted}
use Rattle.json.specs.Token.{Token}
use Rattle.json.specs.Tree as tree
use Rattle.json.specs.Word.{after_exponent, after_fraction, after_number, after_whole, head}
use Rattle.serde_json.proofs.Numbers.{number_of-decimal, number_of-negative}
use Rattle.serde_json.proofs.Texts.{print-outline}
use Rattle.serde_json.specs.Data.{Num, unsigned, negative, float, Data, null, boolean, number, string, array, object, Items, no_items, item, Members, no_members, member, put, depth, items_depth, members_depth}
use Rattle.serde_json.specs.Read.{number_of, of_json, of_items, of_members, max_depth, read}
use Rattle.serde_json.specs.Written.{number_text, outline, items_outline, members_outline, comma_if, compact_text, items_text, members_text}

-- ---- clean data

abbrev pub IsNum : Num → Type 0
IsNum (unsigned n) = n < 2 ^ 64
IsNum (negative (pos n)) = ⊥
IsNum (negative (negsuc n)) = n < 2 ^ 63
IsNum (float x) = ⊥

-- texts are UTF-8, numbers are whole, and members stand in rising byte order of name
abbrev mutual
  pub IsClean : Data → Type 0
  IsClean null = Unit {0}
  IsClean (boolean b) = Unit {0}
  IsClean (number n) = IsNum n
  IsClean (string s) = IsUtf8 s
  IsClean (array ds) = AreClean ds
  IsClean (object ms) = Rises (names_of ms) × HaveClean ms

  pub AreClean : Items → Type 0
  AreClean no_items = Unit {0}
  AreClean (item d ds) = IsClean d × AreClean ds

  pub HaveClean : Members → Type 0
  HaveClean no_members = Unit {0}
  HaveClean (member k d ms) = IsUtf8 k × IsClean d × HaveClean ms

-- ---- numbers

no_sign : (ds : List ℕ) → 48 < get_or ds 0 0 → (head ds == 45) ≡ false
no_sign [] first = absurd (omega (arith, first))
no_sign (d ∷ ds) first = ne_eqb d 45 (λ e. omega (arith, e, first))

negative_number : (n : ℕ) → n < 2 ^ 63 → IsNumber (45 ∷ decimal (suc n))
unfolding after_number
negative_number n h =
    let bound : suc n < 2 ^ 64 = omega arith in
    let first : 48 < get_or (decimal (suc n)) 0 0 = first_decimal (suc n) (omega arith) bound in
    let ds = decimal (suc n) in
    ap (λ (b : Bool). option_and_then after_exponent (option_and_then after_fraction (after_whole (cond b (drop 1 ds) ds)))) (sym (no_sign ds first)) ∙ IsNumber-decimal (suc n) bound

num_number : (n : Num) → IsNum n → IsNumber (number_text n)
num_number (unsigned n) h = IsNumber-decimal n h
num_number (negative (pos n)) h = absurd h
num_number (negative (negsuc n)) h = negative_number n h
num_number (float x) h = absurd h

num_read : (n : Num) → IsNum n → number_of (number_text n) ≡ Some n
num_read (unsigned n) h = number_of-decimal n h
num_read (negative (pos n)) h = absurd h
num_read (negative (negsuc n)) h = number_of-negative n h
num_read (float x) h = absurd h

pub negative_utf8 : (n : ℕ) → n < 2 ^ 63 → IsUtf8 (45 ∷ decimal (suc n))
negative_utf8 n h = IsUtf8-append (45 ∷ []) (decimal (suc n)) (IsUtf8-are_ascii (45 ∷ []) refl) (IsUtf8-from_ascii (decimal (suc n)) (IsAscii-decimal (suc n) (omega arith)))

num_utf8 : (n : Num) → IsNum n → IsUtf8 (number_text n)
num_utf8 (unsigned n) h = IsUtf8-from_ascii (decimal n) (IsAscii-decimal n h)
num_utf8 (negative (pos n)) h = absurd h
num_utf8 (negative (negsuc n)) h = negative_utf8 n h
num_utf8 (float x) h = absurd h

mutual
  numbers : (d : Data) → IsClean d → tree.HasNumbers (outline d)
  numbers null h = tt
  numbers (boolean b) h = tt
  numbers (number n) h = num_number n h
  numbers (string s) h = tt
  numbers (array ds) h = items_numbers ds h
  numbers (object ms) h = members_numbers ms h.1

  items_numbers : (ds : Items) → AreClean ds → tree.ItemsHaveNumbers (items_outline ds)
  items_numbers no_items h = tt
  items_numbers (item d ds) h = (numbers d h.0, items_numbers ds h.1)

  members_numbers : (ms : Members) → HaveClean ms → tree.MembersHaveNumbers (members_outline ms)
  members_numbers no_members h = tt
  members_numbers (member k d ms) h = (numbers d h.1, members_numbers ms h.2)

-- ---- depth

at_most : (a b c d : ℕ) → a ≤ c → b ≤ d → max a b ≤ max c d
at_most a b c d h k = omega arith

mutual
  outline_depth : (d : Data) → tree.depth (outline d) ≤ depth d
  outline_depth null = omega arith
  outline_depth (boolean b) = omega arith
  outline_depth (number n) = omega arith
  outline_depth (string s) = omega arith
  outline_depth (array ds) = let h = items_outline_depth ds in omega (arith, h)
  outline_depth (object ms) = let h = members_outline_depth ms in omega (arith, h)

  items_outline_depth : (ds : Items) → tree.items_depth (items_outline ds) ≤ items_depth ds
  items_outline_depth no_items = omega arith
  items_outline_depth (item d ds) = at_most (tree.depth (outline d)) (tree.items_depth (items_outline ds)) (depth d) (items_depth ds) (outline_depth d) (items_outline_depth ds)

  members_outline_depth : (ms : Members) → tree.members_depth (members_outline ms) ≤ members_depth ms
  members_outline_depth no_members = omega arith
  members_outline_depth (member k d ms) = at_most (tree.depth (outline d)) (tree.members_depth (members_outline ms)) (depth d) (members_depth ms) (outline_depth d) (members_outline_depth ms)

-- ---- members, one after another

followed : Members → Members → Members
followed no_members more = more
followed (member k d ms) more = member k d (followed ms more)

-- the name is behind each of these
abbrev IsBehind : Members → List ℕ → Type 0
IsBehind no_members k = Unit {0}
IsBehind (member l e ms) k = (slice_cmp nat_cmp k l ≡ Greater) × IsBehind ms k

abbrev AreBehind : Members → Members → Type 0
AreBehind found no_members = Unit {0}
AreBehind found (member k d ms) = IsBehind found k × AreBehind found ms

none_before : (ms : Members) → AreBehind no_members ms
none_before no_members = tt
none_before (member k d ms) = (tt, none_before ms)

greater : (k l : List ℕ) → IsBelow l k → slice_cmp nat_cmp k l ≡ Greater
greater k l below = nat_list_cmp_total.antisymm k l ∙ ap ordering_reverse below

then_none : (found : Members) → followed found no_members ≡ found
unfolding followed
then_none no_members = refl
then_none (member k d ms) = ap (member k d) (then_none ms)

then_then : (k : List ℕ) (d : Data) (found ms : Members) → followed (followed found (member k d no_members)) ms ≡ followed found (member k d ms)
unfolding followed
then_then k d no_members ms = refl
then_then k d (member l e found) ms = ap (member l e) (then_then k d found ms)

put_behind : (k : List ℕ) (d : Data) (found : Members) → IsBehind found k → put k d found ≡ followed found (member k d no_members)
unfolding followed
put_behind k d no_members h = refl
put_behind k d (member l e ms) h =
    ap (λ o. match_ordering o (member k d (member l e ms)) (member l d ms) (member l e (put k d ms))) h.0 ∙ ap (member l e) (put_behind k d ms h.1)

behind_one : (found : Members) (k l : List ℕ) (d : Data) → IsBehind found l → slice_cmp nat_cmp l k ≡ Greater → IsBehind (followed found (member k d no_members)) l
unfolding followed
behind_one no_members k l d h more = (more, tt)
behind_one (member n e ms) k l d h more = (h.0, behind_one ms k l d h.1 more)

behind_next : (k : List ℕ) (d : Data) (found ms : Members) → AllAbove k (names_of ms) → AreBehind found ms → AreBehind (followed found (member k d no_members)) ms
behind_next k d found no_members above h = tt
behind_next k d found (member l e ms) above h = (behind_one found k l d h.0 (greater l k above.0), behind_next k d found ms above.1 h.1)

-- ---- what the outline is read as

mutual
  unfolding IsStrictlySortedBy followed

  reads : (d : Data) → IsClean d → of_json (outline d) ≡ Some d
  reads null h = refl
  reads (boolean b) h = refl
  reads (number n) h = ap (option_map number) (num_read n h)
  reads (string s) h = refl
  reads (array ds) h = ap (option_map array) (items_read ds h)
  reads (object ms) h = ap (option_map object) (members_read ms no_members h.0 h.1 (none_before ms))

  items_read : (ds : Items) → AreClean ds → of_items (items_outline ds) ≡ Some ds
  items_read no_items h = refl
  items_read (item d ds) h =
      ap (option_and_then (λ (x : Data). option_map (item x) (of_items (items_outline ds)))) (reads d h.0) ∙ ap (option_map (item d)) (items_read ds h.1)

  members_read : (ms found : Members) → Rises (names_of ms) → HaveClean ms → AreBehind found ms → of_members (members_outline ms) found ≡ Some (followed found ms)
  members_read no_members found up h behind = ap Some (sym (then_none found))
  members_read (member k d ms) found up h behind =
      ap (option_and_then (λ (x : Data). of_members (members_outline ms) (put k x found))) (reads d h.1)
      ∙ (ap (of_members (members_outline ms)) (put_behind k d found behind.0)
      ∙ (members_read ms (followed found (member k d no_members)) up.1 h.2 (behind_next k d found ms up.0 behind.1)
      ∙ ap Some (then_then k d found ms)))

-- ---- its text is UTF-8

comma_utf8 : (b : Bool) → IsUtf8 (comma_if b)
comma_utf8 true = IsUtf8-are_ascii (44 ∷ []) refl
comma_utf8 false = IsUtf8-nil

mutual
  text_utf8 : (d : Data) → IsClean d → IsUtf8 (compact_text d)
  text_utf8 null h = IsUtf8-are_ascii _ refl
  text_utf8 (boolean b) h = IsUtf8-boolean b
  text_utf8 (number n) h = num_utf8 n h
  text_utf8 (string s) h = IsUtf8-quoted s h
  text_utf8 (array ds) h = IsUtf8-append (91 ∷ []) (items_text false ds) (IsUtf8-are_ascii (91 ∷ []) refl) (items_utf8 false ds h)
  text_utf8 (object ms) h = IsUtf8-append (123 ∷ []) (members_text false ms) (IsUtf8-are_ascii (123 ∷ []) refl) (members_utf8 false ms h.1)

  items_utf8 : (later : Bool) (ds : Items) → AreClean ds → IsUtf8 (items_text later ds)
  items_utf8 later no_items h = IsUtf8-are_ascii (93 ∷ []) refl
  items_utf8 later (item d ds) h =
      IsUtf8-append (comma_if later) (compact_text d ++ items_text true ds) (comma_utf8 later) (IsUtf8-append (compact_text d) (items_text true ds) (text_utf8 d h.0) (items_utf8 true ds h.1))

  members_utf8 : (later : Bool) (ms : Members) → HaveClean ms → IsUtf8 (members_text later ms)
  members_utf8 later no_members h = IsUtf8-are_ascii (125 ∷ []) refl
  members_utf8 later (member k d ms) h =
      let rest = compact_text d ++ members_text true ms in
      IsUtf8-append (comma_if later) (quoted k ++ 58 ∷ rest) (comma_utf8 later)
      (IsUtf8-append (quoted k) (58 ∷ rest) (IsUtf8-quoted k h.0)
      (IsUtf8-append (58 ∷ []) rest (IsUtf8-are_ascii (58 ∷ []) refl) (IsUtf8-append (compact_text d) (members_text true ms) (text_utf8 d h.1) (members_utf8 true ms h.2))))

-- ---- the text

text_read : (d : Data) → IsClean d → depth d ≤ max_depth → read (compact_text d) ≡ Some d
text_read d h shallow =
    let j = outline d in
    let ts = tree.json_tokens j in
    let low : tree.depth j ≤ max_depth = (let o = outline_depth d in omega (arith, o, shallow)) in
    let lexed : tokens (compact_text d) ≡ ts ++ [] = ap tokens (sym (print-outline d)) ∙ (tokens-print ts (ArePrintable-json_tokens j (numbers d h)) ∙ sym (append-nil ts)) in
    ap (λ (us : List Token). option_and_then of_json (option_and_then (λ p. json.if_last p.0 p.1) (json.value max_depth us))) lexed
    ∙ (ap (λ o. option_and_then of_json (option_and_then (λ p. json.if_last p.0 p.1) o)) (value-json_tokens j max_depth [] low) ∙ reads d h)

pub clean_text : (d : Data) → IsClean d → IsObject d → depth d ≤ max_depth → IsTextOf (compact_text d) d
clean_text d h is_object shallow = record { utf8 = text_utf8 d h; read = text_read d h shallow; object = is_object }
