-- What is written for a table, an array of tables and a document is read back.
use Rattle.std.proofs.Common.{◌≡◌, ℕ, suc, ◌-◌, ◌<◌, true, false, ◌==◌, List, [], ◌∷◌, ◌++◌, length, map, codes, Option, Some, None, option_map, option_and_then, FitsSigned, refl, ap, ◌∙◌, arith, append_assoc, length-append}
use Rattle.std.specs.Int.{w64}
use Rattle.std.specs.List.{AllByRecursion, flat_map}
use Rattle.std.proofs.lemmas.Bool.Decides.{nat_tests}
use Rattle.toml_parser.specs.Lexical.{first, skip_blank, skip_ws}
use Rattle.toml_parser.proofs.LexicalLemmas.{skip_ws_none, skip_from-nil}
use Rattle.toml_writer.specs.Text.{key_text, string_text}
use Rattle.toml_writer.proofs.Strings.{is_key_start-key_text}
use Rattle.toml.specs.Data.{Data, string, integer, float, boolean, datetime, array, table, Items, no_items, push_item, Members, has_valid_dates, depth}
use Rattle.toml.specs.Tables.{Nodes, no_nodes, close, put, key_value, define, along_header}
use Rattle.toml.specs.Parse.{val, keyval, after_element, items, members, expression, ends_line, line, lines, skip_bom, parse_document}
use Rattle.toml.specs.Text.{IsValueText}
use Rattle.toml.proofs.Turns.{val_array, val_table, items_end, items_more, members_end, members_more, keyval_ok, lines_end, lines_more, document_some}
use Rattle.toml.proofs.Blanks.{starts_value, skip_start, skip_none, skip_space, skip_newline, skip_within}
use Rattle.toml.proofs.ReadValues.{EndsValue, value_start, read_value, key_equals-pair, item_join, item_join-none, item_join-push}
use Rattle.history_toml.specs.Tables.{Pair, table_of, tables_of}
use Rattle.history_toml.specs.Layout.{scalar_text, pair_text, row_text}

-- a text, a whole number of 64 bits, or a boolean
abbrev pub IsPlain : Data → Type 0
IsPlain (string s) = Unit {0}
IsPlain (integer z) = FitsSigned w64 z
IsPlain (boolean b) = Unit {0}
IsPlain _ = ⊥

-- the members have bare names and plain values
abbrev pub ArePlain : List Pair → Type 0
ArePlain [] = Unit {0}
ArePlain (p ∷ ps) = (key_text p.0 ≡ p.0) × IsPlain p.1 × ArePlain ps

plain_text : (d : Data) → IsPlain d → IsValueText false d (scalar_text d)
plain_text (string s) h = refl
plain_text (integer z) h = (refl, h)
plain_text (float x) h = absurd h
plain_text (boolean b) h = refl
plain_text (datetime dt) h = absurd h
plain_text (array ds) h = absurd h
plain_text (table ms) h = absurd h

plain_depth : (d : Data) → IsPlain d → depth d ≡ 0
plain_depth (string s) h = refl
plain_depth (integer z) h = refl
plain_depth (float x) h = absurd h
plain_depth (boolean b) h = refl
plain_depth (datetime dt) h = absurd h
plain_depth (array ds) h = absurd h
plain_depth (table ms) h = absurd h

plain_dates : (d : Data) → IsPlain d → has_valid_dates d ≡ true
plain_dates (string s) h = refl
plain_dates (integer z) h = refl
plain_dates (float x) h = absurd h
plain_dates (boolean b) h = refl
plain_dates (datetime dt) h = absurd h
plain_dates (array ds) h = absurd h
plain_dates (table ms) h = absurd h

-- a name, an equals sign and a plain value
pub pair_read : (n : ℕ) (p : Pair) (rest : List ℕ) → key_text p.0 ≡ p.0 → IsPlain p.1 → EndsValue rest → keyval (val n) (pair_text p ++ rest) ≡ Some ((([], p.0), p.1), rest)
pair_read n p rest bare plain ends =
    let value_at = scalar_text p.1 ++ rest in
    let text : IsValueText false p.1 (scalar_text p.1) = plain_text p.1 plain in
    let valid : has_valid_dates p.1 ≡ true = plain_dates p.1 plain in
    let flat : depth p.1 ≡ 0 = plain_depth p.1 plain in
    let (some, start) = value_start false p.1 (scalar_text p.1) rest text valid in
    let read = read_value false p.1 n (scalar_text p.1) rest text (omega arith) valid ends in
    let named = rw bare at (key_equals-pair p.0 value_at start) in
    let same : pair_text p ++ rest ≡ p.0 ++ (codes " = " ++ value_at) = simp append_assoc refl in
    rw same (keyval_ok (val n) _ value_at rest ([], p.0) p.1 named read)

pair_start : (p : Pair) (rest : List ℕ) → key_text p.0 ≡ p.0 → starts_value (first (pair_text p ++ rest)) ≡ true
pair_start p rest bare =
    let value_at = scalar_text p.1 ++ rest in
    let same : pair_text p ++ rest ≡ p.0 ++ (codes " = " ++ value_at) = simp append_assoc refl in
    let start = rw bare at (is_key_start-key_text p.0 (codes " = " ++ value_at)) in
    rw same (grind (arith, nat_tests))

-- what stands behind the first member of a table
abbrev pub tail_text : List Pair → List ℕ
tail_text ps = flat_map (λ q. codes ", " ++ pair_text q) ps ++ codes " }"

-- the members one after another
abbrev pub put_all : List Pair → Nodes → Option Nodes
put_all [] found = Some found
put_all (p ∷ ps) found = option_and_then (put_all ps) (put ([], p.0) p.1 found)

after_comma : (closing : ℕ) (t : List ℕ) → after_element closing (44 ∷ t) ≡ Some t
unfolding after_element
after_comma closing t = rw (skip_none (44 ∷ t) 44 refl refl)

after_brace : (t : List ℕ) → after_element 125 (32 ∷ 125 ∷ t) ≡ Some (125 ∷ t)
unfolding after_element
after_brace t = rw (skip_space (125 ∷ t), skip_none (125 ∷ t) 125 refl refl)

-- the members read after those found
read_step : (n m : ℕ) (p : Pair) (ps : List Pair) (x after next : List ℕ) (found : Nodes) (more : Option Nodes) (ns : Nodes) (rest : List ℕ) → put ([], p.0) p.1 found ≡ more → option_and_then (put_all ps) more ≡ Some ns
    → 0 < m → (first (skip_blank x) == 125) ≡ false → keyval (val n) (skip_blank x) ≡ Some ((([], p.0), p.1), after) → after_element 125 after ≡ Some next
    → ((found : Nodes) → put_all ps found ≡ Some ns → members (val n) (m - 1) found next ≡ Some (close ns, rest)) → members (val n) m found x ≡ Some (close ns, rest)
read_step n m p ps x after next found None ns rest is all some other read element go = cc
read_step n m p ps x after next found (Some more) ns rest is all some other read element go =
    members_more (val n) m found more x ([], p.0) p.1 after next some other read is element ∙ go more all

mutual
  read_pairs : (n m : ℕ) (p : Pair) (ps : List Pair) (x rest : List ℕ) (found ns : Nodes) → ArePlain (p ∷ ps) → put_all (p ∷ ps) found ≡ Some ns
      → skip_blank x ≡ pair_text p ++ (tail_text ps ++ rest) → length x < m → members (val n) m found x ≡ Some (close ns, rest)
  read_pairs n m p [] x rest found ns plain all skip room =
      let after = 32 ∷ 125 ∷ rest in
      let ends : EndsValue after = ((refl, refl), (refl, refl)) in
      let start = pair_start p after plain.0 in
      let other : (first (skip_blank x) == 125) ≡ false = rw skip (grind (arith, nat_tests)) in
      let within = skip_within x in
      let shorter : length (skip_blank x) ≡ length (pair_text p ++ after) = ap length skip in
      let sizes = length-append (pair_text p) after in
      read_step n m p [] x after (125 ∷ rest) found _ ns rest refl all (omega arith) other (rw skip (pair_read n p after plain.0 plain.1 ends)) (after_brace rest)
      (λ more done. let same : more ≡ ns = cc in rw (members_end (val n) (m - 1) more (125 ∷ rest) (omega arith) (rw (skip_none (125 ∷ rest) 125 refl refl) refl), skip_none (125 ∷ rest) 125 refl refl, same))
  read_pairs n m p (q ∷ qs) x rest found ns plain all skip room =
      let next = 32 ∷ (pair_text q ++ (tail_text qs ++ rest)) in
      let after = 44 ∷ next in
      let same : tail_text (q ∷ qs) ++ rest ≡ after = simp append_assoc refl in
      let at_pair : skip_blank x ≡ pair_text p ++ after = skip ∙ ap (λ (t : List ℕ). pair_text p ++ t) same in
      let ends : EndsValue after = ((refl, refl), (refl, refl)) in
      let start = pair_start p after plain.0 in
      let other : (first (skip_blank x) == 125) ≡ false = rw at_pair (grind (arith, nat_tests)) in
      let within = skip_within x in
      let shorter : length (skip_blank x) ≡ length (pair_text p ++ after) = ap length at_pair in
      let sizes = length-append (pair_text p) after in
      let at_next : skip_blank next ≡ pair_text q ++ (tail_text qs ++ rest) = skip_space _ ∙ skip_start _ (pair_start q (tail_text qs ++ rest) plain.2.0) in
      read_step n m p (q ∷ qs) x after next found _ ns rest refl all (omega arith) other (rw at_pair (pair_read n p after plain.0 plain.1 ends)) (after_comma 125 next)
      (λ more done. read_pairs n (m - 1) q qs next rest more ns plain.2 done at_next (omega arith))

-- a table on one line
abbrev pub tables_by : List Pair → Option Members
tables_by ps = option_map close (put_all ps no_nodes)

pub record IsRow (ps : List Pair) : Type 0 where
  pub reads : (rest : List ℕ) → val 79 (row_text ps ++ rest) ≡ Some (table (table_of ps), rest)
  pub opens : (rest : List ℕ) → first (row_text ps ++ rest) ≡ 123

row_by : (p : Pair) (ps : List Pair) (o : Option Nodes) (rest : List ℕ) → ArePlain (p ∷ ps) → put_all (p ∷ ps) no_nodes ≡ o → option_map close o ≡ Some (table_of (p ∷ ps))
    → val 79 (row_text (p ∷ ps) ++ rest) ≡ Some (table (table_of (p ∷ ps)), rest)
row_by p ps None rest plain all closed = cc
row_by p ps (Some ns) rest plain all closed =
    let inner = 32 ∷ (pair_text p ++ (tail_text ps ++ rest)) in
    let same : row_text (p ∷ ps) ++ rest ≡ 123 ∷ inner = simp append_assoc refl in
    let at_pair : skip_blank inner ≡ pair_text p ++ (tail_text ps ++ rest) = skip_space _ ∙ skip_start _ (pair_start p (tail_text ps ++ rest) plain.0) in
    let closes : close ns ≡ table_of (p ∷ ps) = cc in
    rw same (val_table 78 (123 ∷ inner) refl refl ∙ rw (read_pairs 78 (length (123 ∷ inner)) p ps inner rest no_nodes ns plain all at_pair (omega arith), closes))

pub row_of : (p : Pair) (ps : List Pair) → ArePlain (p ∷ ps) → tables_by (p ∷ ps) ≡ Some (table_of (p ∷ ps)) → IsRow (p ∷ ps)
row_of p ps plain closed = record { reads = λ rest. row_by p ps (put_all (p ∷ ps) no_nodes) rest plain refl closed; opens = λ rest. refl }

-- ---- arrays

abbrev pub rows_text : List (List Pair) → List ℕ
rows_text rows = flat_map (λ row. codes " " ++ (row_text row ++ codes ",\n")) rows

pub rows_read : (m : ℕ) (rows : List (List Pair)) (x rest : List ℕ) (found : Items) → AllByRecursion IsRow rows → skip_blank x ≡ skip_blank (rows_text rows ++ 93 ∷ rest) → length x < m
    → items (val 79) m found x ≡ Some (item_join found (tables_of rows), rest)
rows_read m [] x rest found all skip room =
    let closing : skip_blank x ≡ 93 ∷ rest = skip ∙ skip_none (93 ∷ rest) 93 refl refl in
    items_end (val 79) m found x (omega arith) (rw closing refl) ∙ rw (closing, item_join-none found)
rows_read m (ps ∷ rows) x rest found all skip room =
    let next = 10 ∷ (rows_text rows ++ 93 ∷ rest) in
    let after = 44 ∷ next in
    let same : rows_text (ps ∷ rows) ++ 93 ∷ rest ≡ 32 ∷ (row_text ps ++ after) = simp append_assoc refl in
    let opened : first (row_text ps ++ after) ≡ 123 = all.0.opens after in
    let start : starts_value (first (row_text ps ++ after)) ≡ true = rw opened refl in
    let at_row : skip_blank x ≡ row_text ps ++ after = skip ∙ rw same (skip_space _ ∙ skip_start _ start) in
    let read = all.0.reads after in
    let other : (first (skip_blank x) == 93) ≡ false = rw (at_row, opened) refl in
    let within = skip_within x in
    let shorter : length (skip_blank x) ≡ length (row_text ps ++ after) = ap length at_row in
    let sizes = length-append (row_text ps) after in
    let tail = rows_read (m - 1) rows next rest (push_item found (table (table_of ps))) all.1 (skip_newline _) (omega arith) in
    items_more (val 79) m found x (table (table_of ps)) after next (omega arith) other (rw at_row read) (after_comma 93 next) ∙ tail ∙ ap (λ t. Some (t, rest)) (item_join-push found (table (table_of ps)) (tables_of rows))

-- ---- lines

-- a value on the right of a key, up to the end of the line
pub record IsValueAt (d : Data) (text : List ℕ) : Type 0 where
  pub reads : (rest : List ℕ) → val 80 (text ++ 10 ∷ rest) ≡ Some (d, 10 ∷ rest)
  pub starts : (rest : List ℕ) → starts_value (first (text ++ rest)) ≡ true

abbrev pub value_text : List (List Pair) → List ℕ
value_text rows = codes "[\n" ++ (rows_text rows ++ codes "]")

pub array_value : (rows : List (List Pair)) → AllByRecursion IsRow rows → IsValueAt (array (tables_of rows)) (value_text rows)
array_value rows all = record {
  reads = λ rest.
      let inner = 10 ∷ (rows_text rows ++ 93 ∷ 10 ∷ rest) in
      let same : value_text rows ++ 10 ∷ rest ≡ 91 ∷ inner = simp append_assoc refl in
      rw same (val_array 79 (91 ∷ inner) refl ∙ rw (rows_read (length (91 ∷ inner)) rows inner (10 ∷ rest) no_items all (skip_newline _) (omega arith)));
  starts = λ rest. refl;
}

pub text_value : (s : List ℕ) → IsValueAt (string s) (string_text s)
text_value s = record {
  reads = λ rest. read_value false (string s) 80 (string_text s) (10 ∷ rest) refl (omega arith) refl ((refl, refl), (refl, refl));
  starts = λ rest. (value_start false (string s) (string_text s) rest refl refl).1;
}

-- a line of a document
pub record Line : Type 0 where
  pub key : List ℕ
  pub holds : Data
  pub text : List ℕ

abbrev pub line_text : Line → List ℕ
line_text l = l.key ++ (codes " = " ++ (l.text ++ codes "\n"))

abbrev pub pair_of_line : Line → Pair
pair_of_line l = (l.key, l.holds)

pub record IsLine (l : Line) : Type 0 where
  pub bare : key_text l.key ≡ l.key
  pub value : IsValueAt l.holds l.text

ends_at_newline : (rest : List ℕ) → ends_line (skip_ws (10 ∷ rest)) ≡ true
ends_at_newline rest = rw (skip_ws_none (10 ∷ rest) refl) (grind (arith, nat_tests))

line_read : (l : Line) (rest : List ℕ) → IsLine l → line (l.key ++ (codes " = " ++ (l.text ++ 10 ∷ rest))) ≡ Some ((([], l.key), key_value l.holds), 10 ∷ rest)
unfolding line expression
line_read l rest h =
    let value_at = l.text ++ 10 ∷ rest in
    let s = l.key ++ (codes " = " ++ value_at) in
    let start : starts_value (first value_at) ≡ true = h.value.starts (10 ∷ rest) in
    let named = rw h.bare at (key_equals-pair l.key value_at start) in
    let pair = keyval_ok (val 80) s value_at (10 ∷ rest) ([], l.key) l.holds named (h.value.reads rest) in
    let key_first = rw h.bare at (is_key_start-key_text l.key (codes " = " ++ value_at)) in
    let other : (first s == 91) ≡ false = grind (arith, nat_tests) in
    rw (other, pair, ends_at_newline rest)

line_start : (l : Line) (rest : List ℕ) → IsLine l → starts_value (first (l.key ++ (codes " = " ++ rest))) ≡ true
line_start l rest h =
    let key_first = rw h.bare at (is_key_start-key_text l.key (codes " = " ++ rest)) in
    grind (arith, nat_tests)

abbrev pub lines_text : List Line → List ℕ
lines_text ls = flat_map line_text ls

line_step : (m : ℕ) (l : Line) (ls : List Line) (x after : List ℕ) (found : Nodes) (more : Option Nodes) (ns : Nodes) → put ([], l.key) l.holds found ≡ more → option_and_then (put_all (map pair_of_line ls)) more ≡ Some ns
    → 0 < m → (length (skip_blank x) == 0) ≡ false → line (skip_blank x) ≡ Some ((([], l.key), key_value l.holds), after)
    → ((found : Nodes) → put_all (map pair_of_line ls) found ≡ Some ns → lines (m - 1) (found, []) after ≡ Some (ns, [])) → lines m (found, []) x ≡ Some (ns, [])
unfolding define along_header
line_step m l ls x after found None ns is all some other read go = cc
line_step m l ls x after found (Some more) ns is all some other read go =
    lines_more m (found, []) (more, []) x (([], l.key), key_value l.holds) after some other read (rw is) ∙ go more all

pub lines_read : (m : ℕ) (ls : List Line) (x : List ℕ) (found ns : Nodes) → AllByRecursion IsLine ls → put_all (map pair_of_line ls) found ≡ Some ns → skip_blank x ≡ skip_blank (lines_text ls) → length x < m → lines m (found, []) x ≡ Some (ns, [])
lines_read m [] x found ns good all skip room =
    let same : found ≡ ns = cc in
    lines_end m (found, []) x (omega arith) (rw (skip, skip_from-nil true false) refl) ∙ rw same
lines_read m (l ∷ ls) x found ns good all skip room =
    let after = 10 ∷ lines_text ls in
    let s = l.key ++ (codes " = " ++ (l.text ++ after)) in
    let same : lines_text (l ∷ ls) ≡ s = simp append_assoc refl in
    let at_line : skip_blank x ≡ s = skip ∙ rw same (skip_start s (line_start l (l.text ++ after) good.0)) in
    let key_size = length-append l.key (codes " = " ++ (l.text ++ after)) in
    let text_size = length-append l.text after in
    let within = skip_within x in
    let shorter : length (skip_blank x) ≡ length s = ap length at_line in
    let other : (length (skip_blank x) == 0) ≡ false = rw shorter (grind (arith, nat_tests)) in
    line_step m l ls x after found _ ns refl all (omega arith) other (rw at_line (line_read l (lines_text ls) good.0))
    (λ more done. lines_read (m - 1) ls after more ns good.1 done (skip_newline _) (omega arith))

not_bom : (ls : List Line) → AllByRecursion IsLine ls → (first (lines_text ls) == 239) ≡ false
not_bom [] good = refl
not_bom (l ∷ ls) good =
    let same : lines_text (l ∷ ls) ≡ l.key ++ (codes " = " ++ (l.text ++ 10 ∷ lines_text ls)) = simp append_assoc refl in
    let start = line_start l (l.text ++ 10 ∷ lines_text ls) good.0 in
    rw same (grind (arith, nat_tests))

no_skip : (text : List ℕ) → (first text == 239) ≡ false → skip_bom text ≡ text
unfolding skip_bom
no_skip text h = rw h

document_by : (ls : List Line) (o : Option Nodes) → AllByRecursion IsLine ls → put_all (map pair_of_line ls) no_nodes ≡ o → option_map close o ≡ Some (table_of (map pair_of_line ls))
    → parse_document (lines_text ls) ≡ Some (table_of (map pair_of_line ls))
document_by ls None good all closed = cc
document_by ls (Some ns) good all closed =
    let skipped = no_skip (lines_text ls) (not_bom ls good) in
    let read = lines_read (suc (length (lines_text ls))) ls (lines_text ls) no_nodes ns good all refl (omega arith) in
    document_some (lines_text ls) (ns, []) (rw skipped read) ∙ closed

-- a document of such lines
pub document_read : (ls : List Line) → AllByRecursion IsLine ls → tables_by (map pair_of_line ls) ≡ Some (table_of (map pair_of_line ls)) → parse_document (lines_text ls) ≡ Some (table_of (map pair_of_line ls))
document_read ls good closed = document_by ls (put_all (map pair_of_line ls) no_nodes) good refl closed
