-- The document of a history passes its tests, is the history, and is read from its text.
use Rattle.std.proofs.Common.{◌≡◌, ℕ, ◌+◌, List, [], ◌∷◌, map, codes, Option, Some, None, IfSome, refl, append_assoc}
use Rattle.std.specs.List.{AllByRecursion, AllZip, flat_map, enumerate_from}
use Rattle.toml.specs.Data.{array, Members}
use Rattle.toml.specs.Parse.{parse_document}
use Rattle.toml.specs.Tables.{along_dots, at_key}
use Rattle.toml_writer.specs.Text.{key_text, string_text}
use Rattle.minor_version.specs.Release.{release_text}
use Rattle.schemas.specs.Dated.{Dated, IsShaped}
use Rattle.schemas.specs.Shapes.{IsMinor, IsShapedGate, IsShapedApi, IsShapedField, IsShapedSpell}
use Rattle.schemas.specs.declared.array.Array.{Array}
use Rattle.history_reader.specs.Demands.{AreTables}
use Rattle.history_reader.specs.Meaning.{IsGateEntry, IsApiEntry, IsFieldEntry, IsSpellEntry, MeansTree}
use Rattle.history_reader.specs.Tests.{Passes, table_tests, entry_tests}
use Rattle.history_reader.specs.Tree.{tables_in}
use Rattle.history_reader.proofs.TestLemmas.{passed-append}
use Rattle.history_toml.specs.Tables.{Pair, tables_of, gate_pairs, api_pairs, field_pairs, spell_pairs, release_data, history_table}
use Rattle.history_toml.specs.Layout.{history_text}
use Rattle.history_toml.proofs.EntryLemmas.{IsWritten, gate_written, api_written, field_written, spell_written}
use Rattle.history_toml.proofs.ReadLemmas.{IsRow, Line, IsLine, lines_text, value_text, array_value, text_value, document_read}

-- the tables of an array's entries: they are the entries, pass their tests, and are read from lines
pub record AreWritten {X : Type 0} (kind : Array) (IsEntry : Members → X → Type 0) (rows : List (List Pair)) (xs : List X) : Type 0 where
  pub means : AllZip IsEntry (tables_in (tables_of rows)) xs
  pub tables : AreTables (tables_of rows)
  pub passes : (n : ℕ) → AllByRecursion Passes (flat_map (λ entry. table_tests kind entry.0 entry.1) (enumerate_from n (tables_in (tables_of rows))))
  pub rows_are : AllByRecursion IsRow rows

list_written : {X : Type 0} (kind : Array) (IsEntry : Members → X → Type 0) (pairs : X → List Pair) (Shaped : X → Type 0)
    → ((x : X) → Shaped x → IsWritten kind IsEntry (pairs x) x) → (xs : List X) → AllByRecursion Shaped xs → AreWritten kind IsEntry (map pairs xs) xs
list_written kind IsEntry pairs Shaped one [] h = record { means = tt; tables = tt; passes = λ n. tt; rows_are = tt }
list_written kind IsEntry pairs Shaped one (x ∷ xs) h =
    let here : IsWritten kind IsEntry (pairs x) x = one x h.0 in
    let more : AreWritten kind IsEntry (map pairs xs) xs = list_written kind IsEntry pairs Shaped one xs h.1 in
    record {
      means = (here.means, more.means);
      tables = (refl, more.tables);
      passes = λ n. passed-append _ _ (here.passes n) (more.passes (n + 1));
      rows_are = (here.row, more.rows_are);
    }

abbrev tree_with : Dated → Option ℕ → Option ℕ → Dated
tree_with h first last = record { first = first; last = last; gates = h.gates; apis = h.apis; fields = h.fields; spells = h.spells }

-- what is known of each array
record Arrays (h : Dated) : Type 0 where
  gates : AreWritten Array.Gate IsGateEntry (map gate_pairs h.gates) h.gates
  apis : AreWritten Array.Api IsApiEntry (map api_pairs h.apis) h.apis
  fields : AreWritten Array.Field IsFieldEntry (map field_pairs h.fields) h.fields
  spells : AreWritten Array.Spell IsSpellEntry (map spell_pairs h.spells) h.spells

arrays_written : (h : Dated) → IsShaped h → Arrays h
arrays_written h shaped = record {
  gates = list_written Array.Gate IsGateEntry gate_pairs IsShapedGate gate_written h.gates shaped.gates;
  apis = list_written Array.Api IsApiEntry api_pairs IsShapedApi api_written h.apis shaped.apis;
  fields = list_written Array.Field IsFieldEntry field_pairs IsShapedField field_written h.fields shaped.fields;
  spells = list_written Array.Spell IsSpellEntry spell_pairs IsShapedSpell spell_written h.spells shaped.spells;
}

-- the tests of all entries pass
entries_passed : (h : Dated) (a : Arrays h) → AllByRecursion Passes (flat_map (λ (p : Array × List Members). entry_tests p.0 p.1) (
    (Array.Gate, tables_in (tables_of (map gate_pairs h.gates)))
    ∷ (Array.Api, tables_in (tables_of (map api_pairs h.apis)))
    ∷ (Array.Field, tables_in (tables_of (map field_pairs h.fields)))
    ∷ (Array.Spell, tables_in (tables_of (map spell_pairs h.spells)))
    ∷ []))
entries_passed h a =
    passed-append _ _ (a.gates.passes 1)
    (passed-append _ _ (a.apis.passes 1) (passed-append _ _ (a.fields.passes 1) (passed-append _ [] (a.spells.passes 1) tt)))

-- ---- lines

abbrev release_at : List ℕ → ℕ → Line
release_at name k = record { key = name; holds = release_data k; text = string_text (release_text k) }

abbrev array_at : List ℕ → List (List Pair) → Line
array_at name rows = record { key = name; holds = array (tables_of rows); text = value_text rows }

abbrev array_lines : Dated → List Line
array_lines h =
    array_at (codes "gate") (map gate_pairs h.gates)
    ∷ array_at (codes "api") (map api_pairs h.apis)
    ∷ array_at (codes "field") (map field_pairs h.fields)
    ∷ array_at (codes "spell") (map spell_pairs h.spells)
    ∷ []

release_is_line : (name : List ℕ) (k : ℕ) → key_text name ≡ name → IsLine (release_at name k)
release_is_line name k bare = record { bare = bare; value = text_value (release_text k) }

array_is_line : (name : List ℕ) (rows : List (List Pair)) → key_text name ≡ name → AllByRecursion IsRow rows → IsLine (array_at name rows)
array_is_line name rows bare all = record { bare = bare; value = array_value rows all }

arrays_are_lines : (h : Dated) → Arrays h → AllByRecursion IsLine (array_lines h)
unfolding key_text
arrays_are_lines h a = (
  array_is_line (codes "gate") _ refl a.gates.rows_are,
  (array_is_line (codes "api") _ refl a.apis.rows_are, (array_is_line (codes "field") _ refl a.fields.rows_are, (array_is_line (codes "spell") _ refl a.spells.rows_are, tt))),
)

-- the tree is the history, and the text is read as the tree
pub record IsTree (h : Dated) : Type 0 where
  pub means : MeansTree (history_table h) h
  pub parsed : parse_document (history_text h) ≡ Some (history_table h)

tree_by : (h : Dated) (a : Arrays h) (first last : Option ℕ) → IfSome first IsMinor → IfSome last IsMinor → IsTree (tree_with h first last)
unfolding key_text along_dots at_key
tree_by h a None None b c = record {
  means = record {
    passed = (tt, (tt, (a.gates.tables, (a.apis.tables, (a.fields.tables, (a.spells.tables, entries_passed h a))))));
    history = record { first = refl; last = refl; gates = a.gates.means; apis = a.apis.means; fields = a.fields.means; spells = a.spells.means };
  };
  parsed =
      let ls : List Line = array_lines h in
      let same : history_text (tree_with h None None) ≡ lines_text ls = simp append_assoc refl in
      rw same (document_read ls (arrays_are_lines h a) refl);
}
tree_by h a None (Some n) b c = record {
  means = record {
    passed = (tt, ((n, c, refl), (a.gates.tables, (a.apis.tables, (a.fields.tables, (a.spells.tables, entries_passed h a))))));
    history = record { first = refl; last = record { text = refl; bound = c }; gates = a.gates.means; apis = a.apis.means; fields = a.fields.means; spells = a.spells.means };
  };
  parsed =
      let ls : List Line = release_at (codes "last") n ∷ array_lines h in
      let same : history_text (tree_with h None (Some n)) ≡ lines_text ls = simp append_assoc refl in
      rw same (document_read ls ((release_is_line (codes "last") n refl, arrays_are_lines h a)) refl);
}
tree_by h a (Some k) None b c = record {
  means = record {
    passed = ((k, b, refl), (tt, (a.gates.tables, (a.apis.tables, (a.fields.tables, (a.spells.tables, entries_passed h a))))));
    history = record { first = record { text = refl; bound = b }; last = refl; gates = a.gates.means; apis = a.apis.means; fields = a.fields.means; spells = a.spells.means };
  };
  parsed =
      let ls : List Line = release_at (codes "first") k ∷ array_lines h in
      let same : history_text (tree_with h (Some k) None) ≡ lines_text ls = simp append_assoc refl in
      rw same (document_read ls ((release_is_line (codes "first") k refl, arrays_are_lines h a)) refl);
}
tree_by h a (Some k) (Some n) b c = record {
  means = record {
    passed = ((k, b, refl), ((n, c, refl), (a.gates.tables, (a.apis.tables, (a.fields.tables, (a.spells.tables, entries_passed h a))))));
    history = record { first = record { text = refl; bound = b }; last = record { text = refl; bound = c }; gates = a.gates.means; apis = a.apis.means; fields = a.fields.means; spells = a.spells.means };
  };
  parsed =
      let ls : List Line = release_at (codes "first") k ∷ release_at (codes "last") n ∷ array_lines h in
      let same : history_text (tree_with h (Some k) (Some n)) ≡ lines_text ls = simp append_assoc refl in
      rw same (document_read ls ((release_is_line (codes "first") k refl, (release_is_line (codes "last") n refl, arrays_are_lines h a))) refl);
}

pub history_tree : (h : Dated) → IsShaped h → IsTree h
history_tree h shaped = tree_by h (arrays_written h shaped) h.first h.last shaped.first shaped.last
