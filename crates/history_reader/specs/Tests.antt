-- The tests that a history document must pass, in their order, and the first that fails.
use Rattle.std.specs.Prelude.{ℕ, ◌≡◌, Bool, not, List, ◌∷◌, ◌++◌, Some, map, filter}
use Rattle.std.specs.declared.option.Option.{Option}
use Rattle.std.specs.List.{AllByRecursion, list_any, flat_map, enumerate_from}
use Rattle.std.specs.Str.{bytes_eq}
use Rattle.toml.specs.Data.{Data, Members, get_member}
use Rattle.schemas.specs.Arrays.{array_name}
use Rattle.schemas.specs.declared.array.Array.{Array}
use Rattle.history_reader.specs.declared.demand.Demand.{Demand}
use Rattle.history_reader.specs.declared.demand.Demand.TheVariants.{Absent}
use Rattle.history_reader.specs.Names.{member_name}
use Rattle.history_reader.specs.Tree.{pairs_of, tables_at}
use Rattle.history_reader.specs.Demands.{Meets}
use Rattle.history_reader.specs.Rows.{Row, rows_of, entry_arrays}

-- a member of a document: its array, the number of its entry from 1, and its name; the document's
-- own members are at entry 0 of `Top`
pub record Place : Type 0 where
  pub array : Array
  pub index : ℕ
  pub member : List ℕ

-- what must stand at a place, and what does
pub record Test : Type 0 where
  pub place : Place
  pub demand : Demand
  pub found : Option Data

abbrev pub Passes : Test → Type 0
Passes test = Meets test.demand test.found

-- the test at the place fails, and all before it pass
pub record IsFirstFault (tests : List Test) (place : Place) : Type 0 where
  pub before : List Test
  pub test : Test
  pub after : List Test
  pub split : tests ≡ before ++ test ∷ after
  pub passed : AllByRecursion Passes before
  pub failed : ¬ Passes test
  pub named : place ≡ test.place

-- the member of a row must hold what the row demands
abbrev pub row_test : Array → ℕ → Members → Row → Test
row_test array index ms row = record {
  place = record { array = array; index = index; member = member_name row.0 };
  demand = row.1;
  found = get_member (member_name row.0) ms;
}

-- the table's members hold what the rows demand
abbrev pub MeetsRows : List Row → Members → Type 0
MeetsRows rows ms = AllByRecursion (λ row. Meets row.1 (get_member (member_name row.0) ms)) rows

-- a member that no row names must not be there
abbrev pub unknown_test : Array → ℕ → List ℕ × Data → Test
unknown_test array index m = record {
  place = record { array = array; index = index; member = m.0 };
  demand = Absent;
  found = Some m.1;
}

abbrev pub is_named : List Row → List ℕ → Bool
is_named rows name = list_any (λ row. bytes_eq (member_name row.0) name) rows

-- the members that no row names, in byte order
abbrev pub unknown_members : List Row → Members → List (List ℕ × Data)
unknown_members rows ms = filter (λ m. not (is_named rows m.0)) (pairs_of ms)

-- of a table: its rows in order, then its unknown members
abbrev pub tests_by : Array → ℕ → List Row → Members → List Test
tests_by array index rows ms =
    map (row_test array index ms) rows ++ map (unknown_test array index) (unknown_members rows ms)

abbrev pub table_tests : Array → ℕ → Members → List Test
table_tests array index ms = tests_by array index (rows_of array ms) ms

-- of entries in order, numbered from 1
abbrev pub entry_tests : Array → List Members → List Test
entry_tests array tables =
    flat_map (λ entry. table_tests array entry.0 entry.1) (enumerate_from 1 tables)

-- of all entries of an array of the document
abbrev pub array_tests : Members → Array → List Test
array_tests ms array = entry_tests array (tables_at (array_name array) ms)

-- of a document: its own members, then the entries of one array after another
abbrev pub document_tests : Members → List Test
document_tests ms = table_tests Array.Top 0 ms ++ flat_map (array_tests ms) entry_arrays
