-- The tests of tables and of arrays of tables.
use Rattle.std.proofs.Common.{◌≡◌, ℕ, zero, suc, ◌+◌, ◌<◌, Bool, true, false, not, cond, List, [], ◌∷◌, length, take, map, get_or, Option, Some, None, IsSome, IfSome, IsSomeAnd, option_map, option_and_then, unwrap_or, String, Global, string_bytes, refl, sym, ap, subst, ◌∙◌, add-one, arith}
use Rattle.std.specs.List.{AllByRecursion, find, flat_map, enumerate_from}
use Rattle.std.specs.Map.{keys_of}
use Rattle.toml.specs.Data.{Data, Items, no_items, Members, get_member, as_array, as_table}
use Rattle.toml.specs.View.{view, items_view, members_view}
use Rattle.toml.specs.declared.value.Value.{Value}
use Rattle.schemas.specs.Arrays.{array_name}
use Rattle.schemas.specs.declared.array.Array.{Array}
use Rattle.history_reader.specs.declared.demand.Shape.{Shape}
use Rattle.history_reader.specs.Tree.{members_in, tables_in, items_at, tables_at}
use Rattle.history_reader.specs.Demands.{AreTables, HasShape}
use Rattle.history_reader.specs.Rows.{Row, rows_of, entry_arrays}
use Rattle.history_reader.specs.Tests.{Place, Test, Passes, IsFirstFault, MeetsRows, row_test, unknown_test, unknown_members, is_named, tests_by, table_tests, entry_tests, array_tests, document_tests}
use Rattle.history_reader.proofs.TestLemmas.{joined_passed, passed-append, passed-front, passed-back, fault-front, fault-back, fault-here}

abbrev pub Entry : Type 0
Entry = String Global × Value

-- the tests of a table by rows that are the table's
pub table_fault_by : (array : Array) (index : ℕ) (rows : List Row) (ms : Members) (p : Place) → rows ≡ rows_of array ms
    → IsFirstFault (tests_by array index rows ms) p → IsFirstFault (table_tests array index ms) p
table_fault_by array index rows ms p e f = let P : List Row → Type 0 = λ r. IsFirstFault (tests_by array index r ms) p in subst P e f

pub table_passes_by : (array : Array) (index : ℕ) (rows : List Row) (ms : Members) → rows ≡ rows_of array ms
    → AllByRecursion Passes (tests_by array index rows ms) → AllByRecursion Passes (table_tests array index ms)
table_passes_by array index rows ms e h = let P : List Row → Type 0 = λ r. AllByRecursion Passes (tests_by array index r ms) in subst P e h

-- the members that no row names
unknown_step : (array : Array) (index : ℕ) (b : Bool) (k : String Global) (m : List ℕ × Data) (rest : Option (String Global)) (ms : List (List ℕ × Data)) (name : List ℕ)
    → m.0 ≡ string_bytes k
    → Some name ≡ option_map string_bytes (cond b (Some k) rest)
    → (Some name ≡ option_map string_bytes rest → IsFirstFault (map (unknown_test array index) ms) (record { array = array; index = index; member = name }))
    → IsFirstFault (map (unknown_test array index) (cond b (m ∷ ms) ms)) (record { array = array; index = index; member = name })
unknown_step array index true k m rest ms name key e ih =
    let same : name ≡ m.0 = cc in
    fault-here (unknown_test array index m) _ _ (λ none. let e : true ≡ false = none in cc) (λ i. record { array = array; index = index; member = same i })
unknown_step array index false k m rest ms name key e ih = ih e

pub unknown_fault : (array : Array) (index : ℕ) (rows : List Row) (es : List Entry) (name : List ℕ)
    → Some name ≡ option_map string_bytes (find (λ k. not (is_named rows (string_bytes k))) (keys_of es))
    → IsFirstFault (map (unknown_test array index) (unknown_members rows (members_view es))) (record { array = array; index = index; member = name })
unknown_fault array index rows [] name e = cc
unknown_fault array index rows (x ∷ es) name e =
    unknown_step array index (not (is_named rows (string_bytes x.0))) x.0 (string_bytes x.0, view x.1) _ _ name refl e (unknown_fault array index rows es name)

none_step : (array : Array) (index : ℕ) (b : Bool) (k : String Global) (m : List ℕ × Data) (rest : Option (String Global)) (ms : List (List ℕ × Data))
    → None ≡ option_map string_bytes (cond b (Some k) rest)
    → (None ≡ option_map string_bytes rest → AllByRecursion Passes (map (unknown_test array index) ms))
    → AllByRecursion Passes (map (unknown_test array index) (cond b (m ∷ ms) ms))
none_step array index true k m rest ms e ih = cc
none_step array index false k m rest ms e ih = ih e

pub none_unknown : (array : Array) (index : ℕ) (rows : List Row) (es : List Entry)
    → None ≡ option_map string_bytes (find (λ k. not (is_named rows (string_bytes k))) (keys_of es))
    → AllByRecursion Passes (map (unknown_test array index) (unknown_members rows (members_view es)))
none_unknown array index rows [] e = tt
none_unknown array index rows (x ∷ es) e =
    none_step array index (not (is_named rows (string_bytes x.0))) x.0 (string_bytes x.0, view x.1) _ _ e (none_unknown array index rows es)

-- of entries in order, numbered from here
abbrev tests_from : Array → ℕ → List Members → List Test
tests_from array n ts = flat_map (λ entry. table_tests array entry.0 entry.1) (enumerate_from n ts)

-- entries in order, of which those before the i-th pass their tests
pub entries_fault : (array : Array) (n : ℕ) (vs : List Value) (i j : ℕ) (d : Value) (p : Place) → i < length vs → j ≡ n + i
    → AllByRecursion Passes (tests_from array n (tables_in (items_view (take i vs))))
    → IsFirstFault (table_tests array j (members_in (view (get_or vs i d)))) p
    → IsFirstFault (tests_from array n (tables_in (items_view vs))) p
entries_fault array n [] i j d p h e a f = absurd (omega arith)
entries_fault array n (v ∷ vs) zero j d p h e a f =
    let same : j ≡ n = omega arith in
    let P : ℕ → Type 0 = λ k. IsFirstFault (table_tests array k (members_in (view v))) p in
    fault-front _ _ p (subst P same f)
entries_fault array n (v ∷ vs) (suc i) j d p h e a f =
    fault-back _ _ p (passed-front (table_tests array n (members_in (view v))) _ a)
    (entries_fault array (n + 1) vs i j d p (omega arith) (omega arith) (passed-back (table_tests array n (members_in (view v))) _ a) f)

pub entries_more : (array : Array) (n : ℕ) (vs : List Value) (i j : ℕ) (d : Value) → i < length vs → j ≡ n + i
    → AllByRecursion Passes (tests_from array n (tables_in (items_view (take i vs))))
    → AllByRecursion Passes (table_tests array j (members_in (view (get_or vs i d))))
    → AllByRecursion Passes (tests_from array n (tables_in (items_view (take (suc i) vs))))
entries_more array n [] i j d h e a f = absurd (omega arith)
entries_more array n (v ∷ vs) zero j d h e a f =
    let same : j ≡ n = omega arith in
    let P : ℕ → Type 0 = λ k. AllByRecursion Passes (table_tests array k (members_in (view v))) in
    passed-append _ [] (subst P same f) tt
entries_more array n (v ∷ vs) (suc i) j d h e a f =
    passed-append _ _ (passed-front (table_tests array n (members_in (view v))) _ a)
    (entries_more array (n + 1) vs i j d (omega arith) (omega arith) (passed-back (table_tests array n (members_in (view v))) _ a) f)

-- the same at an item and its table
pub entry_fault_at : (array : Array) (vs : List Value) (i : ℕ) (v : Value) (t : Members) (p : Place) → i < length vs → v ≡ get_or vs i v → t ≡ members_in (view v)
    → AllByRecursion Passes (entry_tests array (tables_in (items_view (take i vs)))) → IsFirstFault (table_tests array (i + 1) t) p
    → IsFirstFault (entry_tests array (tables_in (items_view vs))) p
entry_fault_at array vs i v t p h is same a f =
    let P : Members → Type 0 = λ ms. IsFirstFault (table_tests array (i + 1) ms) p in
    entries_fault array 1 vs i (i + 1) v p h (omega arith) a (subst P (same ∙ ap (λ w. members_in (view w)) is) f)

pub entry_passes_at : (array : Array) (vs : List Value) (i : ℕ) (v : Value) (t : Members) → i < length vs → v ≡ get_or vs i v → t ≡ members_in (view v)
    → AllByRecursion Passes (entry_tests array (tables_in (items_view (take i vs)))) → AllByRecursion Passes (table_tests array (i + 1) t)
    → AllByRecursion Passes (entry_tests array (tables_in (items_view (take (i + 1) vs))))
entry_passes_at array vs i v t h is same a f =
    let P : Members → Type 0 = λ ms. AllByRecursion Passes (table_tests array (i + 1) ms) in
    rw add-one (entries_more array 1 vs i (i + 1) v h (omega arith) a (subst P (same ∙ ap (λ w. members_in (view w)) is) f))

-- an item of an array of tables
table_item : (vs : List Value) (i : ℕ) (d : Value) → i < length vs → AreTables (items_view vs) → IsSome (as_table (view (get_or vs i d)))
table_item [] i d h a = absurd (omega arith)
table_item (v ∷ vs) zero d h a = a.0
table_item (v ∷ vs) (suc i) d h a = table_item vs i d (omega arith) a.1

pub is_table : (vs : List Value) (i : ℕ) (v : Value) → i < length vs → v ≡ get_or vs i v → AreTables (items_view vs) → IsSome (as_table (view v))
is_table vs i v h is a = let P : Value → Type 0 = λ w. IsSome (as_table (view w)) in subst P (sym is) (table_item vs i v h a)

array_tables : (a : Option Items) → IsSomeAnd a AreTables → AreTables (unwrap_or a no_items)
array_tables None h = absurd h
array_tables (Some ds) h = h

found_tables : (o : Option Data) → IfSome o (HasShape Shape.Tables) → AreTables (unwrap_or (option_and_then as_array o) no_items)
found_tables None h = tt
found_tables (Some d) h = array_tables (as_array d) h

-- where the document's own members pass, each array that is there is one of tables
pub are_tables : (ms : Members) → AllByRecursion Passes (table_tests Array.Top 0 ms) → AllByRecursion (λ a. AreTables (items_at (array_name a) ms)) entry_arrays
are_tables ms h = (
  found_tables (get_member (array_name Array.Gate) ms) h.1.1.0,
  (
    found_tables (get_member (array_name Array.Api) ms) h.1.1.1.0,
    (found_tables (get_member (array_name Array.Field) ms) h.1.1.1.1.0, (found_tables (get_member (array_name Array.Spell) ms) h.1.1.1.1.1.0, tt)),
  ),
)

-- rows whose tests pass are met
rows_met : (array : Array) (index : ℕ) (ms : Members) (rows : List Row) → AllByRecursion Passes (map (row_test array index ms) rows) → MeetsRows rows ms
rows_met array index ms [] h = tt
rows_met array index ms (r ∷ rows) h = (h.0, rows_met array index ms rows h.1)

-- entries whose tests pass meet their rows
entries_met : (array : Array) (n : ℕ) (ts : List Members) → AllByRecursion Passes (tests_from array n ts) → AllByRecursion (λ t. MeetsRows (rows_of array t) t) ts
entries_met array n [] h = tt
entries_met array n (t ∷ ts) h = (
  rows_met array n t (rows_of array t) (passed-front _ (map (unknown_test array n) (unknown_members (rows_of array t) t)) (passed-front (table_tests array n t) _ h)),
  entries_met array (n + 1) ts (passed-back (table_tests array n t) _ h),
)

-- where a document passes its tests, each array does
arrays_passed : (ms : Members) → AllByRecursion Passes (document_tests ms) → AllByRecursion (λ a. AllByRecursion Passes (array_tests ms a)) entry_arrays
arrays_passed ms h = joined_passed (array_tests ms) entry_arrays (passed-back (table_tests Array.Top 0 ms) _ h)

-- an array whose entries are read
abbrev pub HasEntries : Array → Type 0
HasEntries Array.Top = ⊥
HasEntries _ = Unit {0}

-- where a document passes its tests, the entries of each array meet their rows
pub document_met : (ms : Members) → AllByRecursion Passes (document_tests ms) → (array : Array) → HasEntries array → AllByRecursion (λ t. MeetsRows (rows_of array t) t) (tables_at (array_name array) ms)
document_met ms h Array.Top has = absurd has
document_met ms h Array.Gate has = entries_met Array.Gate 1 _ (arrays_passed ms h).0
document_met ms h Array.Api has = entries_met Array.Api 1 _ (arrays_passed ms h).1.0
document_met ms h Array.Field has = entries_met Array.Field 1 _ (arrays_passed ms h).1.1.0
document_met ms h Array.Spell has = entries_met Array.Spell 1 _ (arrays_passed ms h).1.1.1.0
