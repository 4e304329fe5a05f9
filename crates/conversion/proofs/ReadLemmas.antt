-- A tree reads as at most one map, and one that is read has no fault.
use Rattle.std.proofs.Common.{◌≡◌, ◌≢◌, inl, inr, ℕ, suc, ◌<◌, Bool, true, false, cond, List, [], ◌∷◌, ◌++◌, length, get_or, take, map, Option, Some, None, IfSome, All, nat_cmp, arith, refl, sym, ◌∙◌, ap, subst, bytes_eq}
use Rattle.std.specs.List.{AllByRecursion}
use Rattle.std.specs.Cmp.Lexicographic.{slice_cmp}
use Rattle.std.proofs.lemmas.List.{length-take-le, get_or-take, get_or-map}
use Rattle.std.proofs.lemmas.List.Elements.{recursion_from_All, All-from_recursion, All-push}
use Rattle.std.proofs.lemmas.Map.Keys.{Less-from_sorted}
use Rattle.std.proofs.lemmas.Slice.Eq.{bytes_eq-Decides}
use Rattle.basis.proofs.FirstLemmas.{first_at, first_refutes}
use Rattle.fields.specs.Map.{IsMap, value_at}
use Rattle.fields.specs.declared.map.FieldPair.{FieldPair}
use Rattle.fields.specs.declared.table.FieldRow.{FieldRow}
use Rattle.fields.specs.declared.value.FieldValue.{FieldValue}
use Rattle.fields.specs.Table.{IsValueOf, IdsRise, IsDefaultOf, IsLawfulRow, AreLawful}
use Rattle.fields.proofs.MapLemmas.{one_list, no_pairs, below_differs}
use Rattle.serde_json.specs.Data.{Data}
use Rattle.conversion.specs.Trees.{Names, IsAbsent}
use Rattle.conversion.specs.Writing.{Spells}
use Rattle.conversion.specs.Reading.{default_in, IsHeld, IsRead, Reads, IsFault, IsReadFault, MeetsCase}
use Rattle.fields.specs.Fits.{Fits}
use Rattle.conversion.specs.Code.{IsFaultOf, IsRowTaken}
use Rattle.conversion.specs.declared.mode.Mode.TheVariants.{Body, Stored}
use Rattle.conversion.specs.declared.fault.ReadFault.{ReadFault}
use Rattle.conversion.specs.declared.fault.ReadFault.TheVariants.{Bad, Memory}
use Rattle.conversion.specs.Laws.{ReadsAsOne, IsFaultlessWhereRead}
use Rattle.conversion.specs.declared.mode.Mode.{Mode}
use Rattle.conversion.specs.declared.fault.ReadCause.{ReadCause}
use Rattle.conversion.proofs.TreeLemmas.{stands_one, absent_or_null, blocked_stands, blocked_absent}
use Rattle.conversion.proofs.WritingLemmas.{leaf_written, leaf_not_null, one_spelled, value_written}

-- ---- one row

held_not_absent : (tree : Data) (row : FieldRow) (v : FieldValue) → IsHeld tree row v → IsAbsent tree row.path → ⊥
held_not_absent tree row v h k = leaf_not_null h.json (leaf_written row.form v h.json h.spelled.written) (absent_or_null tree row.path h.json h.stands k)

one_held : (tree : Data) (row : FieldRow) (v w : FieldValue) → IsHeld tree row v → IsHeld tree row w → v ≡ w
one_held tree row v w h k =
    let same : k.json ≡ h.json = stands_one tree row.path k.json h.json k.stands h.stands in
    one_spelled row v w h.json h.spelled (subst (Spells row w) same k.spelled)

one_read : (mode : Mode) (tree : Data) (row : FieldRow) (r s : Option FieldValue) → IsRead mode tree row r → IsRead mode tree row s → r ≡ s
one_read mode tree row r s (inl h) (inl k) = h.1 ∙ ap Some (one_held tree row h.0 k.0 h.2 k.2) ∙ sym k.1
one_read mode tree row r s (inl h) (inr k) = absurd (held_not_absent tree row h.0 h.2 k.0)
one_read mode tree row r s (inr h) (inl k) = absurd (held_not_absent tree row k.0 k.2 h.0)
one_read mode tree row r s (inr h) (inr k) = h.1 ∙ sym k.1

pub fault_refutes : (mode : Mode) (tree : Data) (row : FieldRow) (path : Names) (cause : ReadCause) (r : Option FieldValue) → IsFault tree row path cause → IsRead mode tree row r → ⊥
fault_refutes mode tree row path cause r (inl h) (inl k) = blocked_stands tree row.path path k.2.json h.0 k.2.stands
fault_refutes mode tree row path cause r (inl h) (inr k) = blocked_absent tree row.path path h.0 k.0
fault_refutes mode tree row path cause r (inr h) (inl k) =
    let same : k.2.json ≡ h.0.json = stands_one tree row.path k.2.json h.0.json k.2.stands h.0.stands in
    h.0.not_spelled k.0 (subst (Spells row k.0) same k.2.spelled)
fault_refutes mode tree row path cause r (inr h) (inr k) = h.0.not_null (absent_or_null tree row.path h.0.json h.0.stands k.0)

-- ---- all rows

same_at : (mode : Mode) (tree : Data) (held other : List FieldPair) (id : List ℕ) (rows : List FieldRow) → AllByRecursion (λ row. IsRead mode tree row (value_at held row.id)) rows
    → AllByRecursion (λ row. IsRead mode tree row (value_at other row.id)) rows → (AllByRecursion (λ row. row.id ≢ id) rows → value_at held id ≡ value_at other id) → value_at held id ≡ value_at other id
same_at mode tree held other id [] h k none = none tt
same_at mode tree held other id (row ∷ rows) h k none = by (bytes_eq row.id id) refl (same_at mode tree held other id rows h.1 k.1)
  where
    by : (b : Bool) → bytes_eq row.id id ≡ b → ((AllByRecursion (λ r. r.id ≢ id) rows → value_at held id ≡ value_at other id) → value_at held id ≡ value_at other id) → value_at held id ≡ value_at other id
    by true e more = subst (λ i. value_at held i ≡ value_at other i) ((bytes_eq-Decides row.id id).0 e) (one_read mode tree row (value_at held row.id) (value_at other row.id) h.0 k.0)
    by false e more = more (λ rest. none ((λ same. let t = (bytes_eq-Decides row.id id).1 same in cc), rest))

pub reads_as_one : (mode : Mode) (rows : List FieldRow) (tree : Data) → ReadsAsOne mode rows tree
reads_as_one mode rows tree held other h k =
    one_list held other h.map k.map (λ id. same_at mode tree held other id rows (recursion_from_All (λ row. IsRead mode tree row (value_at held row.id)) rows h.each) (recursion_from_All (λ row. IsRead mode tree row (value_at other row.id)) rows k.each)
    (λ none. let all = All-from_recursion (λ (row : FieldRow). row.id ≢ id) rows none in h.only id all ∙ sym (k.only id all)))

at_middle : {X : Type 0} (P : X → Type 0) (before : List X) (x : X) (after : List X) → AllByRecursion P (before ++ x ∷ after) → P x
at_middle P [] x after h = h.0
at_middle P (y ∷ before) x after h = at_middle P before x after h.1

fine_rows : (mode : Mode) (tree : Data) (held : List FieldPair) (rows : List FieldRow) → All (λ r. IsRead mode tree r (value_at held r.id)) rows → All (MeetsCase mode tree) rows
fine_rows mode tree held rows h k d below = (value_at held (get_or rows k d).id, h k d below)

pub faultless : (mode : Mode) (rows : List FieldRow) (tree : Data) → IsFaultlessWhereRead mode rows tree
faultless mode rows tree held path cause h k =
    first_refutes (MeetsCase mode tree) (λ r. IsFault tree r path cause) rows k.0 (λ faulty fine. fault_refutes mode tree k.0 path cause fine.0 faulty fine.1) k.1 (fine_rows mode tree held rows h.each)

-- ---- one more row

all_front : {X : Type 0} (P : X → Type 0) (xs ys : List X) → AllByRecursion P (xs ++ ys) → AllByRecursion P xs
all_front P [] ys h = tt
all_front P (x ∷ xs) ys h = (h.0, all_front P xs ys h.1)

taken_here : (o : Option FieldValue) (id : List ℕ) (old new : List FieldPair) → value_at old id ≡ None → IsRowTaken id o old new → value_at new id ≡ o
taken_here None id old new none h = subst (λ ps. value_at ps id ≡ None) (sym h) none
taken_here (Some v) id old new none h = h.here

taken_others : (o : Option FieldValue) (id : List ℕ) (old new : List FieldPair) (other : List ℕ) → other ≢ id → IsRowTaken id o old new → value_at new other ≡ value_at old other
taken_others None id old new other apart h = ap (λ ps. value_at ps other) h
taken_others (Some v) id old new other apart h = h.others other apart

each_kept : (mode : Mode) (tree : Data) (old new : List FieldPair) (id : List ℕ) (rows : List FieldRow) → ((other : List ℕ) → other ≢ id → value_at new other ≡ value_at old other) → All (λ r. r.id ≢ id) rows
    → All (λ r. IsRead mode tree r (value_at old r.id)) rows → All (λ r. IsRead mode tree r (value_at new r.id)) rows
each_kept mode tree old new id rows same apart h k d below =
    subst (IsRead mode tree (get_or rows k d)) (sym (same (get_or rows k d).id (apart k d below))) (h k d below)

pub reads_more : (mode : Mode) (rows : List FieldRow) (tree : Data) (old new : List FieldPair) (row : FieldRow) (o : Option FieldValue) → Reads mode rows tree old → All (λ r. r.id ≢ row.id) rows → IsMap new → IsRead mode tree row o
    → IsRowTaken row.id o old new → Reads mode (rows ++ row ∷ []) tree new
reads_more mode rows tree old new row o h apart up is taken = record {
  map = up;
  each = All-push (λ r. IsRead mode tree r (value_at new r.id)) rows row (each_kept mode tree old new row.id rows (λ other not_row. taken_others o row.id old new other not_row taken) apart h.each)
      (subst (IsRead mode tree row) (sym (taken_here o row.id old new (h.only row.id apart) taken)) is);
  only = λ id none.
      let all = recursion_from_All (λ (r : FieldRow). r.id ≢ id) (rows ++ row ∷ []) none in
      let front : All (λ (r : FieldRow). r.id ≢ id) rows = All-from_recursion (λ (r : FieldRow). r.id ≢ id) rows (all_front (λ r. r.id ≢ id) rows (row ∷ []) all) in
      let not_row : row.id ≢ id = at_middle (λ r. r.id ≢ id) rows row [] all in
      taken_others o row.id old new id (λ e. not_row (sym e)) taken ∙ h.only id front;
}

pub reads_none : (mode : Mode) (tree : Data) (held : List FieldPair) → held ≡ [] → Reads mode [] tree held
reads_none mode tree held is = subst (Reads mode [] tree) (sym is) (record { map = no_pairs; each = λ k d below. absurd (omega arith); only = λ id none. refl })

ids_length : (rows : List FieldRow) → length (map (λ (r : FieldRow). r.id) rows) ≡ length rows
ids_length [] = refl
ids_length (r ∷ rows) = ap suc (ids_length rows)

-- the rows before one have other ids
pub ids_apart : (rows : List FieldRow) (i : ℕ) (row : FieldRow) → IdsRise rows → i < length rows → row ≡ get_or rows i row → All (λ r. r.id ≢ row.id) (take i rows)
ids_apart rows i row rise below is k d inside same =
    let size : length (take i rows) ≡ i = length-take-le i rows (omega arith) in
    let lt : k < i = omega arith in
    let many = ids_length rows in
    let less = Less-from_sorted (slice_cmp nat_cmp) (map (λ (r : FieldRow). r.id) rows) k i d.id rise lt (omega arith) in
    let at_k : get_or (map (λ (r : FieldRow). r.id) rows) k d.id ≡ (get_or (take i rows) k d).id = get_or-map (λ (r : FieldRow). r.id) rows k d d.id (omega arith) ∙ ap (λ (r : FieldRow). r.id) (sym (get_or-take i rows k d lt)) in
    let at_i : get_or (map (λ (r : FieldRow). r.id) rows) i d.id ≡ row.id = get_or-map (λ (r : FieldRow). r.id) rows i row d.id below ∙ ap (λ (r : FieldRow). r.id) (sym is) in
    below_differs (get_or (map (λ (r : FieldRow). r.id) rows) k d.id) (get_or (map (λ (r : FieldRow). r.id) rows) i d.id) less (at_k ∙ same ∙ sym at_i)

-- ---- the first fault

pub first_fault : (mode : Mode) (rows : List FieldRow) (tree : Data) (held : List FieldPair) (i : ℕ) (row : FieldRow) (fault : ReadFault) → Reads mode (take i rows) tree held → i < length rows → row ≡ get_or rows i row
    → IsFaultOf tree row fault → IsReadFault mode rows tree fault
first_fault mode rows tree held i row (Bad path cause) h below is faulty =
    (row, first_at (MeetsCase mode tree) (λ r. IsFault tree r path cause) rows i row below is (fine_rows mode tree held (take i rows) h.each) faulty)
first_fault mode rows tree held i row Memory h below is faulty = tt

-- ---- what is read fits the rows

default_fits : (mode : Mode) (row : FieldRow) → IsLawfulRow row → IfSome (default_in mode row) (IsValueOf row.ty)
default_fits Stored row lawful = tt
default_fits Body row lawful = by row.on row.default lawful.default
  where
    by : (on : Bool) (o : Option FieldValue) → IfSome o (IsDefaultOf row.ty) → IfSome (cond on o None) (IsValueOf row.ty)
    by true None h = tt
    by true (Some v) h = record { typed = h.typed; whole = h.whole }
    by false o h = tt

held_fits : (tree : Data) (row : FieldRow) (v : FieldValue) → IsHeld tree row v → IsValueOf row.ty v
held_fits tree row v h = record { typed = h.spelled.typed; whole = value_written row.form v h.json h.spelled.written }

row_fits : (mode : Mode) (tree : Data) (row : FieldRow) (o : Option FieldValue) → IsLawfulRow row → IsRead mode tree row o → IfSome o (IsValueOf row.ty)
row_fits mode tree row o lawful (inl h) = subst (λ p. IfSome p (IsValueOf row.ty)) (sym h.1) (held_fits tree row h.0 h.2)
row_fits mode tree row o lawful (inr h) = subst (λ p. IfSome p (IsValueOf row.ty)) (sym h.1) (default_fits mode row lawful)

pub read_fits : (mode : Mode) (rows : List FieldRow) (tree : Data) (held : List FieldPair) → AreLawful rows → Reads mode rows tree held → Fits rows held
read_fits mode rows tree held lawful h = record {
  map = h.map;
  each = λ k d below. row_fits mode tree (get_or rows k d) (value_at held (get_or rows k d).id) (lawful.each k d below) (h.each k d below);
  only = h.only;
}
