-- A tree has one first fault, and conversion goes there and back.
use Rattle.std.proofs.Common.{◌≡◌, ◌≢◌, inl, inr, ℕ, List, [], ◌∷◌, ◌++◌, map, Option, IfSome, refl, sym, ◌∙◌, ap, subst}
use Rattle.std.specs.List.{AllByRecursion}
use Rattle.std.proofs.lemmas.List.Elements.{recursion_from_All, All-from_recursion}
use Rattle.fields.specs.Fits.{Fits, AreOfSameFields}
use Rattle.fields.specs.Map.{value_at}
use Rattle.fields.specs.Table.{IsValueOf, AreLawful}
use Rattle.fields.specs.declared.value.FieldType.{FieldType}
use Rattle.fields.specs.declared.map.FieldPair.{FieldPair}
use Rattle.fields.specs.declared.table.FieldRow.{FieldRow}
use Rattle.fields.specs.declared.value.FieldValue.{FieldValue}
use Rattle.serde_json.specs.Data.{Data}
use Rattle.conversion.specs.Trees.{Names, Stands, IsBlocked}
use Rattle.basis.proofs.FirstLemmas.{first_is_one}
use Rattle.conversion.specs.Reading.{IsFault, MeetsCase}
use Rattle.conversion.specs.Showing.{Shows}
use Rattle.conversion.specs.Laws.{HasOneFault, GoesThereAndBack}
use Rattle.conversion.specs.declared.mode.Mode.{Mode}
use Rattle.conversion.specs.declared.mode.Mode.TheVariants.{Stored}
use Rattle.conversion.specs.declared.fault.ReadCause.{ReadCause}
use Rattle.conversion.proofs.TreeLemmas.{parted, blocked_or_empty, blocked_stands, no_last}
use Rattle.conversion.proofs.ReadLemmas.{fault_refutes, reads_as_one}
use Rattle.conversion.proofs.RoundLemmas.{reads_back}
use Rattle.conversion.proofs.SameLemmas.{shows_as_one}

-- ---- one fault

one_block : (tree : Data) (path upto other : Names) → IsBlocked tree path upto → IsBlocked tree path other → upto ≡ other
one_block tree path upto other h k = elim (parted upto h.rest other k.rest (sym h.parts ∙ k.parts)) [
  | inl r ↦
      let none : r.0 ≡ [] = blocked_or_empty tree upto r.0 h.there k.there h.stands h.not_object (subst (λ p. Stands tree p k.there) r.1 k.stands) in
      sym (r.1 ∙ ap (λ x. upto ++ x) none ∙ no_last upto)
  | inr r ↦
      let none : r.0 ∷ r.1 ≡ [] = blocked_or_empty tree other (r.0 ∷ r.1) k.there h.there k.stands k.not_object (subst (λ p. Stands tree p h.there) r.2 h.stands) in
      absurd cc
]

fault_at_row : (tree : Data) (row : FieldRow) (path other : Names) (cause why : ReadCause) → IsFault tree row path cause → IsFault tree row other why → (path ≡ other) × (cause ≡ why)
fault_at_row tree row path other cause why (inl h) (inl k) = (one_block tree row.path path other h.0 k.0, h.1 ∙ sym k.1)
fault_at_row tree row path other cause why (inl h) (inr k) = absurd (blocked_stands tree row.path path k.0.json h.0 k.0.stands)
fault_at_row tree row path other cause why (inr h) (inl k) = absurd (blocked_stands tree row.path other h.0.json k.0 h.0.stands)
fault_at_row tree row path other cause why (inr h) (inr k) = (h.1 ∙ sym k.1, h.2 ∙ sym k.2)

pub one_fault : (mode : Mode) (rows : List FieldRow) (tree : Data) → HasOneFault mode rows tree
one_fault mode rows tree path other cause why h k =
    let apart = λ (p : Names) (c : ReadCause) (r : FieldRow) (faulty : IsFault tree r p c) (fine : MeetsCase mode tree r). fault_refutes mode tree r p c fine.0 faulty fine.1 in
    let same : h.0 ≡ k.0 = first_is_one (MeetsCase mode tree) (λ r. IsFault tree r path cause) (λ r. IsFault tree r other why) rows h.0 k.0 (apart path cause) (apart other why) h.1 k.1 in
    fault_at_row tree h.0 path other cause why h.1.faulty (subst (λ r. IsFault tree r other why) (sym same) k.1.faulty)

-- ---- two versions of the same fields

-- the id and the type of a row's field
record Kind : Type 0 where
  pub id : List ℕ
  pub ty : FieldType

abbrev kind_of : FieldRow → Kind
kind_of row = record { id = row.id; ty = row.ty }

kinds_at : (rows others : List FieldRow) → map (λ r. r.id) rows ≡ map (λ r. r.id) others → map (λ r. r.ty) rows ≡ map (λ r. r.ty) others → map kind_of rows ≡ map kind_of others
kinds_at [] [] ids types = refl
kinds_at [] (o ∷ others) ids types = absurd cc
kinds_at (r ∷ rows) [] ids types = absurd cc
kinds_at (r ∷ rows) (o ∷ others) ids types =
    let id : r.id ≡ o.id = cc in
    let ty : r.ty ≡ o.ty = cc in
    let head : kind_of r ≡ kind_of o = λ i. record { id = id i; ty = ty i } in
    let more_ids : map (λ q. q.id) rows ≡ map (λ q. q.id) others = cc in
    let more_types : map (λ q. q.ty) rows ≡ map (λ q. q.ty) others = cc in
    let tail : map kind_of rows ≡ map kind_of others = kinds_at rows others more_ids more_types in
    λ i. head i ∷ tail i

abbrev HasType : List FieldPair → Kind → Type 0
HasType held k = IfSome (value_at held k.id) (IsValueOf k.ty)

same_types : (held : List FieldPair) (rows others : List FieldRow) → map kind_of rows ≡ map kind_of others → AllByRecursion (λ r. HasType held (kind_of r)) rows → AllByRecursion (λ r. HasType held (kind_of r)) others
same_types held [] [] same h = tt
same_types held [] (o ∷ others) same h = absurd cc
same_types held (r ∷ rows) [] same h = absurd cc
same_types held (r ∷ rows) (o ∷ others) same h =
    let first : kind_of r ≡ kind_of o = cc in
    let rest : map kind_of rows ≡ map kind_of others = cc in
    (subst (HasType held) first h.0, same_types held rows others rest h.1)

same_ids : (id : List ℕ) (rows others : List FieldRow) → map kind_of rows ≡ map kind_of others → AllByRecursion (λ r. r.id ≢ id) others → AllByRecursion (λ r. r.id ≢ id) rows
same_ids id [] others same h = tt
same_ids id (r ∷ rows) [] same h = absurd cc
same_ids id (r ∷ rows) (o ∷ others) same h =
    let first : kind_of r ≡ kind_of o = cc in
    let rest : map kind_of rows ≡ map kind_of others = cc in
    (λ e. h.0 (sym (ap (λ (k : Kind). k.id) first) ∙ e), same_ids id rows others rest h.1)

pub fits_alike : (rows others : List FieldRow) (held : List FieldPair) → AreOfSameFields rows others → Fits rows held → Fits others held
fits_alike rows others held same h =
    let kinds = kinds_at rows others same.ids same.types in
    record {
      map = h.map;
      each = All-from_recursion (λ r. HasType held (kind_of r)) others (same_types held rows others kinds (recursion_from_All (λ r. HasType held (kind_of r)) rows h.each));
      only = λ id none. h.only id (All-from_recursion (λ (r : FieldRow). r.id ≢ id) rows (same_ids id rows others kinds (recursion_from_All (λ (r : FieldRow). r.id ≢ id) others none)));
    }

pub goes_back : (rows others : List FieldRow) (held : List FieldPair) → AreLawful rows → AreLawful others → Fits rows held → AreOfSameFields rows others → GoesThereAndBack rows others held
goes_back rows others held lawful other_lawful fits same here there back read again shown is_read shown_there read_there shown_back =
    let first : read ≡ held = reads_as_one Stored rows here read held is_read (reads_back rows held here lawful fits shown) in
    let second : again ≡ held = reads_as_one Stored others there again held read_there (reads_back others held there other_lawful (fits_alike rows others held same fits) (subst (λ m. Shows others m there) first shown_there)) in
    (second, shows_as_one rows held back here (subst (λ m. Shows rows m back) second shown_back) shown)
