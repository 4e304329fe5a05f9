-- The fields that a body gives are one map, and fit its rows; and misfits and missing rows are one.
use Rattle.std.proofs.Common.{◌≡◌, ◌↔◌, Bool, true, false, List, Option, Some, None, IfSome, get_or, refl, sym, ◌∙◌, subst}
use Rattle.std.specs.Prelude.{IsSome, IsTrue}
use Rattle.basis.proofs.FirstLemmas.{first_is_one, first_refutes}
use Rattle.conversion.specs.declared.mode.Mode.TheVariants.{Body}
use Rattle.conversion.proofs.ReadLemmas.{reads_as_one, faultless, read_fits}
use Rattle.field_drop.specs.Dropping.{AreKept}
use Rattle.fields.specs.Fits.{Fits}
use Rattle.fields.specs.Map.{value_at}
use Rattle.fields.specs.Table.{IsValueOf, AreLawful}
use Rattle.fields.specs.declared.map.FieldPair.{FieldPair}
use Rattle.fields.specs.declared.table.FieldRow.{FieldRow}
use Rattle.fields.specs.declared.value.FieldValue.{FieldValue}
use Rattle.fields.proofs.MapLemmas.{one_list}
use Rattle.http_front.specs.declared.request.Verb.{Verb}
use Rattle.request_body.specs.Laws.{GivesOnce, GivesFitting, IsFaultlessWhereGiven, MissesOnce, HasOneMisfit, HasNoMisfitWhereAllFit}
use Rattle.request_body.specs.Members.{FitsMember, members_of}
use Rattle.request_body.specs.Places.{Place}
use Rattle.request_body.specs.Writes.{IsProvided, IsMissing}
use Rattle.serde_json.specs.Data.{Data}

-- ---- what is kept

same_option : {X : Type 0} (o p : Option X) → ((x : X) → (o ≡ Some x) ↔ (p ≡ Some x)) → o ≡ p
same_option None None h = refl
same_option None (Some y) h = (h y).1 refl
same_option (Some x) p h = sym ((h x).0 refl)

kept_once : (rows : List FieldRow) (stored : Option (List FieldPair)) (read kept other : List FieldPair) → AreKept rows stored read kept → AreKept rows stored read other → kept ≡ other
kept_once rows stored read kept other h k =
    one_list kept other h.map k.map (λ id. same_option (value_at kept id) (value_at other id) (λ value. (λ is. (k.exact id value).1 ((h.exact id value).0 is), λ is. (h.exact id value).1 ((k.exact id value).0 is))))

-- what is kept is in the map that was read
kept_fits_at : (P : FieldValue → Type 0) (kept read : Option FieldValue) → ((v : FieldValue) → kept ≡ Some v → read ≡ Some v) → IfSome read P → IfSome kept P
kept_fits_at P None read h fits = tt
kept_fits_at P (Some v) read h fits = subst (λ o. IfSome o P) (h v refl) fits

kept_none : (kept read : Option FieldValue) → ((v : FieldValue) → kept ≡ Some v → read ≡ Some v) → read ≡ None → kept ≡ None
kept_none None read h none = refl
kept_none (Some v) read h none = absurd (let some = h v refl in let both : Some v ≡ None = sym some ∙ none in cc)

pub kept_fits : (rows : List FieldRow) (stored : Option (List FieldPair)) (read kept : List FieldPair) → Fits rows read → AreKept rows stored read kept → Fits rows kept
kept_fits rows stored read kept fits h = record {
  map = h.map;
  each = λ k d below.
      let row = get_or rows k d in
      kept_fits_at (IsValueOf row.ty) (value_at kept row.id) (value_at read row.id) (λ v is. ((h.exact row.id v).0 is).0) (fits.each k d below);
  only = λ id none. kept_none (value_at kept id) (value_at read id) (λ v is. ((h.exact id v).0 is).0) (fits.only id none);
}

-- ---- what is given

pub gives_once : (rows : List FieldRow) (tree : Data) (stored : Option (List FieldPair)) → GivesOnce rows tree stored
gives_once rows tree stored fields other h k =
    let same = reads_as_one Body rows tree h.read k.read h.reads k.reads in
    kept_once rows stored k.read fields other (subst (λ read. AreKept rows stored read fields) same h.kept) k.kept

pub gives_fitting : (rows : List FieldRow) (tree : Data) (stored : Option (List FieldPair)) → AreLawful rows → GivesFitting rows tree stored
gives_fitting rows tree stored lawful fields h = kept_fits rows stored h.read fields (read_fits Body rows tree h.read lawful h.reads) h.kept

pub faultless_given : (rows : List FieldRow) (tree : Data) (stored : Option (List FieldPair)) → IsFaultlessWhereGiven rows tree stored
faultless_given rows tree stored fields path cause h = faultless Body rows tree h.read path cause h.reads

-- ---- what is missing

no_some : (o : Option FieldValue) → o ≡ None → IsSome o → ⊥
no_some None h k = cc
no_some (Some v) h k = cc

not_provided : (fields : List FieldPair) (row : FieldRow) → IsMissing fields row → IsProvided fields row → ⊥
not_provided fields row h k = no_some (value_at fields row.id) h.1 (k h.0)

-- a row that isn't missing is provided
is_there : (o : Option FieldValue) (P : Type 0) (b : Bool) → (P × (o ≡ None) → IsTrue b) → b ≡ false → P → IsSome o
is_there None P b h unset p = absurd (let t = h (p, refl) in let both : true ≡ false = sym t ∙ unset in cc)
is_there (Some v) P b h unset p = refl

pub provided : (fields : List FieldPair) (row : FieldRow) (b : Bool) → IsTrue b ↔ IsMissing fields row → b ≡ false → IsProvided fields row
provided fields row b h unset = is_there (value_at fields row.id) (row.required ≡ true) b h.1 unset

pub misses_once : (rows : List FieldRow) (fields : List FieldPair) → MissesOnce rows fields
misses_once rows fields row other h k =
    first_is_one (IsProvided fields) (IsMissing fields) (IsMissing fields) rows row other (not_provided fields) (not_provided fields) h k

-- ---- misfits

pub one_misfit : (verb : Verb) (place : Place) (tree : Data) → HasOneMisfit verb place tree
one_misfit verb place tree member other h k =
    first_is_one (FitsMember place tree) (λ x. ¬ FitsMember place tree x) (λ x. ¬ FitsMember place tree x) (members_of verb) member other (λ x misfit fits. misfit fits) (λ x misfit fits. misfit fits) h k

pub no_misfit : (verb : Verb) (place : Place) (tree : Data) → HasNoMisfitWhereAllFit verb place tree
no_misfit verb place tree member all h =
    first_refutes (FitsMember place tree) (λ x. ¬ FitsMember place tree x) (members_of verb) member (λ misfit fits. misfit fits) h all
