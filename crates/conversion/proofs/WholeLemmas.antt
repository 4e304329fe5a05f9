-- Members of a whole object.
use Rattle.std.proofs.Common.{◌≡◌, ◌≢◌, ℕ, false, List, [], ◌∷◌, Option, Some, None, IfSome, option_map, Ordering, Less, Equal, Greater, nat_cmp, refl, sym, ◌∙◌, ap, subst, arith}
use Rattle.std.specs.Cmp.Lexicographic.{slice_cmp}
use Rattle.std.specs.List.{slice_get}
use Rattle.std.specs.Ordering.{match_ordering}
use Rattle.fields.specs.Order.{Rises}
use Rattle.fields.specs.Table.{IsFree, IsLawfulRow, AreLawful, LeadsThrough}
use Rattle.fields.specs.declared.map.FieldPair.{FieldPair}
use Rattle.fields.specs.declared.table.FieldRow.{FieldRow}
use Rattle.fields.specs.declared.table.VersionTable.{VersionTable}
use Rattle.serde_json.specs.Data.{Data, string, object, Members, no_members, member, put}
use Rattle.serde_json.specs.Find.{get, get_member}
use Rattle.serde_json.specs.View.{view}
use Rattle.serde_json.specs.Written.{has_float, members_have_float}
use Rattle.serde_json.specs.declared.value.Value.{Value}
use Rattle.serde_json.proofs.Views.{get_member-put, get_member-put_other}
use Rattle.conversion.specs.Showing.{Shows, IsInOrder, names_of, LeadsToHeld}
use Rattle.conversion.proofs.MemberLemmas.{rises-put}
use Rattle.conversion.specs.Code.{with_some, named_members}
use Rattle.conversion.specs.Whole.{api_version, kind, metadata, IsWhole}

-- ---- names

kind_not_version : kind ≢ api_version
kind_not_version e = cc

metadata_not_version : metadata ≢ api_version
metadata_not_version e = cc

metadata_not_kind : metadata ≢ kind
metadata_not_kind e = cc

-- ---- one member that may be put in

with_some_here : (name : List ℕ) (own : Option Data) (ms : Members) → get_member name ms ≡ None → get_member name (with_some name own ms) ≡ own
with_some_here name None ms none = none
with_some_here name (Some json) ms none = get_member-put name json ms

with_some_other : (q name : List ℕ) (own : Option Data) (ms : Members) → q ≢ name → get_member q (with_some name own ms) ≡ get_member q ms
with_some_other q name None ms other = refl
with_some_other q name (Some json) ms other = get_member-put_other q name json ms other

rises-with_some : (name : List ℕ) (own : Option Data) (ms : Members) → Rises (names_of ms) → Rises (names_of (with_some name own ms))
rises-with_some name None ms up = up
rises-with_some name (Some json) ms up = rises-put name json ms up

-- ---- no floats

put_plain_at : (o : Ordering) (k l : List ℕ) (d e : Data) (ms : Members) → has_float d ≡ false → members_have_float (member l e ms) ≡ false → (members_have_float ms ≡ false → members_have_float (put k d ms) ≡ false)
    → members_have_float (match_ordering o (member k d (member l e ms)) (member l d ms) (member l e (put k d ms))) ≡ false
put_plain_at Less k l d e ms new old later = grind arith
put_plain_at Equal k l d e ms new old later = grind arith
put_plain_at Greater k l d e ms new old later = grind arith

put_plain : (k : List ℕ) (d : Data) (ms : Members) → has_float d ≡ false → members_have_float ms ≡ false → members_have_float (put k d ms) ≡ false
put_plain k d no_members new old = grind arith
put_plain k d (member l e ms) new old = put_plain_at (slice_cmp nat_cmp k l) k l d e ms new old (put_plain k d ms new)

with_some_plain : (name : List ℕ) (own : Option Data) (ms : Members) → IfSome own (λ json. has_float json ≡ false) → members_have_float ms ≡ false → members_have_float (with_some name own ms) ≡ false
with_some_plain name None ms new old = old
with_some_plain name (Some json) ms new old = put_plain name json ms new old

seen_plain : (own : Option Value) → IfSome own (λ v. has_float (view v) ≡ false) → IfSome (option_map view own) (λ json. has_float json ≡ false)
seen_plain None h = tt
seen_plain (Some v) h = h

pub named_plain : (table : VersionTable) (version : List ℕ) (own : Option Value) (ms : Members) → IfSome own (λ v. has_float (view v) ≡ false) → members_have_float ms ≡ false
    → members_have_float (named_members table version (option_map view own) ms) ≡ false
named_plain table version own ms whole old =
    with_some_plain metadata (option_map view own) (put kind (string table.kind) (put api_version (string version) ms)) (seen_plain own whole)
    (put_plain kind (string table.kind) (put api_version (string version) ms) refl (put_plain api_version (string version) ms refl old))

-- ---- no field stands at `metadata`

leads_off : (path : List (List ℕ)) → IfSome (slice_get path 0) IsFree → ¬ LeadsThrough path (metadata ∷ [])
leads_off path free through = absurd ((subst (λ p. IfSome (slice_get p 0) IsFree) through.1 free).not_metadata refl)

none_held : (rows : List FieldRow) (held : List FieldPair) → AreLawful rows → ¬ LeadsToHeld rows held (metadata ∷ [])
none_held rows held lawful way =
    let row = way.1 in
    let is : IsLawfulRow row = subst IsLawfulRow way.3 (lawful.each way.0 row way.2) in
    leads_off row.path is.path.1 way.4.1

none_at : (o : Option Data) → ((there : Data) → ¬ (o ≡ Some there)) → o ≡ None
none_at None h = refl
none_at (Some there) h = absurd (h there refl)

no_metadata : (rows : List FieldRow) (held : List FieldPair) (fields : Data) → AreLawful rows → Shows rows held fields → get metadata fields ≡ None
no_metadata rows held fields lawful shows =
    none_at (get metadata fields) (λ there found. none_held rows held lawful (shows.least (metadata ∷ []) there (λ e. cc) (there, found, refl)))

-- ---- the whole

-- members that are put in one after the other
pub put_in_turn : (table : VersionTable) (version : List ℕ) (own : Option Data) (name : List ℕ) (ms ns bs cs ds : Members) → ns ≡ ms → bs ≡ put api_version (string version) ns → name ≡ table.kind → cs ≡ put kind (string name) bs → ds ≡ with_some metadata own cs
    → ds ≡ named_members table version own ms
put_in_turn table version own name ms ns bs cs ds first second is third fourth = cc

in_order : (fields : Data) (ms : Members) → fields ≡ object ms → IsInOrder fields → Rises (names_of ms)
in_order fields ms is up = (subst IsInOrder is up).0

pub whole_is : (table : VersionTable) (version : List ℕ) (held : List FieldPair) (own : Option Data) (fields : Data) (ms : Members) → AreLawful table.rows → Shows table.rows held fields → fields ≡ object ms
    → IsWhole table version held own (object (named_members table version own ms))
whole_is table version held own fields ms lawful shows is =
    let ks = put api_version (string version) ms in
    let ns = put kind (string table.kind) ks in
    let none : get_member metadata ms ≡ None = ap (get metadata) (sym is) ∙ no_metadata table.rows held fields lawful shows in
    record {
      fields = fields;
      shows = shows;
      versioned = with_some_other api_version metadata own ns (λ e. metadata_not_version (sym e)) ∙ get_member-put_other api_version kind (string table.kind) ks (λ e. kind_not_version (sym e)) ∙ get_member-put api_version (string version) ms;
      of_kind = with_some_other kind metadata own ns (λ e. metadata_not_kind (sym e)) ∙ get_member-put kind (string table.kind) ks;
      described = with_some_here metadata own ns (get_member-put_other metadata kind (string table.kind) ks metadata_not_kind ∙ get_member-put_other metadata api_version (string version) ms metadata_not_version ∙ none);
      others = λ name not_version not_kind not_metadata. with_some_other name metadata own ns not_metadata ∙ get_member-put_other name kind (string table.kind) ks not_kind ∙ get_member-put_other name api_version (string version) ms not_version ∙ ap (get name) (sym is);
      members = named_members table version own ms;
      object = refl;
      order = rises-with_some metadata own ns (rises-put kind (string table.kind) ks (rises-put api_version (string version) ms (in_order fields ms is shows.order)));
    }
