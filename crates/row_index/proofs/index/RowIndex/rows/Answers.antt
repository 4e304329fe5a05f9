use Rattle.std.proofs.Common.{List, [], true, sym, ap, subst, ◌∙◌}
use Rattle.std.specs.BTreeMap.{values}
use Rattle.fields.specs.declared.field.Field.{Field}
use Rattle.fields.specs.declared.field.Spell.{Spell}
use Rattle.gate_flags.specs.Values.{HasValue}
use Rattle.lifecycle.specs.Entry.{named}
use Rattle.listing.specs.Listing.{lent, lent_in}
use Rattle.schemas.specs.Cutoff.{fields_by, spells_by}
use Rattle.schemas.specs.Rows.{AreRows}
use Rattle.row_index.specs.Made.{rows_in, AreApartById, HoldsById}
use Rattle.row_index.specs.Source.{RowSource}
use Rattle.row_index.proofs.RowLemmas.{apart_by_id, rise_by_id, no_fields, no_spells, rows_are, listed_is, on_value}
use Rattle.row_index.proofs.index.RowIndex.rows.Goals as goal

pub returns-in_default : goal.returns-in_default
returns-in_default c =
    let empty = sym (ap lent_in c.in_default.is) ∙ c.listed.ensures ∙ c.self.invariant.fields_by_resource c.args.name.group.now c.args.name.resource.now [] in
    subst (λ (s : RowSource). AreRows (λ gate. HasValue s.gates gate true) s.fields s.spells (named c.args.name) c.new.result) c.self.view_is
    (no_fields (fields_by c.self.inside.fields.now c.self.inside.e) (spells_by c.self.inside.spells.now c.self.inside.e) (named c.args.name) c.self.inside.gates.now c.new.result empty c.new.ensures)

pub returns-in_default-listed : goal.returns-in_default-listed
returns-in_default-listed c =
    let empty = sym (ap lent_in c.in_default-listed.is) ∙ c.listed-2.ensures ∙ c.self.invariant.spells_by_version c.args.name.group.now c.args.name.version.now c.args.name.resource.now in
    subst (λ (s : RowSource). AreRows (λ gate. HasValue s.gates gate true) s.fields s.spells (named c.args.name) c.new-in_default-listed.result) c.self.view_is
    (no_spells (fields_by c.self.inside.fields.now c.self.inside.e) (spells_by c.self.inside.spells.now c.self.inside.e) (named c.args.name) c.self.inside.gates.now c.new-in_default-listed.result empty c.new-in_default-listed.ensures)

pub by_id-requires : goal.by_id-requires
by_id-requires c =
    let fields = fields_by c.self.inside.fields.now c.self.inside.e in
    let spells = spells_by c.self.inside.spells.now c.self.inside.e in
    let here = listed_is c.listed.result c.in-Some.fields c.deref.result.now _ c.in-Some.is c.deref.ensures.value (c.listed.ensures ∙ c.self.invariant.fields_by_resource c.args.name.group.now c.args.name.resource.now []) in
    subst AreApartById (sym here) (apart_by_id fields spells (named c.args.name) c.self.invariant.fields_once)

pub rows_in-requires : goal.rows_in-requires
rows_in-requires c = rise_by_id (lent c.deref.result.now) c.in_ok-fields.fields c.in_ok-fields.ensures

pub returns : goal.returns
returns c =
    let fields = fields_by c.self.inside.fields.now c.self.inside.e in
    let spells = spells_by c.self.inside.spells.now c.self.inside.e in
    let found_fields = listed_is c.listed.result c.in-Some.fields c.deref.result.now _ c.in-Some.is c.deref.ensures.value (c.listed.ensures ∙ c.self.invariant.fields_by_resource c.args.name.group.now c.args.name.resource.now []) in
    let found_spells = listed_is c.listed-2.result c.in-Some-listed.spells c.deref-2.result.now _ c.in-Some-listed.is c.deref-2.ensures.value (c.listed-2.ensures ∙ c.self.invariant.spells_by_version c.args.name.group.now c.args.name.version.now c.args.name.resource.now) in
    let held = subst (λ (l : List Field). HoldsById l c.in_ok-fields.fields) found_fields c.in_ok-fields.ensures in
    on_value c.rows_in.result _ _ (λ rows is.
    subst (λ (s : RowSource). AreRows (λ gate. HasValue s.gates gate true) s.fields s.spells (named c.args.name) rows) c.self.view_is
    (rows_are fields spells (named c.args.name) c.self.inside.gates.now c.in_ok-fields.fields held c.self.invariant.spells_once rows (is ∙ ap (λ (l : List Spell). rows_in c.self.inside.gates.now l (values c.in_ok-fields.fields)) found_spells)))
    c.rows_in.ensures
