-- The table of an entry passes its tests, and is the entry.
use Rattle.std.proofs.Common.{◌≡◌, ℕ, Bool, true, false, List, Option, Some, None, refl, sym, ap, subst, inl, inr}
use Rattle.std.specs.List.{AllByRecursion}
use Rattle.toml.specs.Data.{Members}
use Rattle.toml.specs.Tables.{along_dots, at_key}
use Rattle.toml_writer.specs.Text.{key_text}
use Rattle.fields.specs.Table.{IsPath}
use Rattle.fields.specs.declared.field.Field.{Field}
use Rattle.fields.specs.declared.field.Form.{Form}
use Rattle.fields.specs.declared.field.Form.TheVariants.{Same, Not, Decimal}
use Rattle.fields.specs.declared.field.Spell.{Spell}
use Rattle.fields.specs.declared.value.FieldValue.{FieldValue}
use Rattle.fields.specs.declared.value.FieldValue.TheVariants as value
use Rattle.gate_spec.specs.declared.entry.GateChange.{GateChange}
use Rattle.gate_spec.specs.declared.entry.GateChange.TheVariants.{Spec, Gone}
use Rattle.gate_spec.specs.declared.entry.GateEntry.{GateEntry}
use Rattle.lifecycle.specs.declared.entry.ApiChange.{ApiChange}
use Rattle.lifecycle.specs.declared.entry.ApiChange.TheVariants as api
use Rattle.lifecycle.specs.declared.entry.ApiEntry.{ApiEntry}
use Rattle.schemas.specs.Shapes.{IsShapedGate, IsShapedApi, IsShapedField, IsShapedSpell}
use Rattle.schemas.specs.declared.array.Array.{Array}
use Rattle.history_reader.specs.Meaning.{IsGateEntry, IsApiEntry, IsFieldEntry, IsSpellEntry}
use Rattle.history_reader.specs.Tests.{Passes, table_tests}
use Rattle.history_reader.specs.Words.{path_in}
use Rattle.history_toml.specs.Tables.{Pair, table_of, gate_pairs, api_pairs, field_pairs, spell_pairs, dotted}
use Rattle.history_toml.proofs.PathLemmas.{path_in-dotted}
use Rattle.history_toml.proofs.ReadLemmas.{IsRow, row_of}

-- members whose table is the entry, passes its tests, and is read from its line
pub record IsWritten {X : Type 0} (array : Array) (IsEntry : Members → X → Type 0) (ps : List Pair) (x : X) : Type 0 where
  pub means : IsEntry (table_of ps) x
  pub passes : (i : ℕ) → AllByRecursion Passes (table_tests array i (table_of ps))
  pub row : IsRow ps

-- ---- gates

abbrev gate : GateEntry → GateChange → GateEntry
gate x change = record { name = x.name; since = x.since; change = change }

gate_by : (x : GateEntry) (change : GateChange) → IsShapedGate x → IsWritten Array.Gate IsGateEntry (gate_pairs (gate x change)) (gate x change)
unfolding key_text along_dots at_key
gate_by x (Spec stage default true) h = record {
  means = record { name = refl; since = record { text = refl; bound = h.since }; change = (refl, refl, refl, refl) };
  passes = λ i. (h.name, ((x.since, h.since, refl), ((stage, refl), (refl, (refl, tt)))));
  row = row_of _ _ (refl, tt, (refl, tt, (refl, tt, (refl, tt, (refl, tt, tt))))) refl;
}
gate_by x (Spec stage default false) h = record {
  means = record { name = refl; since = record { text = refl; bound = h.since }; change = (refl, refl, refl, refl) };
  passes = λ i. (h.name, ((x.since, h.since, refl), ((stage, refl), (refl, (tt, tt)))));
  row = row_of _ _ (refl, tt, (refl, tt, (refl, tt, (refl, tt, tt)))) refl;
}
gate_by x Gone h = record {
  means = record { name = refl; since = record { text = refl; bound = h.since }; change = refl };
  passes = λ i. (h.name, ((x.since, h.since, refl), (refl, tt)));
  row = row_of _ _ (refl, tt, (refl, tt, (refl, tt, tt))) refl;
}

pub gate_written : (x : GateEntry) → IsShapedGate x → IsWritten Array.Gate IsGateEntry (gate_pairs x) x
gate_written x h = gate_by x x.change h

-- ---- versions

abbrev api_entry : ApiEntry → ApiChange → ApiEntry
api_entry x change = record { group = x.group; version = x.version; resource = x.resource; since = x.since; change = change }

api_by : (x : ApiEntry) (change : ApiChange) → IsShapedApi (api_entry x change) → IsWritten Array.Api IsApiEntry (api_pairs (api_entry x change)) (api_entry x change)
unfolding key_text along_dots at_key
api_by x (api.Introduced kind singular namespaced enabled) h = record {
  means = record { group = refl; version = refl; resource = refl; since = record { text = refl; bound = h.since }; change = (refl, refl, refl, refl, refl) };
  passes = λ i. (h.group, (h.version, (h.resource, ((x.since, h.since, refl), (inl refl, (h.change.0, (h.change.1, (refl, (refl, tt)))))))));
  row = row_of _ _ (refl, tt, (refl, tt, (refl, tt, (refl, tt, (refl, tt, (refl, tt, (refl, tt, (refl, tt, (refl, tt, tt))))))))) refl;
}
api_by x (api.Deprecated removal replacement) h = record {
  means = record { group = refl; version = refl; resource = refl; since = record { text = refl; bound = h.since }; change = (refl, record { text = refl; bound = h.change.0 }, refl) };
  passes = λ i. (h.group, (h.version, (h.resource, ((x.since, h.since, refl), (inr (inl refl), ((removal, h.change.0, refl), (h.change.1, tt)))))));
  row = row_of _ _ (refl, tt, (refl, tt, (refl, tt, (refl, tt, (refl, tt, (refl, tt, (refl, tt, tt))))))) refl;
}
api_by x api.Removed h = record {
  means = record { group = refl; version = refl; resource = refl; since = record { text = refl; bound = h.since }; change = refl };
  passes = λ i. (h.group, (h.version, (h.resource, ((x.since, h.since, refl), (inr (inr (inl refl)), tt)))));
  row = row_of _ _ (refl, tt, (refl, tt, (refl, tt, (refl, tt, (refl, tt, tt))))) refl;
}
api_by x api.Forgotten h = record {
  means = record { group = refl; version = refl; resource = refl; since = record { text = refl; bound = h.since }; change = refl };
  passes = λ i. (h.group, (h.version, (h.resource, ((x.since, h.since, refl), (inr (inr (inr refl)), tt)))));
  row = row_of _ _ (refl, tt, (refl, tt, (refl, tt, (refl, tt, (refl, tt, tt))))) refl;
}

pub api_written : (x : ApiEntry) → IsShapedApi x → IsWritten Array.Api IsApiEntry (api_pairs x) x
api_written x h = api_by x x.change h

-- ---- fields

abbrev field_entry : Field → Bool → Option (List ℕ) → Field
field_entry x required guard = record { group = x.group; resource = x.resource; id = x.id; since = x.since; ty = x.ty; required = required; gate = guard }

field_by : (x : Field) (required : Bool) (guard : Option (List ℕ)) → IsShapedField (field_entry x required guard)
    → IsWritten Array.Field IsFieldEntry (field_pairs (field_entry x required guard)) (field_entry x required guard)
unfolding key_text along_dots at_key
field_by x true None h = record {
  means = record { group = refl; resource = refl; id = refl; since = record { text = refl; bound = h.since }; ty = refl; required = refl; gate = refl };
  passes = λ i. (h.group, (h.resource, (h.id, ((x.since, h.since, refl), ((x.ty, refl), (refl, (tt, tt)))))));
  row = row_of _ _ (refl, tt, (refl, tt, (refl, tt, (refl, tt, (refl, tt, (refl, tt, tt)))))) refl;
}
field_by x true (Some guard) h = record {
  means = record { group = refl; resource = refl; id = refl; since = record { text = refl; bound = h.since }; ty = refl; required = refl; gate = refl };
  passes = λ i. (h.group, (h.resource, (h.id, ((x.since, h.since, refl), ((x.ty, refl), (refl, (h.gate, tt)))))));
  row = row_of _ _ (refl, tt, (refl, tt, (refl, tt, (refl, tt, (refl, tt, (refl, tt, (refl, tt, tt))))))) refl;
}
field_by x false None h = record {
  means = record { group = refl; resource = refl; id = refl; since = record { text = refl; bound = h.since }; ty = refl; required = refl; gate = refl };
  passes = λ i. (h.group, (h.resource, (h.id, ((x.since, h.since, refl), ((x.ty, refl), (tt, (tt, tt)))))));
  row = row_of _ _ (refl, tt, (refl, tt, (refl, tt, (refl, tt, (refl, tt, tt))))) refl;
}
field_by x false (Some guard) h = record {
  means = record { group = refl; resource = refl; id = refl; since = record { text = refl; bound = h.since }; ty = refl; required = refl; gate = refl };
  passes = λ i. (h.group, (h.resource, (h.id, ((x.since, h.since, refl), ((x.ty, refl), (tt, (h.gate, tt)))))));
  row = row_of _ _ (refl, tt, (refl, tt, (refl, tt, (refl, tt, (refl, tt, (refl, tt, tt)))))) refl;
}

pub field_written : (x : Field) → IsShapedField x → IsWritten Array.Field IsFieldEntry (field_pairs x) x
field_written x h = field_by x x.required x.gate h

-- ---- spellings

abbrev spell_entry : Spell → Form → Option FieldValue → Spell
spell_entry x form default = record { group = x.group; resource = x.resource; version = x.version; field = x.field; since = x.since; path = x.path; form = form; default = default }

abbrev IsSpelled : Spell → Form → Option FieldValue → Type 0
IsSpelled x form default = IsWritten Array.Spell IsSpellEntry (spell_pairs (spell_entry x form default)) (spell_entry x form default)

spell_by : (x : Spell) (form : Form) (default : Option FieldValue) → path_in (dotted x.path) ≡ x.path → IsPath (path_in (dotted x.path)) → IsShapedSpell (spell_entry x form default) → IsSpelled x form default
unfolding key_text along_dots at_key
spell_by x Same None told path h = record {
  means = record { group = refl; resource = refl; version = refl; field = refl; since = record { text = refl; bound = h.since }; path = ap Some told; form = refl; default = refl };
  passes = λ i. (h.group, (h.resource, (h.version, (h.field, ((x.since, h.since, refl), (path, (tt, (tt, tt))))))));
  row = row_of _ _ (refl, tt, (refl, tt, (refl, tt, (refl, tt, (refl, tt, (refl, tt, tt)))))) refl;
}
spell_by x Same (Some (value.Bool b)) told path h = record {
  means = record { group = refl; resource = refl; version = refl; field = refl; since = record { text = refl; bound = h.since }; path = ap Some told; form = refl; default = refl };
  passes = λ i. (h.group, (h.resource, (h.version, (h.field, ((x.since, h.since, refl), (path, (tt, (tt, tt))))))));
  row = row_of _ _ (refl, tt, (refl, tt, (refl, tt, (refl, tt, (refl, tt, (refl, tt, (refl, tt, tt))))))) refl;
}
spell_by x Same (Some (value.Int z)) told path h = record {
  means = record { group = refl; resource = refl; version = refl; field = refl; since = record { text = refl; bound = h.since }; path = ap Some told; form = refl; default = refl };
  passes = λ i. (h.group, (h.resource, (h.version, (h.field, ((x.since, h.since, refl), (path, (tt, (h.default, tt))))))));
  row = row_of _ _ (refl, tt, (refl, tt, (refl, tt, (refl, tt, (refl, tt, (refl, tt, (refl, h.default, tt))))))) refl;
}
spell_by x Same (Some (value.Text t)) told path h = record {
  means = record { group = refl; resource = refl; version = refl; field = refl; since = record { text = refl; bound = h.since }; path = ap Some told; form = refl; default = refl };
  passes = λ i. (h.group, (h.resource, (h.version, (h.field, ((x.since, h.since, refl), (path, (tt, (h.default, tt))))))));
  row = row_of _ _ (refl, tt, (refl, tt, (refl, tt, (refl, tt, (refl, tt, (refl, tt, (refl, tt, tt))))))) refl;
}
spell_by x Same (Some (value.List ts)) told path h = absurd h.default
spell_by x Not None told path h = record {
  means = record { group = refl; resource = refl; version = refl; field = refl; since = record { text = refl; bound = h.since }; path = ap Some told; form = refl; default = refl };
  passes = λ i. (h.group, (h.resource, (h.version, (h.field, ((x.since, h.since, refl), (path, ((Not, refl), (tt, tt))))))));
  row = row_of _ _ (refl, tt, (refl, tt, (refl, tt, (refl, tt, (refl, tt, (refl, tt, (refl, tt, tt))))))) refl;
}
spell_by x Not (Some (value.Bool b)) told path h = record {
  means = record { group = refl; resource = refl; version = refl; field = refl; since = record { text = refl; bound = h.since }; path = ap Some told; form = refl; default = refl };
  passes = λ i. (h.group, (h.resource, (h.version, (h.field, ((x.since, h.since, refl), (path, ((Not, refl), (tt, tt))))))));
  row = row_of _ _ (refl, tt, (refl, tt, (refl, tt, (refl, tt, (refl, tt, (refl, tt, (refl, tt, (refl, tt, tt)))))))) refl;
}
spell_by x Not (Some (value.Int z)) told path h = record {
  means = record { group = refl; resource = refl; version = refl; field = refl; since = record { text = refl; bound = h.since }; path = ap Some told; form = refl; default = refl };
  passes = λ i. (h.group, (h.resource, (h.version, (h.field, ((x.since, h.since, refl), (path, ((Not, refl), (h.default, tt))))))));
  row = row_of _ _ (refl, tt, (refl, tt, (refl, tt, (refl, tt, (refl, tt, (refl, tt, (refl, tt, (refl, h.default, tt)))))))) refl;
}
spell_by x Not (Some (value.Text t)) told path h = record {
  means = record { group = refl; resource = refl; version = refl; field = refl; since = record { text = refl; bound = h.since }; path = ap Some told; form = refl; default = refl };
  passes = λ i. (h.group, (h.resource, (h.version, (h.field, ((x.since, h.since, refl), (path, ((Not, refl), (h.default, tt))))))));
  row = row_of _ _ (refl, tt, (refl, tt, (refl, tt, (refl, tt, (refl, tt, (refl, tt, (refl, tt, (refl, tt, tt)))))))) refl;
}
spell_by x Not (Some (value.List ts)) told path h = absurd h.default
spell_by x Decimal None told path h = record {
  means = record { group = refl; resource = refl; version = refl; field = refl; since = record { text = refl; bound = h.since }; path = ap Some told; form = refl; default = refl };
  passes = λ i. (h.group, (h.resource, (h.version, (h.field, ((x.since, h.since, refl), (path, ((Decimal, refl), (tt, tt))))))));
  row = row_of _ _ (refl, tt, (refl, tt, (refl, tt, (refl, tt, (refl, tt, (refl, tt, (refl, tt, tt))))))) refl;
}
spell_by x Decimal (Some (value.Bool b)) told path h = record {
  means = record { group = refl; resource = refl; version = refl; field = refl; since = record { text = refl; bound = h.since }; path = ap Some told; form = refl; default = refl };
  passes = λ i. (h.group, (h.resource, (h.version, (h.field, ((x.since, h.since, refl), (path, ((Decimal, refl), (tt, tt))))))));
  row = row_of _ _ (refl, tt, (refl, tt, (refl, tt, (refl, tt, (refl, tt, (refl, tt, (refl, tt, (refl, tt, tt)))))))) refl;
}
spell_by x Decimal (Some (value.Int z)) told path h = record {
  means = record { group = refl; resource = refl; version = refl; field = refl; since = record { text = refl; bound = h.since }; path = ap Some told; form = refl; default = refl };
  passes = λ i. (h.group, (h.resource, (h.version, (h.field, ((x.since, h.since, refl), (path, ((Decimal, refl), (h.default, tt))))))));
  row = row_of _ _ (refl, tt, (refl, tt, (refl, tt, (refl, tt, (refl, tt, (refl, tt, (refl, tt, (refl, h.default, tt)))))))) refl;
}
spell_by x Decimal (Some (value.Text t)) told path h = record {
  means = record { group = refl; resource = refl; version = refl; field = refl; since = record { text = refl; bound = h.since }; path = ap Some told; form = refl; default = refl };
  passes = λ i. (h.group, (h.resource, (h.version, (h.field, ((x.since, h.since, refl), (path, ((Decimal, refl), (h.default, tt))))))));
  row = row_of _ _ (refl, tt, (refl, tt, (refl, tt, (refl, tt, (refl, tt, (refl, tt, (refl, tt, (refl, tt, tt)))))))) refl;
}
spell_by x Decimal (Some (value.List ts)) told path h = absurd h.default

pub spell_written : (x : Spell) → IsShapedSpell x → IsWritten Array.Spell IsSpellEntry (spell_pairs x) x
spell_written x h =
    let told : path_in (dotted x.path) ≡ x.path = path_in-dotted x.path h.path in
    spell_by x x.form x.default told (subst IsPath (sym told) h.path) h
