-- What a release knows of a history: the entries dated at or before it.
use Rattle.std.specs.Prelude.{ℕ, nat_le, List, filter, Some}
use Rattle.fields.specs.declared.field.Field.{Field}
use Rattle.fields.specs.declared.field.Spell.{Spell}
use Rattle.gate_spec.specs.Gates.{cutoff as gates_by}
use Rattle.lifecycle.specs.Tables.{cutoff as apis_by}
use Rattle.schemas.specs.Dated.{Dated}

abbrev pub fields_by : List Field → ℕ → List Field
fields_by fields e = filter (λ f. nat_le f.since e) fields

abbrev pub spells_by : List Spell → ℕ → List Spell
spells_by spells e = filter (λ s. nat_le s.since e) spells

-- the history cut at the release, which is its last one then
abbrev pub cutoff : Dated → ℕ → Dated
cutoff h e = record {
  first = h.first;
  last = Some e;
  gates = gates_by h.gates e;
  apis = apis_by h.apis e;
  fields = fields_by h.fields e;
  spells = spells_by h.spells e;
}
