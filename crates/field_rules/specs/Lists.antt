-- The lists of a history in which the rules on fields look.
use Rattle.std.specs.Prelude.{ℕ, List, Some, None}
use Rattle.fields.specs.declared.field.Field.{Field}
use Rattle.fields.specs.declared.field.Spell.{Spell}
use Rattle.gate_spec.specs.declared.entry.GateEntry.{GateEntry}
use Rattle.lifecycle.specs.declared.entry.ApiEntry.{ApiEntry}
use Rattle.schemas.specs.Dated.{Dated}

-- lists with the history's first release, as a history that names no last one: the rules on fields
-- don't ask for it
abbrev pub lists : ℕ → List GateEntry → List ApiEntry → List Field → List Spell → Dated
lists first gates apis fields spells = record {
  first = Some first;
  last = None;
  gates = gates;
  apis = apis;
  fields = fields;
  spells = spells;
}
