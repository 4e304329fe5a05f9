-- What the rows of tables are made of at a release.
use Rattle.std.specs.Prelude.{List}
use Rattle.fields.specs.declared.field.Field.{Field}
use Rattle.fields.specs.declared.field.Spell.{Spell}
use Rattle.gate_flags.specs.Values.{Gates}

-- the fields and spellings that the release knows, and the values of its gates
pub record RowSource : Type 0 where
  pub fields : List Field
  pub spells : List Spell
  pub gates : Gates
