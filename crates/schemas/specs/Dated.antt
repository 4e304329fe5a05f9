-- A release history as contracts see it.
use Rattle.std.specs.Prelude.{ℕ, List, IfSome}
use Rattle.std.specs.declared.option.Option.{Option}
use Rattle.std.specs.List.{AllByRecursion}
use Rattle.fields.specs.declared.field.Field.{Field}
use Rattle.fields.specs.declared.field.Spell.{Spell}
use Rattle.gate_spec.specs.declared.entry.GateEntry.{GateEntry}
use Rattle.lifecycle.specs.declared.entry.ApiEntry.{ApiEntry}
use Rattle.schemas.specs.Shapes.{IsMinor, IsShapedGate, IsShapedApi, IsShapedField, IsShapedSpell}

-- dated entries, each list in document order, and the first and the last release of which they
-- speak
pub record Dated : Type 0 where
  pub first : Option ℕ
  pub last : Option ℕ
  pub gates : List GateEntry
  pub apis : List ApiEntry
  pub fields : List Field
  pub spells : List Spell

-- all that the history holds has the shape of its member: what a document can say, and what its
-- type keeps
pub record IsShaped (h : Dated) : Type 0 where
  pub first : IfSome h.first IsMinor
  pub last : IfSome h.last IsMinor
  pub gates : AllByRecursion IsShapedGate h.gates
  pub apis : AllByRecursion IsShapedApi h.apis
  pub fields : AllByRecursion IsShapedField h.fields
  pub spells : AllByRecursion IsShapedSpell h.spells
