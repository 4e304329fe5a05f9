-- The rules on spellings, one entry at a time.
use Rattle.std.specs.Prelude.{List, All, Option, IfSome, slice_get}
use Rattle.fields.specs.Table.{AreApart, IsFree, IsFormOf, IsDefaultOf}
use Rattle.fields.specs.declared.field.Field.{Field}
use Rattle.fields.specs.declared.field.Form.{Form}
use Rattle.fields.specs.declared.field.Spell.{Spell}
use Rattle.fields.specs.declared.value.FieldType.{FieldType}
use Rattle.fields.specs.declared.value.FieldValue.{FieldValue}
use Rattle.lifecycle.specs.declared.entry.ApiEntry.{ApiEntry}
use Rattle.schemas.specs.Pairs.{IsOfField, IsPaired, AreForOneVersion, AreOfOnePair}

-- HR14, of a spelling: it is that of a pair, dated when both the field and the version are there,
-- and the pair has no earlier one
pub record SpellsPairOnce (apis : List ApiEntry) (fields : List Field) (earlier : List Spell)
    (s : Spell) : Type 0 where
  pub paired : IsPaired apis fields s
  pub single : All (λ t. ¬ AreOfOnePair s t) earlier

-- HR15: the path begins at a member of its own, and is apart from each earlier one of its version
pub record HasOwnPath (earlier : List Spell) (s : Spell) : Type 0 where
  pub free : IfSome (slice_get s.path 0) IsFree
  pub apart : All (λ t. AreForOneVersion s t → AreApart s.path t.path) earlier

-- the form and the default fit the type
pub record FitsType (ty : FieldType) (form : Form) (default : Option FieldValue) : Type 0 where
  pub of_form : IsFormOf ty form
  pub of_default : IfSome default (IsDefaultOf ty)

-- HR16: the form and the default fit the type of the field
abbrev pub FitsField : List Field → List Spell → Spell → Type 0
FitsField fields earlier s = All (λ f. IsOfField f s → FitsType f.ty s.form s.default) fields
