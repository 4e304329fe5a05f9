-- What comes of acceptance: an entry is named by its texts.
use Rattle.std.specs.Prelude.{◌≡◌, List, Contains}
use Rattle.fields.specs.declared.field.Field.{Field}
use Rattle.fields.specs.declared.field.Spell.{Spell}
use Rattle.schemas.specs.FieldRules.{AreOneField}
use Rattle.schemas.specs.Pairs.{AreOfOnePair}

-- two fields that give one resource one id are one entry (HR11)
abbrev pub AreFieldsOnce : List Field → Type 0
AreFieldsOnce fields =
    (f g : Field) → Contains fields f → Contains fields g → AreOneField f g → f ≡ g

-- two spellings of one field in one version are one entry (HR14)
abbrev pub AreSpellsOnce : List Spell → Type 0
AreSpellsOnce spells =
    (s t : Spell) → Contains spells s → Contains spells t → AreOfOnePair s t → s ≡ t
