-- The names at which fields and spellings are listed.
use Rattle.std.specs.Prelude.{[]}
use Rattle.fields.specs.declared.field.Field.{Field}
use Rattle.fields.specs.declared.field.Spell.{Spell}
use Rattle.listing.specs.Listing.{Name, name_of}

abbrev pub resource_of_field : Field → Name
resource_of_field f = name_of f.group f.resource []

abbrev pub version_of_spell : Spell → Name
version_of_spell s = name_of s.group s.version s.resource
