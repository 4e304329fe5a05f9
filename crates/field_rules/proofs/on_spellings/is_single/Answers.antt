use Rattle.std.proofs.Common.{List}
use Rattle.fields.specs.declared.field.Spell.{Spell}
use Rattle.listing.specs.Keys.{version_of_spell}
use Rattle.listing.specs.Listing.{IsListing}
use Rattle.field_rules.proofs.TestLemmas.{single}
use Rattle.field_rules.proofs.on_spellings.is_single.Goals as goal

pub returns : goal.returns
returns c = λ (spells : List Spell) (listing : IsListing version_of_spell spells c.args.earlier.now).
    single c.args.spell.now spells c.args.earlier.now c.listed.result c.has_spelling.result c.bytes-group.result.now c.bytes-version.result.now c.bytes-resource.result.now listing c.listed.ensures c.bytes-group.ensures c.bytes-version.ensures c.bytes-resource.ensures c.has_spelling.ensures
