use Rattle.std.proofs.Common.{take}
use Rattle.listing.specs.Keys.{version_of_spell}
use Rattle.listing.specs.Listing.{IsListing}
use Rattle.schemas.specs.SpellRules.{SpellsPairOnce}
use Rattle.schemas.proofs.PlaceLemmas.{EachBelow}
use Rattle.field_rules.proofs.on_spellings.first_unpaired.Given as goal

abbrev pub invariant-loop-i : goal.invariant-loop-i
invariant-loop-i l = record { before : EachBelow (SpellsPairOnce l.index.apis l.index.fields) l.spells l.i; earlier : IsListing version_of_spell (take l.i l.spells) l.earlier }
