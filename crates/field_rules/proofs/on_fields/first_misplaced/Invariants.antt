use Rattle.std.proofs.Common.{take}
use Rattle.listing.specs.Keys.{resource_of_field}
use Rattle.listing.specs.Listing.{IsListing}
use Rattle.schemas.specs.FieldRules.{BelongsToResource}
use Rattle.schemas.specs.Rules.{first_of}
use Rattle.schemas.proofs.PlaceLemmas.{EachBelow}
use Rattle.field_rules.proofs.on_fields.first_misplaced.Given as goal

abbrev pub invariant-loop-i : goal.invariant-loop-i
invariant-loop-i l = record { before : EachBelow (BelongsToResource (first_of l.index) l.index.apis) l.fields l.i; earlier : IsListing resource_of_field (take l.i l.fields) l.earlier }
