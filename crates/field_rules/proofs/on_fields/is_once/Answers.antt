use Rattle.std.proofs.Common.{List}
use Rattle.fields.specs.declared.field.Field.{Field}
use Rattle.listing.specs.Keys.{resource_of_field}
use Rattle.listing.specs.Listing.{IsListing}
use Rattle.field_rules.proofs.TestLemmas.{once}
use Rattle.field_rules.proofs.on_fields.is_once.Goals as goal

pub returns : goal.returns
returns c = λ (fields : List Field) (listing : IsListing resource_of_field fields c.args.earlier.now).
    once c.args.field.now fields c.args.earlier.now c.listed.result c.has_field.result c.bytes-group.result.now c.bytes-resource.result.now listing c.listed.ensures c.bytes-group.ensures c.bytes-resource.ensures c.has_field.ensures
