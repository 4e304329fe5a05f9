use Rattle.std.proofs.Common.{◌≡◌, List, length, rules}
use Rattle.std.specs.Prelude.{filter}
use Rattle.fields.specs.declared.field.Field.{Field}
use Rattle.schemas.specs.FieldRules.{is_of_resource}
use Rattle.listing.specs.Keys.{resource_of_field}
use Rattle.listing.specs.Listing.{IsListing}
use Rattle.field_rules.proofs.TestLemmas.{few}
use Rattle.field_rules.proofs.on_fields.is_of_few.Goals as goal

pub returns : goal.returns
returns c = λ (fields : List Field) (listing : IsListing resource_of_field fields c.args.earlier.now).
    let counted : c.count.result ≡ length (filter (is_of_resource c.args.field.now) fields) = few c.args.field.now fields c.args.earlier.now c.listed.result c.count.result c.bytes-group.result.now c.bytes-resource.result.now listing c.listed.ensures c.bytes-group.ensures c.bytes-resource.ensures c.count.ensures in
    search rules
