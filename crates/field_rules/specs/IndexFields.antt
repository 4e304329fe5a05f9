-- The fields of an index of entries, as contracts see it.
use Rattle.field_rules.specs.Keys.{gate_of, resource_of_api, version_of_api}
use Rattle.listing.specs.Keys.{resource_of_field, version_of_spell}
use Rattle.listing.specs.Listing.{IsListing}
use Rattle.field_rules.specs.Lists.{lists}
use Rattle.schemas.specs.Dated.{Dated}
use Rattle.field_rules.specs.declared.index.Index.TheInside.{Inside}

-- the lists that the index is of
abbrev pub lists_of : Inside → Dated
lists_of i = lists i.first i.gates.now i.apis.now i.fields.now i.spells.now

-- each listing has its entries
pub record IsIndex (i : Inside) : Type 0 where
  pub gates_by_name : IsListing gate_of i.gates.now i.gates_by_name
  pub apis_by_resource : IsListing resource_of_api i.apis.now i.apis_by_resource
  pub apis_by_version : IsListing version_of_api i.apis.now i.apis_by_version
  pub fields_by_resource : IsListing resource_of_field i.fields.now i.fields_by_resource
  pub spells_by_version : IsListing version_of_spell i.spells.now i.spells_by_version
