-- The fields of an index, as contracts see it.
use Rattle.listing.specs.Listing.{IsListing}
use Rattle.schemas.specs.Cutoff.{fields_by, spells_by}
use Rattle.listing.specs.Keys.{resource_of_field, version_of_spell}
use Rattle.row_index.specs.Once.{AreFieldsOnce, AreSpellsOnce}
use Rattle.row_index.specs.Source.{RowSource}
use Rattle.row_index.specs.declared.index.RowIndex.TheInside.{Inside}

abbrev pub source_of : Inside → RowSource
source_of i = record {
  fields = fields_by i.fields.now i.e;
  spells = spells_by i.spells.now i.e;
  gates = i.gates.now;
}

-- each listing has its entries, and an entry is named by its texts
pub record IsIndex (i : Inside) : Type 0 where
  pub fields_by_resource :
      IsListing resource_of_field (fields_by i.fields.now i.e) i.fields_by_resource
  pub spells_by_version :
      IsListing version_of_spell (spells_by i.spells.now i.e) i.spells_by_version
  pub fields_once : AreFieldsOnce (fields_by i.fields.now i.e)
  pub spells_once : AreSpellsOnce (spells_by i.spells.now i.e)
