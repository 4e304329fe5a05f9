-- The fields of a history, as the record that contracts see.
use Rattle.schemas.specs.Dated.{Dated, IsShaped}
use Rattle.schemas.specs.declared.history.History.TheInside.{Inside}

abbrev pub dated : Inside → Dated
dated h = record {
  first = h.first;
  last = h.last;
  gates = h.gates;
  apis = h.apis;
  fields = h.fields;
  spells = h.spells;
}

abbrev pub IsWellShaped : Inside → Type 0
IsWellShaped h = IsShaped (dated h)
