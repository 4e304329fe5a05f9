-- The names by which entries of gates and APIs are listed.
use Rattle.std.specs.Prelude.{[]}
use Rattle.gate_spec.specs.declared.entry.GateEntry.{GateEntry}
use Rattle.lifecycle.specs.declared.entry.ApiEntry.{ApiEntry}
use Rattle.listing.specs.Listing.{Name, name_of}

abbrev pub gate_of : GateEntry → Name
gate_of x = name_of x.name [] []

abbrev pub resource_of_api : ApiEntry → Name
resource_of_api x = name_of x.group x.resource []

abbrev pub version_of_api : ApiEntry → Name
version_of_api x = name_of x.group x.version x.resource
