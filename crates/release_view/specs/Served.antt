-- The served versions among those that a view holds.
use Rattle.std.specs.Prelude.{List, Option, Some, None, if◌then◌else◌}
use Rattle.std.specs.List.{filter_map}
use Rattle.lifecycle.specs.Entry.{GroupVersionResource}
use Rattle.release_view.specs.declared.known.KnownVersion.{KnownVersion}
use Rattle.release_view.specs.declared.served.ServedVersion.{ServedVersion}

abbrev pub shown_name : ServedVersion → GroupVersionResource
shown_name s = record { group = s.group; version = s.version; resource = s.resource }

-- what is shown of a version
abbrev pub shown : KnownVersion → ServedVersion
shown v = record {
  group = v.table.group;
  version = v.table.version;
  resource = v.table.resource;
  kind = v.table.kind;
  singular = v.singular;
  namespaced = v.namespaced;
}

-- the version as it is served, if it is
abbrev pub served_as : KnownVersion → Option ServedVersion
served_as v = if v.served then Some (shown v) else None

-- the served versions, in order
abbrev pub served_of : List KnownVersion → List ServedVersion
served_of versions = filter_map served_as versions
