-- What holds of what a path asks for.
use Rattle.std.specs.Prelude.{◌≡◌, List, Contains}
use Rattle.std.specs.Str.{IsUtf8}
use Rattle.release_view.specs.Served.{shown}
use Rattle.release_view.specs.declared.known.KnownVersion.{KnownVersion}
use Rattle.request_target.specs.Targets.{Asked, Resource, releases, gates, groups, group, resources, everywhere, inside, object}

-- the resource is a version of the view, with its table and as it is shown
pub record IsResourceIn (versions : List KnownVersion) (r : Resource) : Type 0 where
  pub version : KnownVersion
  pub among : Contains versions version
  pub table : version.table ≡ r.table
  pub served : shown version ≡ r.served

-- what is asked for is of the view; the namespace and the name of objects are texts
abbrev pub IsTold : List KnownVersion → Asked → Type 0
IsTold versions releases = Unit {0}
IsTold versions gates = Unit {0}
IsTold versions groups = Unit {0}
IsTold versions (group name) = Unit {0}
IsTold versions (resources g v) = Unit {0}
IsTold versions (everywhere of) = IsResourceIn versions of
IsTold versions (inside of namespace) = IsResourceIn versions of × IsUtf8 namespace
IsTold versions (object of namespace name) =
    IsResourceIn versions of × IsUtf8 namespace × IsUtf8 name
