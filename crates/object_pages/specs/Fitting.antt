-- Objects that hold what versions of their resource can show.
use Rattle.std.specs.Prelude.{◌≡◌, ℕ, List, Option, All, Contains}
use Rattle.fields.specs.Fits.{Fits}
use Rattle.fields.specs.declared.table.VersionTable.{VersionTable}
use Rattle.object_pages.specs.Documents.{listed}
use Rattle.object_state.specs.declared.object.Stored.{Stored}
use Rattle.release_view.specs.declared.known.KnownVersion.{KnownVersion}
use Rattle.request_target.specs.Targets.{Resource}

-- what each of the objects holds fits the table
abbrev pub AllFit : VersionTable → List Stored → Type 0
AllFit table objects = All (λ x. Fits table.rows x.object.fields) objects

-- what each object of the table's resource holds fits it
abbrev pub AreFitting : VersionTable → List Stored → Type 0
AreFitting table objects =
    All (λ x. x.key.group ≡ table.group → x.key.resource ≡ table.resource →
    Fits table.rows x.object.fields) objects

-- what each object holds fits each version of its resource that the view has
abbrev pub FitVersions : List KnownVersion → List Stored → Type 0
FitVersions versions objects = All (λ v. AreFitting v.table objects) versions

-- what each object of the resource holds fits its table, and so does what is listed of them
pub record FitResource (r : Resource) (objects : List Stored) : Type 0 where
  pub held : (x : Stored) → Contains objects x
      → x.key.group ≡ r.served.group → x.key.resource ≡ r.served.resource
      → Fits r.table.rows x.object.fields
  pub all : (namespace : Option (List ℕ)) → AllFit r.table (listed r namespace objects)
