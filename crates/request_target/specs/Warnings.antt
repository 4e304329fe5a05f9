-- What a client is told that uses a deprecated version.
use Rattle.std.specs.Prelude.{ℕ, List, ◌++◌, Option, codes, option_map, option_and_then}
use Rattle.lifecycle.specs.Names.{group_version}
use Rattle.lifecycle.specs.Tables.{Deprecation}
use Rattle.minor_version.specs.Release.{release_text}
use Rattle.release_view.specs.Served.{shown_name}
use Rattle.release_view.specs.Views.{Viewed, warning_in}
use Rattle.release_view.specs.declared.served.ServedVersion.{ServedVersion}
use Rattle.request_target.specs.Targets.{Asked, Resource, resource_of}

-- the version and its kind, and since when it is deprecated
abbrev pub deprecated_text : List ℕ → List ℕ → List ℕ → List ℕ
deprecated_text version kind since =
    codes "299 - \"" ++ (version ++ (codes " " ++ (kind
    ++ (codes " is deprecated in v" ++ (since ++ codes "+")))))

-- when it is to be removed, and the version to use
abbrev pub instead_text : List ℕ → List ℕ → List ℕ → List ℕ
instead_text removal other kind =
    codes ", unavailable in v" ++ (removal ++ (codes "+; use " ++ (other
    ++ (codes " " ++ (kind ++ codes "\"")))))

abbrev pub warning_line : ServedVersion → Deprecation → List ℕ
warning_line s d =
    deprecated_text (group_version s.group s.version) s.kind (release_text d.since)
    ++ instead_text (release_text d.removal) (group_version s.group d.replacement) s.kind

-- the warning on a resource's version, where that is deprecated
abbrev pub warning_on : Viewed → Resource → Option (List ℕ)
warning_on view r =
    option_map (warning_line r.served) (warning_in view.versions (shown_name r.served))

-- of pages, and where nothing is named that is served, there is no warning
abbrev pub warning : Viewed → Option Asked → Option (List ℕ)
warning view asked = option_and_then (warning_on view) (option_and_then resource_of asked)
