-- Warnings without line breaks.
use Rattle.std.specs.Prelude.{◌≤◌, Some, IfSome}
use Rattle.http_front.specs.Replies.{IsPlain}
use Rattle.release_view.specs.Views.{Viewed}
use Rattle.release_view.specs.declared.known.KnownVersion.{KnownVersion}
use Rattle.release_view.specs.declared.known.Planned.{Planned}
use Rattle.request_target.specs.Targets.{Asked}
use Rattle.request_target.specs.Told.{IsTold}
use Rattle.request_target.specs.Warnings.{warning}

-- releases are those of a history, and the version to use has no line break in its name
pub record IsPlainPlan (p : Planned) : Type 0 where
  pub since : p.since ≤ 999
  pub removal : p.removal ≤ 999
  pub replacement : IsPlain p.replacement

-- the names of a version have no line breaks, nor has that of the version to use in its place
pub record HasPlainNames (v : KnownVersion) : Type 0 where
  pub group : IsPlain v.table.group
  pub version : IsPlain v.table.version
  pub kind : IsPlain v.table.kind
  pub plan : IfSome v.warning IsPlainPlan

-- no warning on what a path asks for has a line break
abbrev pub WarnsPlainly : Viewed → Type 0
WarnsPlainly view =
    (asked : Asked) → IsTold view.versions asked → IfSome (warning view (Some asked)) IsPlain
