-- The fields of a view, as contracts see it.
use Rattle.std.specs.Prelude.{◌≡◌}
use Rattle.release_view.specs.Kept.{IsKept}
use Rattle.release_view.specs.Served.{served_of}
use Rattle.release_view.specs.Views.{Viewed}
use Rattle.release_view.specs.declared.release.View.TheInside.{Inside}

abbrev pub viewed : Inside → Viewed
viewed v = record { minor = v.minor; gates = v.gates; versions = v.versions.items }

-- the view is as its type keeps it, and the served versions are listed
pub record IsSound (v : Inside) : Type 0 where
  pub kept : IsKept (viewed v)
  pub listed : v.served.items ≡ served_of v.versions.items
