-- What a history that is cut at a release knows at it and before.
use Rattle.std.specs.Prelude.{◌≡◌, ℕ, List}
use Rattle.lifecycle.specs.Entry.{GroupVersionResource}
use Rattle.lifecycle.specs.Tables.{cutoff, live, decodable, warning}
use Rattle.lifecycle.specs.declared.entry.ApiEntry.{ApiEntry}

-- at the release the cut history has the same tables, and so the same live and decodable versions
-- and warnings
pub record IsSameAt (entries cut : List ApiEntry) (e : ℕ) : Type 0 where
  pub tables : cutoff entries e ≡ cutoff cut e
  pub live : (name : GroupVersionResource) → live (cutoff entries e) name ≡ live (cutoff cut e) name
  pub decodable : (name : GroupVersionResource)
      → decodable (cutoff entries e) name ≡ decodable (cutoff cut e) name
  pub warning : (name : GroupVersionResource)
      → warning (cutoff entries e) name ≡ warning (cutoff cut e) name
