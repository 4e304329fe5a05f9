-- What follows from the definitions.
use Rattle.std.specs.Prelude.{◌≡◌, ℕ, List}
use Rattle.object_journal.specs.declared.key.Key.{Key}
use Rattle.object_pages.specs.Documents.{IsListOf, IsShown}
use Rattle.object_state.specs.declared.object.Object.{Object}
use Rattle.object_state.specs.declared.object.Stored.{Stored}
use Rattle.request_target.specs.Targets.{Resource}
use Rattle.serde_json.specs.Data.{Data}

-- in the version an object is shown by one tree at most, and so is a list of objects
pub record HaveOnePage (r : Resource) : Type 0 where
  pub object : (key : Key) (object : Object) (tree other : Data)
      → IsShown r key object tree → IsShown r key object other → tree ≡ other
  pub list : (revision : ℕ) (objects : List Stored) (tree other : Data)
      → IsListOf r revision objects tree → IsListOf r revision objects other → tree ≡ other
