-- The connections that events leave open, as they are kept while a text is read.
use Rattle.std.specs.Prelude.{◌≡◌, ◌↔◌, ◌+◌, ◌<◌, ◌≤◌, ℕ, IsTrue, List, Contains}
use Rattle.std.specs.Ordering.{nat_cmp}
use Rattle.std.specs.BTreeSet.{contains, btree_set_len}
use Rattle.scripts.specs.Lawful.{opened, closed, IsOpen}
use Rattle.scripts.specs.declared.connections.Connections.{Connections}
use Rattle.scripts.specs.declared.script.ScriptEvent.{ScriptEvent}
use Rattle.scripts.specs.declared.script.ScriptEvent.TheVariants.{Close}

-- So many connections were opened by the events, and these are open. None is closed that wasn't opened.
pub record IsStanding (connections : Connections) (events : List ScriptEvent) : Type 0 where
  pub total : connections.opened ≡ opened events
  pub count : btree_set_len connections.current + closed events ≡ opened events
  pub few : connections.opened ≤ 1000000
  pub known : (c : ℕ) → Contains events (Close c) → c < opened events
  pub current : (c : ℕ) → IsTrue (contains nat_cmp connections.current c) ↔ IsOpen events c
