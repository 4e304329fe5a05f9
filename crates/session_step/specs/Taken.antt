-- A call of a session on its server and its front.
use Rattle.std.specs.Prelude.{◌≡◌, ◌+◌, ◌≤◌, ℕ, length}
use Rattle.api_requests.specs.Serving.{Serving}
use Rattle.basis.specs.Counts.{Rose}
use Rattle.disk.specs.Beside.{Beside}
use Rattle.http_front.specs.Items.{Item}
use Rattle.http_front.specs.declared.reply.Reply.{Reply}
use Rattle.object_state.specs.State.{State}
use Rattle.served_steps.specs.Steps.{IsAnswered}
use Rattle.session_course.specs.Servers.{Server}
use Rattle.session_turns.specs.Turns.{Turn}

-- what the server keeps, as courses see it
abbrev pub server_of : Serving → Server
server_of s = record {
  machine = s.machine;
  back = s.back;
  state = s.state;
  items = s.store.items;
  revision = s.store.journal.revision;
}

-- the turn is of this item of the connection, after all events that were taken
pub record IsTurnOf (c : ℕ) (item : Item) (b : Beside) (t : Turn) : Type 0 where
  pub of_c : t.c ≡ c
  pub seen : t.seen ≡ length b.taken
  pub of_item : t.item ≡ item

-- no event was taken
pub record TakesNone (old new : Beside) : Type 0 where
  pub opened : new.opened ≡ old.opened
  pub taken : new.taken ≡ old.taken
  pub coming : new.coming ≡ old.coming

-- the count of faults never falls, rises where the call failed by it, and else stays
pub record CountsFailure (old new : ℕ) (failed : Type 0) : Type 0 where
  pub later : old ≤ new
  pub cause : failed → Rose old new
  pub fine : ¬ failed → new ≡ old

-- the send mark isn't above the front's count
abbrev pub IsMarked : Beside → Type 0
IsMarked b = b.send_mark ≤ b.front_faults

-- the item has a reply after which the server is at the next revision
pub record ChangesState (s : Server) (item : Item) : Type 0 where
  pub reply : Reply
  pub next : State
  pub answered : IsAnswered s.machine s.state item reply next
  pub rises : next.revision ≡ s.state.revision + 1
