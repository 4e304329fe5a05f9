-- What each call of a session needs, and what it leaves of its server and its front.
use Rattle.std.specs.Prelude.{◌≡◌, ◌<◌, ◌≤◌, ◌^◌, ℕ, List, None, true, length}
use Rattle.api_requests.specs.Finishing.{StandsOnDisk}
use Rattle.api_requests.specs.Serving.{Serving}
use Rattle.api_requests.specs.declared.fault.HandleFault.{HandleFault}
use Rattle.api_requests.specs.declared.fault.HandleFault.TheVariants as handle
use Rattle.conn_mux.specs.Held.{Held, flow_of}
use Rattle.disk.specs.Beside.{Beside}
use Rattle.disk.specs.Images.{Pending, Images}
use Rattle.disk.specs.declared.file.File.{File}
use Rattle.session_course.specs.Courses.{Course}
use Rattle.session_course.specs.Servers.{Server, Continues}
use Rattle.session_ends.specs.declared.fault.SessionFault.{SessionFault}
use Rattle.session_ends.specs.declared.fault.SessionFault.TheVariants as fault
use Rattle.session_step.specs.Taken.{CountsFailure, IsMarked, server_of}
use Rattle.session_turns.specs.Turns.{Turn}
use Rattle.world.specs.declared.event.Event.{Event}
use Rattle.world.specs.declared.event.Event.TheVariants.{Opened as GivesOpened, Piece as GivesPiece, Closed as GivesClosed, End as GivesEnd}

-- the server's records stand on the disk, the front's count of faults isn't below its send mark, and
-- its sends can be counted
pub record IsReady {W : Type 0} (tells : Type 0) (held : W → Images) (pending : W → File → Pending)
    (beside : W → Beside) (s : Serving) (w : W) : Type 0 where
  pub stands : StandsOnDisk tells (held w) (pending w) s
  pub marked : IsMarked (beside w)
  pub few : tells → length (beside w).sends < 2 ^ 64

-- the server goes on; where the disk failed it has ended, and only there the count of faults rose
pub record Keeps {W : Type 0} (faults : W → ℕ) (old new : Serving) (from to : W)
    (failed : Type 0) : Type 0 where
  pub continues : Continues (server_of old) (server_of new)
  pub ended : failed → new.store.journal.ended ≡ true
  pub counted : CountsFailure (faults from) (faults to) failed

-- the turns of a call, with a course between its two ends
pub record Answers {W : Type 0} (clock : W → ℕ) (may_leave : W → ℕ → Images → Type 0)
    (beside : W → Beside) (old new : Server) (from to : W)
    (Are : List Turn → List Turn → Type 0) : Type 0 where
  pub turns : List Turn
  pub further : List Turn
  pub course : Course clock may_leave beside old new from to turns further
  pub are : Are turns further

-- the event is of a connection that was opened: at its opening it isn't held, and a piece has room in
-- the buffer
abbrev pub CanServe : ℕ → Event → ℕ → Held → Type 0
CanServe room (GivesOpened c) opened held = (c < opened) × (flow_of held c ≡ None)
CanServe room (GivesPiece c n) opened held = (c < opened) × (n ≤ room)
CanServe room (GivesClosed c) opened held = c < opened
CanServe room GivesEnd opened held = Unit {0}

-- why a session ends, where an item wasn't answered
abbrev pub session_fault : HandleFault → SessionFault
session_fault handle.Disk = fault.Disk
session_fault handle.Memory = fault.Memory
