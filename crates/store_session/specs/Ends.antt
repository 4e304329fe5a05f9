-- How a session over the store of a front's disk ends, and what it leaves.
use Rattle.std.specs.Prelude.{◌≡◌, ◌⊎◌, ℕ, List, ◌++◌, Result, Ok, Err, IfOk}
use Rattle.disk.specs.Beside.{Beside}
use Rattle.disk.specs.Images.{Images, IsStill, Pending}
use Rattle.disk.specs.Moments.{Moments}
use Rattle.disk.specs.declared.file.File.{File}
use Rattle.object_journal.specs.Standing.{chosen}
use Rattle.object_state.specs.State.{State}
use Rattle.object_store.specs.Records.{RecoversTo}
use Rattle.object_store.specs.declared.item.Item.{Item}
use Rattle.plain_machine.specs.declared.machine.Machine.{Machine}
use Rattle.release_view.specs.Views.{Viewed}
use Rattle.served_steps.specs.Steps.{Steps}
use Rattle.session_course.specs.Courses.{LeavesFound}
use Rattle.session_course.specs.Sends.{AreSent, exchanges}
use Rattle.session_course.specs.Servers.{Server}
use Rattle.session_ends.specs.Ends.{EndsBy}
use Rattle.session_ends.specs.declared.fault.SessionFault.{SessionFault}
use Rattle.session_ends.specs.declared.fault.SessionFault.TheVariants as stop
use Rattle.session_ends.specs.declared.served.Served.{Served}
use Rattle.session_turns.specs.Turns.{Turn}
use Rattle.stored_state.specs.Both.{StandForBoth}
use Rattle.store_session.specs.Opened.{HasUnreadable, HoldSame, IsNoStore, IsOpening}
use Rattle.store_session.specs.declared.fault.StoreFault.{StoreFault}
use Rattle.store_session.specs.declared.fault.StoreFault.TheVariants as fault

-- a server of these releases, from records that stand for the state
abbrev pub server : Machine → Viewed → State → List Item → ℕ → Server
server machine back state items revision =
    record { machine = machine; back = back; state = state; items = items; revision = revision }

-- The store's records stand for a state by both releases. From that state the machine answers turns of the events that were
-- taken, one after another, and the sends are its replies. A stop at each moment from the first sync on leaves what is kept
-- of the records for as many turns as were answered by then, or for one more; and so does one at the start, where nothing
-- of the file was pending.
pub record IsSession {W : Type 0} (clock : W → ℕ) (may_leave : W → ℕ → Images → Type 0) (held : W → Images)
    (pending : W → File → Pending) (beside : W → Beside) (machine : Machine) (back : Viewed) (old new : W)
    (result : Result Served SessionFault) : Type 0 where
  pub items : List Item
  pub revision : ℕ
  pub recovered : RecoversTo (held old chosen) items revision
  pub state : State
  pub stand : StandForBoth back machine.view items revision state
  pub turns : List Turn
  pub sent : AreSent turns (beside new).sends
  pub last : State
  pub steps : Steps machine state (exchanges turns) last
  -- one more, where the disk failed in its change
  pub further : List Turn
  pub begun : (after : State) × Steps machine state (exchanges (turns ++ further)) after
  pub ends : EndsBy result (beside new).taken turns further
  pub revision_is : IfOk result (λ served. served.revision ≡ last.revision)
  pub leaves : Moments clock may_leave old new
      (LeavesFound (server machine back state items revision) (exchanges (turns ++ further)) (beside new).sends)
  pub rested : IsStill (held old) (pending old) chosen → (images : Images) → may_leave old (clock old) images
      → LeavesFound (server machine back state items revision) (exchanges (turns ++ further)) (beside new).sends
      (clock old) images

-- The first of these that comes: the store's file breaks the grammar; a record isn't read by one of the releases; the
-- session. The disk may fail, and memory run out, at the opening too.
abbrev pub IsStoreEnd : {W : Type 0} → (W → ℕ) → (W → ℕ → Images → Type 0) → (W → Images) → (W → File → Pending)
    → (W → Beside) → Machine → Viewed → W → W → Result Served StoreFault → Type 0
IsStoreEnd clock may_leave held pending beside machine back old new (Ok served) =
    IsSession clock may_leave held pending beside machine back old new (Ok served)
IsStoreEnd clock may_leave held pending beside machine back old new (Err (fault.NotAStore file at)) =
    IsNoStore (held old chosen) file at × HoldSame (held old) (held new)
    × IsOpening clock may_leave held pending beside old new
IsStoreEnd clock may_leave held pending beside machine back old new (Err (fault.Undecodable key version minor)) =
    HasUnreadable back machine.view (held old chosen) key version minor × HoldSame (held old) (held new)
    × IsOpening clock may_leave held pending beside old new
IsStoreEnd clock may_leave held pending beside machine back old new (Err fault.Disk) =
    IsOpening clock may_leave held pending beside old new
    ⊎ IsSession clock may_leave held pending beside machine back old new (Err stop.Disk)
IsStoreEnd clock may_leave held pending beside machine back old new (Err fault.Front) =
    IsSession clock may_leave held pending beside machine back old new (Err stop.Front)
IsStoreEnd clock may_leave held pending beside machine back old new (Err fault.Spent) =
    IsSession clock may_leave held pending beside machine back old new (Err stop.Spent)
IsStoreEnd clock may_leave held pending beside machine back old new (Err fault.Memory) =
    IsOpening clock may_leave held pending beside old new
    ⊎ IsSession clock may_leave held pending beside machine back old new (Err stop.Memory)
