-- What each step of a session over a store gives: the opening, the start of a server, the session.
use Rattle.std.specs.Prelude.{ℕ, List, Result, Ok, Err}
use Rattle.disk.specs.Beside.{Beside}
use Rattle.disk.specs.Images.{Images}
use Rattle.object_journal.specs.Standing.{chosen}
use Rattle.object_store.specs.declared.item.Item.{Item}
use Rattle.release_view.specs.Views.{Viewed}
use Rattle.session_course.specs.Servers.{Server}
use Rattle.session_ends.specs.Ends.{Serves}
use Rattle.session_ends.specs.declared.fault.SessionFault.TheVariants as stop
use Rattle.session_ends.specs.declared.served.Served.{Served}
use Rattle.stored_state.specs.Reading.{IsFirstUnreadable}
use Rattle.store_session.specs.Opened.{HoldSame, IsNoStore}
use Rattle.store_session.specs.declared.fault.StoreFault.{StoreFault}
use Rattle.store_session.specs.declared.fault.StoreFault.TheVariants as fault

-- why an opening fails
abbrev pub MayFailOpening : StoreFault → Type 0
MayFailOpening (fault.NotAStore file at) = Unit {0}
MayFailOpening fault.Disk = Unit {0}
MayFailOpening fault.Memory = Unit {0}
MayFailOpening _ = ⊥

-- a store that is refused is as it was
abbrev pub IsOpeningEnd : Images → Images → StoreFault → Type 0
IsOpeningEnd old new (fault.NotAStore file at) = IsNoStore (old chosen) file at × HoldSame old new
IsOpeningEnd old new _ = Unit {0}

-- why no server starts from the records
abbrev pub IsStartEnd : Viewed → Viewed → List Item → StoreFault → Type 0
IsStartEnd back view items (fault.Undecodable key version minor) =
    IsFirstUnreadable back view items key version minor
IsStartEnd back view items fault.Memory = Unit {0}
IsStartEnd back view items _ = ⊥

-- what a session leaves, by the answer that stands for its own
abbrev pub ServesAs : {W : Type 0} → (W → ℕ) → (W → ℕ → Images → Type 0) → (W → Beside) → Server → Server → W → W
    → Result Served StoreFault → Type 0
ServesAs clock may_leave beside old new from to (Ok served) =
    Serves clock may_leave beside old new from to (Ok served)
ServesAs clock may_leave beside old new from to (Err fault.Disk) =
    Serves clock may_leave beside old new from to (Err stop.Disk)
ServesAs clock may_leave beside old new from to (Err fault.Front) =
    Serves clock may_leave beside old new from to (Err stop.Front)
ServesAs clock may_leave beside old new from to (Err fault.Spent) =
    Serves clock may_leave beside old new from to (Err stop.Spent)
ServesAs clock may_leave beside old new from to (Err fault.Memory) =
    Serves clock may_leave beside old new from to (Err stop.Memory)
ServesAs clock may_leave beside old new from to (Err _) = ⊥
