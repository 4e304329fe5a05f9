-- The next event of a front, and what it needs.
use Rattle.std.proofs.Common.{◌≡◌, ◌≢◌, ◌≤◌, ◌+◌, ℕ, List, [], ◌∷◌, ◌++◌, Option, Result, Err, IsErrOf, Contains, refl, sym, ◌∙◌, ap, arith}
use Rattle.std.proofs.lemmas.List.Elements.{All-contains}
use Rattle.api_requests.specs.declared.fault.HandleFault.{HandleFault}
use Rattle.api_requests.specs.declared.fault.HandleFault.TheVariants as handle
use Rattle.conn_mux.specs.Held.{Held}
use Rattle.disk.specs.Beside.{Beside, FrontEvent, End}
use Rattle.session.specs.Calls.{CanServe, session_fault}
use Rattle.session.specs.Comings.{TakesEvent}
use Rattle.session_ends.specs.Pieces.{AreFresh}
use Rattle.session_ends.specs.declared.fault.SessionFault.{SessionFault}
use Rattle.session_ends.specs.declared.fault.SessionFault.TheVariants as fault
use Rattle.session_turns.specs.Turns.{HasNoEnd}
use Rattle.world.specs.Events.{front_event}
use Rattle.world.specs.Fronts.{IsNumbered, TakesOne}
use Rattle.world.specs.declared.event.Event.{Event}
use Rattle.world.specs.declared.event.Event.TheVariants.{Opened as GivesOpened, Piece as GivesPiece, Closed as GivesClosed, End as GivesEnd}

pub can_serve : (room before now : ℕ) (event : Event) (held : Held) → IsNumbered room event before now → AreFresh before held → CanServe room event now held
can_serve room before now (GivesOpened c) held h fresh =
    let (at, next) = h in
    let from : before ≤ c = omega (arith, at) in
    (omega (arith, at, next), fresh c from)
can_serve room before now (GivesPiece c n) held h fresh =
    let (of, some, within, same) = h in
    (omega (arith, of, same), within)
can_serve room before now (GivesClosed c) held h fresh =
    let (of, same) = h in
    omega (arith, of, same)
can_serve room before now GivesEnd held h fresh = tt

pub opened_later : (room before now : ℕ) (event : Event) → IsNumbered room event before now → before ≤ now
opened_later room before now (GivesOpened c) h =
    let (at, next) = h in
    omega (arith, next)
opened_later room before now (GivesPiece c n) h =
    let (of, some, within, same) = h in
    omega (arith, same)
opened_later room before now (GivesClosed c) h =
    let (of, same) = h in
    omega (arith, same)
opened_later room before now GivesEnd h = omega (arith, h)

pub not_end : (event : Event) (buffer : List ℕ) → event ≢ GivesEnd → front_event event buffer ≢ End
not_end (GivesOpened c) buffer other same = absurd (let h : front_event (GivesOpened c) buffer ≡ End = same in cc)
not_end (GivesPiece c n) buffer other same = absurd (let h : front_event (GivesPiece c n) buffer ≡ End = same in cc)
not_end (GivesClosed c) buffer other same = absurd (let h : front_event (GivesClosed c) buffer ≡ End = same in cc)
not_end GivesEnd buffer other same = absurd (other refl)

-- ---- the disk failed, as the session answers it

pub disk_there : (r : Result ℕ HandleFault) (e : HandleFault) (other : SessionFault) → r ≡ Err e → other ≡ session_fault e → IsErrOf {T = Option ℕ} (Err other) fault.Disk → IsErrOf {T = ℕ} r handle.Disk
disk_there r handle.Disk other is same failed = is
disk_there r handle.Memory other is same failed =
    absurd (let h : Err fault.Memory ≡ Err fault.Disk = ap Err (sym same) ∙ failed in cc)

pub disk_back : (r : Result ℕ HandleFault) (e : HandleFault) (other : SessionFault) → r ≡ Err e → other ≡ session_fault e → IsErrOf {T = ℕ} r handle.Disk → IsErrOf {T = Option ℕ} (Err other) fault.Disk
disk_back r handle.Disk other is same failed = ap Err same
disk_back r handle.Memory other is same failed =
    absurd (let h : Err handle.Memory ≡ Err handle.Disk = sym is ∙ failed in cc)

-- ---- the events that were taken

pub not_ended : (taken : List FrontEvent) → HasNoEnd taken → ¬ Contains taken End
not_ended taken none held = All-contains (λ (x : FrontEvent). x ≢ End) taken End none held refl

pub takes_event : (old mid new : Beside) (event : FrontEvent) → HasNoEnd old.taken → event ≢ End → TakesOne event old mid → new.taken ≡ mid.taken → TakesEvent old.taken new.taken event
takes_event old mid new event none other one same = record { taken = same ∙ one.going (not_ended old.taken none); going = other }

pub takes_end : (old mid : Beside) → HasNoEnd old.taken → TakesOne End old mid → mid.taken ≡ old.taken ++ End ∷ []
takes_end old mid none one = one.going (not_ended old.taken none)

pub not_front : (e : HandleFault) (other : SessionFault) → other ≡ session_fault e → IsErrOf {T = Option ℕ} (Err other) fault.Front → ⊥
not_front handle.Disk other same failed =
    absurd (let h : Err fault.Disk ≡ Err fault.Front = ap Err (sym same) ∙ failed in cc)
not_front handle.Memory other same failed =
    absurd (let h : Err fault.Memory ≡ Err fault.Front = ap Err (sym same) ∙ failed in cc)
