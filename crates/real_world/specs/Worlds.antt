-- What lies beside the disk of a world, and what its script brings. Events and sends aren't told.
use Rattle.std.specs.Prelude.{◌≡◌, ℕ, List, [], Option, IsNone}
use Rattle.disk.specs.Beside.{Beside}
use Rattle.scripts.specs.declared.script.ScriptEvent.{ScriptEvent}
use Rattle.scripts.specs.Reading.{Means}
use Rattle.world.specs.Events.{front_event}
use Rattle.world.specs.Tapes.{Told, TakesNext, told}
use Rattle.world.specs.declared.event.Event.{Event}
use Rattle.real_world.specs.Opened.{opened_by}
use Rattle.real_world.specs.declared.real.RealWorld.{RealWorld}
use Rattle.real_world.specs.declared.clients.Clients.{Clients}
use Rattle.real_world.specs.declared.clients.Clients.TheVariants.{Nobody, Script, Listening}

abbrev pub beside_of : {F D R : Type 0} → RealWorld F D R → Beside
beside_of w = record {
  front_faults = w.front_faults;
  send_mark = w.send_mark;
  opened = opened_by w.clients;
  spare = w.outgoing.spare;
  taken = [];
  coming = [];
  sends = [];
}

-- a world without a store has no disk, and nobody connects
abbrev pub IsMissing : {D : Type 0} → Option D → Clients → Type 0
IsMissing disk clients = IsNone disk × (clients ≡ Nobody)

-- the events of the script that some text means are to come
abbrev pub BringsScript : Clients → Type 0
BringsScript clients =
    (text : List ℕ) × (events : List ScriptEvent) × Means text events
    × (clients ≡ Script (record { opened = 0; taken = []; coming = told events }))

-- where a script brings the events, a buffer of this size takes the first of those to come
abbrev pub TakesOfScript : ℕ → Event → List ℕ → Clients → Clients → Type 0
TakesOfScript room event buffer Nobody new = Unit {0}
TakesOfScript room event buffer (Script tape) new =
    (later : Told) × (new ≡ Script later) × TakesNext room (front_event event buffer) tape later
TakesOfScript room event buffer (Listening listener) new = Unit {0}
