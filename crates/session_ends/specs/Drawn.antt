-- How far the events of a front were taken.
use Rattle.std.specs.Prelude.{◌≡◌, ◌≤◌, ℕ, List, [], ◌∷◌, ◌++◌, All, length, replicate}
use Rattle.disk.specs.Beside.{Beside, FrontEvent, Opened, Piece, Closed, End}
use Rattle.scripts.specs.Lawful.{IsLawful}
use Rattle.scripts.specs.declared.script.ScriptEvent.{ScriptEvent}
use Rattle.session_turns.specs.Turns.{HasNoEnd}
use Rattle.world.specs.Tapes.{left_by, parts_of, told}

-- so many calls with buffers of this size took the first of the events that were to come
pub record HasDrawn (room : ℕ) (old new : Beside) : Type 0 where
  pub calls : ℕ
  pub taken : new.taken ≡ old.taken ++ parts_of (replicate calls room) old.coming
  pub coming : new.coming ≡ left_by (replicate calls room) old.coming

-- the event has room in such a buffer
abbrev pub Fits : ℕ → FrontEvent → Type 0
Fits room (Opened c) = Unit {0}
Fits room (Piece c bytes) = length bytes ≤ room
Fits room (Closed c) = Unit {0}
Fits room End = Unit {0}

-- Where the events to come had room and an end, and the end was taken, all of them were taken.
abbrev pub TakesAll : Type 0
TakesAll = (room : ℕ) (old new : Beside) (events before : List FrontEvent) → HasDrawn room old new
    → old.taken ≡ [] → old.coming ≡ events ++ End ∷ [] → HasNoEnd events → All (Fits room) old.coming
    → new.taken ≡ before ++ End ∷ [] → new.taken ≡ old.coming

-- So it is with the events of a script.
abbrev pub TakesScript : Type 0
TakesScript = (room : ℕ) (old new : Beside) (script : List ScriptEvent) (before : List FrontEvent)
    → 4096 ≤ room → IsLawful script → HasDrawn room old new → old.taken ≡ [] → old.coming ≡ told script
    → new.taken ≡ before ++ End ∷ [] → new.taken ≡ told script
