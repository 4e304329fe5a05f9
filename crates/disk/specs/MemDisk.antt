-- A disk in memory: what it held at first, and its calls.
use Rattle.std.specs.Prelude.{◌≡◌, ◌⊎◌, ℕ, ◌+◌, ◌-◌, ◌^◌, ◌≤◌, ◌&&◌, nat_le, nat_lt, if◌then◌else◌, List, [], ◌∷◌, ◌++◌, length, take, Contains, OnOk, OnErr, IsErr}
use Rattle.std.specs.declared.result.Result.{Result}
use Rattle.disk.specs.Counted.{counted}
use Rattle.disk.specs.Images.{Pending, Images, Each, resting, after_write, after_cut, same_file, end_of_lengths, patched}
use Rattle.disk.specs.Slots.{Three, file_of}
use Rattle.disk.specs.declared.file.File.{File}
use Rattle.disk.specs.declared.failed.Failed.{Failed}
use Rattle.disk.specs.declared.log.Entry.{Entry}
use Rattle.disk.specs.declared.log.Change.{Change}
use Rattle.disk.specs.declared.log.Change.TheVariants.{Wrote, WriteFailed, Cut, CutFailed, Synced}

-- what a file holds, and what is pending
pub record State : Type 0 where
  pub held : List ℕ
  pub pending : Pending

abbrev pub resting_state : List ℕ → State
resting_state bytes = record { held = bytes; pending = resting bytes }

-- a change of the file
abbrev pub step : Change → State → State
step (Wrote at bytes) s = if nat_le at (length s.held) && nat_lt (at + length bytes) end_of_lengths
    then record { held = patched s.held at bytes; pending = after_write at (length bytes) s.pending }
    else s
step (WriteFailed at n) s = record { held = s.held; pending = after_write at n s.pending }
step (Cut to) s = record { held = take to s.held; pending = after_cut to s.pending }
step (CutFailed to) s = record { held = s.held; pending = after_cut to s.pending }
step Synced s = resting_state s.held

-- changes after which the file holds what it held
abbrev pub KeepsHeld : Change → Type 0
KeepsHeld (WriteFailed at n) = Unit {0}
KeepsHeld (CutFailed to) = Unit {0}
KeepsHeld Synced = Unit {0}
KeepsHeld (Wrote at bytes) = ⊥
KeepsHeld (Cut to) = ⊥

-- an entry, for one file, where it is no later than a moment
abbrev pub entered : ℕ → File → Entry → State → State
entered t f e s = if nat_le e.moment t && same_file f e.file then step e.change s else s

abbrev pub replay : ℕ → File → List Entry → State → State
replay t f [] s = s
replay t f (e ∷ es) s = replay t f es (entered t f e s)

-- a file at a moment
abbrev pub state_in : Three → List Entry → ℕ → File → State
state_in first log t f = replay t f log (resting_state (file_of first f))

-- no entry is later than the clock
abbrev pub InPast : ℕ → List Entry → Type 0
InPast clock [] = Unit {0}
InPast clock (e ∷ es) = (e.moment ≤ clock) × InPast clock es

-- what the files held at first and what was done to them; the clock; the counts of faults, of calls that found no
-- memory, and of all calls; the numbers of the calls that fail
pub record MemRecord : Type 0 where
  pub first : Three
  pub log : List Entry
  pub clock : ℕ
  pub faults : ℕ
  pub starved : ℕ
  pub calls : ℕ
  pub fails : List ℕ

abbrev pub state_at : MemRecord → ℕ → File → State
state_at d t f = state_in d.first d.log t f

abbrev pub mem_held : MemRecord → Images
mem_held d f = (state_at d d.clock f).held

abbrev pub mem_pending : MemRecord → File → Pending
mem_pending d f = (state_at d d.clock f).pending

-- a stop at a moment may leave whatever the model describes
abbrev pub mem_may_leave : MemRecord → ℕ → Images → Type 0
mem_may_leave d t images = Each (λ f. (state_at d t f).pending) images

-- a disk to which nothing was done
abbrev pub fresh : Three → List ℕ → MemRecord
fresh first fails = record { first = first; log = []; clock = 0; faults = 0; starved = 0; calls = 0; fails = fails }

-- the parts of a call: it is counted, the clock rises, it fails, it finds no memory, its change is recorded
abbrev pub called : MemRecord → MemRecord
called d = record d { calls = counted d.calls }

abbrev pub ticked : MemRecord → MemRecord
ticked d = record d { clock = d.clock + 1 }

abbrev pub blamed : MemRecord → MemRecord
blamed d = record d { faults = counted d.faults }

abbrev pub hungry : MemRecord → MemRecord
hungry d = record d { faults = counted d.faults; starved = counted d.starved }

abbrev pub noted : MemRecord → File → Change → MemRecord
noted d file change = record d { log = d.log ++ record { moment = d.clock; file = file; change = change } ∷ [] }

-- the call is one of those that fail
abbrev pub IsListed : MemRecord → Type 0
IsListed d = Contains d.fails (counted d.calls)

-- A call that failed: at the end of the clock; for want of memory; or since it is listed or is a write that would reach
-- too far, and then it is recorded so.
abbrev pub HasFailed : MemRecord → MemRecord → Type 0 → (MemRecord → MemRecord) → Type 0
HasFailed old new TooFar recorded =
    ((old.clock ≡ 2 ^ 64 - 1) × (new ≡ blamed (called old)))
    ⊎ (new ≡ hungry (ticked (called old)))
    ⊎ ((IsListed old ⊎ TooFar) × (new ≡ blamed (recorded (ticked (called old)))))

-- A call that may change a file: what it does where it is good, and where it fails. At the end of the clock, where it
-- is listed or would reach too far, it fails.
pub record IsCall (old new : MemRecord) (TooFar : Type 0) (good bad : MemRecord → MemRecord) (result : Result Unit Failed) : Type 0 where
  pub ok : OnOk result (new ≡ good (ticked (called old)))
  pub err : OnErr result (HasFailed old new TooFar bad)
  pub refused : IsListed old ⊎ TooFar → IsErr result
  pub ended : old.clock ≡ 2 ^ 64 - 1 → IsErr result × (new ≡ blamed (called old))

abbrev pub IsWriteCall : MemRecord → MemRecord → File → ℕ → List ℕ → Result Unit Failed → Type 0
IsWriteCall old new file at bytes result =
    IsCall old new (end_of_lengths ≤ at + length bytes)
    (λ d. noted d file (Wrote at bytes)) (λ d. noted d file (WriteFailed at (length bytes))) result

abbrev pub IsCutCall : MemRecord → MemRecord → File → ℕ → Result Unit Failed → Type 0
IsCutCall old new file to result = IsCall old new ⊥ (λ d. noted d file (Cut to)) (λ d. noted d file (CutFailed to)) result

-- a sync that fails leaves what was pending
abbrev pub IsSyncCall : MemRecord → MemRecord → File → Result Unit Failed → Type 0
IsSyncCall old new file result = IsCall old new ⊥ (λ d. noted d file Synced) (λ d. d) result
