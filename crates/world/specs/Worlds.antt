-- A world in memory: its calls.
use Rattle.std.specs.Prelude.{◌≡◌, ◌↔◌, ℕ, List, [], OnOk, OnErr, Contains, IsErr}
use Rattle.std.specs.declared.result.Result.{Result}
use Rattle.disk.specs.Beside.{Beside, FrontEvent}
use Rattle.disk.specs.Counted.{counted}
use Rattle.disk.specs.MemDisk.{MemRecord}
use Rattle.disk.specs.declared.failed.Failed.{Failed}

-- the disk, what lies beside it, the count of the calls of `next` and `send`, and the numbers of those that fail
pub record WorldRecord : Type 0 where
  pub disk : MemRecord
  pub beside : Beside
  pub calls : ℕ
  pub fails : List ℕ

-- a front of which nothing was taken, and by which nothing was sent
abbrev pub untouched : List FrontEvent → Beside
untouched coming = record { front_faults = 0; send_mark = 0; opened = 0; spare = 0; taken = []; coming = coming; sends = [] }

-- The call of this number fails exactly where it is listed. Each is counted, and a failure is counted as a fault.
pub record IsFrontCall {T : Type 0} (old new : WorldRecord) (result : Result T Failed) : Type 0 where
  pub listed : IsErr result ↔ Contains old.fails (counted old.calls)
  pub calls : new.calls ≡ counted old.calls
  pub fails : new.fails ≡ old.fails
  pub fine : OnOk result (new.beside.front_faults ≡ old.beside.front_faults)
  pub failed : OnErr result (new.beside.front_faults ≡ counted old.beside.front_faults)
