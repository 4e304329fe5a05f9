-- What a call that takes a disk leaves besides its subject.
use Rattle.std.specs.Prelude.{◌≡◌, ℕ, ◌≤◌}
use Rattle.basis.specs.Counts.{Rose}
use Rattle.disk.specs.Beside.{Beside}

-- What lies beside the disk stays. The count of faults never falls: it rises where the answer is that
-- the disk failed, and else it stays.
pub record Spares {D : Type 0} (beside : D → Beside) (faults : D → ℕ) (old new : D) (failed : Type 0) : Type 0 where
  pub same : beside new ≡ beside old
  pub later : faults old ≤ faults new
  pub cause : failed → Rose (faults old) (faults new)
  pub fine : ¬ failed → faults new ≡ faults old
