-- From what was taken of the source to the bytes that it held, where a history is served.
use Rattle.std.proofs.Common.{◌≡◌, ℕ, ◌≤◌, inl, inr, List, ◌++◌, length, Option, Some, None}
use Rattle.std.specs.Io.KnownBytes.{Consumes, IsAtEnd}
use Rattle.std.specs.Prelude.{IfNone}
use Rattle.commands.specs.declared.status.Status.{Status}
use Rattle.disk.specs.Beside.{Beside}
use Rattle.disk.specs.Images.{Images, Pending}
use Rattle.disk.specs.declared.file.File.{File}
use Rattle.served_history.specs.Releases.{FlagTexts}
use Rattle.emu_server.specs.Serving.{IsNotServed, IsServedFrom}
use Rattle.emu_server.proofs.HistoryLemmas.{accepted_up, refusal_up}
use Rattle.emu_server.proofs.TopLemmas.{held, of_held}

not_served_up : (v rest : List ℕ) (s : Status) (old new : Option (List ℕ)) → (length v ≤ 1048576 → v ≡ v ++ rest) → IsNotServed v s old new → IsNotServed (v ++ rest) s old new
not_served_up v rest s old new whole (inl h) = inl h
not_served_up v rest s old new whole (inr h) = inr (h.0, refusal_up v rest h.0 whole h.1, h.2)

module _ {W : Type 0} (tells : Type 0) (clock : W → ℕ) (may_leave : W → ℕ → Images → Type 0) (held_by : W → Images) (pending : W → File → Pending) (beside : W → Beside) (o : FlagTexts) (from to : W) (s : Status) (old new : Option (List ℕ)) where
  abbrev Served : List ℕ → Type 0
  Served bytes = IsServedFrom tells clock may_leave held_by pending beside bytes o from to s old new

  served_up : (v rest : List ℕ) → (length v ≤ 1048576 → v ≡ v ++ rest) → Served v → Served (v ++ rest)
  served_up v rest whole (inl h) = inl (h.0, not_served_up v rest s old new whole h.1)
  served_up v rest whole (inr h) = inr (h.0, accepted_up v rest h.0 whole h.1, h.2)

  pub served_held : (a b : Option (List ℕ)) (v : List ℕ) → Consumes a b v → (length v ≤ 1048576 → IsAtEnd b) → Served v → Served (held a v)
  served_held a b v taken end h = of_held Served a b v taken end (λ rest whole. served_up v rest whole) h

-- ---- the texts of a server

pub none_weaker : {A : Type 0} {P Q : Type 0} (r : Option A) → (P → Q) → IfNone r P → IfNone r Q
none_weaker None f h = f h
none_weaker (Some x) f h = tt
