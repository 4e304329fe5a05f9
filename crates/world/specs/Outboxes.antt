-- The sends of a front in memory.
use Rattle.std.specs.Prelude.{ℕ, List}
use Rattle.disk.specs.Beside.{Sent}
use Rattle.world.specs.declared.sent.Sent.{Sent as Reply}

-- a reply, as it lies beside the disk
abbrev pub sent_of : Reply → Sent
sent_of r = record { at = r.at; seen = r.seen; c = r.c; bytes = r.bytes; last = r.last; went = r.went }

-- the replies that were sent, and the number of those that room was made for
pub record Replies : Type 0 where
  pub sends : List Sent
  pub spare : ℕ
