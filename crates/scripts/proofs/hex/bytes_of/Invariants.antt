use Rattle.std.proofs.Common.{◌≡◌, ◌<◌, ◌+◌, ◌*◌, ℕ, length, slice_index}
use Rattle.scripts.specs.Writing.{IsHexByte}
use Rattle.scripts.proofs.hex.bytes_of.Given as goal

abbrev pub invariant-loop-k : goal.invariant-loop-k
invariant-loop-k l = record {
  count : length l.bytes.items ≡ l.k;
  each : (j : ℕ) → j < l.k
      → IsHexByte (slice_index l.hex (2 * j)) (slice_index l.hex (2 * j + 1)) (slice_index l.bytes.items j);
}
