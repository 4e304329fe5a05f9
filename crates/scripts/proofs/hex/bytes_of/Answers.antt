use Rattle.std.proofs.Common.{◌+◌, ℕ, length, slice_index, arith, ap, ◌∙◌}
use Rattle.std.proofs.lemmas.List.{length_push}
use Rattle.scripts.proofs.HexLemmas.{each_more, hex_whole}
use Rattle.scripts.proofs.hex.bytes_of.Goals as goal

pub returns-in_default-clause-none : goal.returns-in_default-clause-none
returns-in_default-clause-none c = λ bytes h.
    let two = h.two in
    c.in_default.ensures.none (slice_index bytes c.loop-k.k) (h.each c.loop-k.k (omega arith))

pub loop-k-preserved : goal.loop-k-preserved
loop-k-preserved c =
    record {
      count = ap length c.in-Ok.ensures.items ∙ length_push _ _ ∙ ap (λ (n : ℕ). n + 1) c.loop-k.invariant.count;
      each = each_more c.args.hex.now c.loop-k.bytes.items _ c.loop-k.k c.in-Some.byte c.loop-k.invariant.count c.in-Ok.ensures.items c.loop-k.invariant.each c.in-Some.ensures.some;
    }

pub returns-clause-some : goal.returns-clause-some
returns-clause-some c =
    hex_whole c.args.hex.now c.loop-k.bytes.items _ c.loop-k.k c.if-hex-eq1.false (omega arith) c.loop-k.invariant.count c.loop-k.invariant.each (c.in_ok-copy.ensures ∙ c.as_slice.ensures.value)
