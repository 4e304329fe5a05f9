use Rattle.std.proofs.Common.{refl}
use Rattle.gate_flags.proofs.LookupLemmas.{known_at}
use Rattle.gate_flags.proofs.known.known_gates.Goals as goal

pub loop-entry-preserved : goal.loop-entry-preserved
loop-entry-preserved c =
    known_at c.args.entries.now c.loop-entry.entry-index c.entry-item.result c.args.e c.loop-entry.known c.insert.new.self _ c.bytes-bytes.result.now c.spec_in.result c.requires c.loop-entry-test.true c.entry-item.is c.loop-entry.invariant
    c.bytes-bytes.ensures c.spec_in.ensures refl c.after-spec.ensures.known c.in_ok-insert.ensures.ordered c.in_ok-insert.ensures.updates
