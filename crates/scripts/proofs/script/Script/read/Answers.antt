use Rattle.std.proofs.Common.{ℕ, ◌<◌, List, [], Bor, length}
use Rattle.scripts.specs.Lines.{lines}
use Rattle.scripts.proofs.WritingLemmas.{none_holds, some_holds}
use Rattle.scripts.proofs.ReadingLemmas.{bad_read, more_read}
use Rattle.scripts.proofs.script.Script.read.Goals as goal

pub returns-in-Ok-None-clause-err : goal.returns-in-Ok-None-clause-err
returns-in-Ok-None-clause-err c =
    let items : List (Bor (List ℕ)) = c.deref-line-items.result.now in
    let below : c.loop-index.index < length items = c.loop-index-test.true in
    bad_read items (lines c.args.text.now) c.loop-index.index (record { ref_ptr = (0, 0); now = [] }) c.loop-index.reading c.loop-index.invariant.whole below c.loop-index.invariant.read (none_holds c.in-Ok-None.field-0 _ c.in-Ok-None.field-0-is c.in-Ok-None.ensures.none)

pub loop-index-preserved : goal.loop-index-preserved
loop-index-preserved c =
    let items : List (Bor (List ℕ)) = c.deref-line-items.result.now in
    let below : c.loop-index.index < length items = c.loop-index-test.true in
    record {
      read = more_read items c.loop-index.index (record { ref_ptr = (0, 0); now = [] }) c.loop-index.reading c.in-Ok-Some.next below c.loop-index.invariant.read (some_holds c.in-Ok-Some.field-0 c.in-Ok-Some.next _ c.in-Ok-Some.field-0-is c.in-Ok-Some.ensures.some);
      whole = c.loop-index.invariant.whole;
    }
