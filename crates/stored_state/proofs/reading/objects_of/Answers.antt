use Rattle.storage_version.proofs.ReadLemmas.{reads_once}
use Rattle.stored_state.proofs.ReadingLemmas.{next_objects, next_both, first_fault}
use Rattle.stored_state.proofs.reading.objects_of.Goals as goal

pub returns-in-Err-clause-err : goal.returns-in-Err-clause-err
returns-in-Err-clause-err c =
    first_fault c.args.back.now c.args.view.now c.args.items.now c.loop-item.item-index c.item-item.result c.in-Err.fault c.loop-item-test.true c.item-item.is c.loop-item.invariant.both c.in-Err.ensures.err

pub loop-item-preserved : goal.loop-item-preserved
loop-item-preserved c = record {
  objects = next_objects c.args.view.now.versions (reads_once c.args.view.now.versions) c.args.items.now c.loop-item.item-index c.item-item.result c.loop-item.objects.items c.add.new.objects.items
      c.requires c.loop-item-test.true c.item-item.is c.loop-item.invariant.objects c.in-Ok.ensures.with;
  both = next_both c.args.back.now c.args.view.now c.args.items.now c.loop-item.item-index c.item-item.result c.loop-item-test.true c.item-item.is c.loop-item.invariant.both c.in-Ok.ensures.both;
}
