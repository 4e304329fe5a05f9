use Rattle.disk.proofs.TraitLemmas.{cut_leaves, cut_shortened, cut_failed, cut_kept}
use Rattle.disk.proofs.mem_disk.MemDiskDisk.cut.Goals as goal

pub returns-clause-shortened : goal.returns-clause-shortened
returns-clause-shortened c = cut_shortened c.args.self.now c.cut_call.new.self c.cut_call.ensures.past c.args.file c.args.to c.cut_call.result c.cut_call.ensures.call

pub returns-clause-failed : goal.returns-clause-failed
returns-clause-failed c = cut_failed c.args.self.now c.cut_call.new.self c.cut_call.ensures.past c.args.file c.args.to c.cut_call.result c.cut_call.ensures.call

pub returns-clause-others : goal.returns-clause-others
returns-clause-others c = (cut_leaves c.args.self.now c.cut_call.new.self c.cut_call.ensures.past c.args.file c.args.to c.cut_call.result c.cut_call.ensures.call).others

pub returns-clause-pending : goal.returns-clause-pending
returns-clause-pending c = (cut_leaves c.args.self.now c.cut_call.new.self c.cut_call.ensures.past c.args.file c.args.to c.cut_call.result c.cut_call.ensures.call).pending

pub returns-clause-time : goal.returns-clause-time
returns-clause-time c = (cut_leaves c.args.self.now c.cut_call.new.self c.cut_call.ensures.past c.args.file c.args.to c.cut_call.result c.cut_call.ensures.call).time

pub returns-clause-kept : goal.returns-clause-kept
returns-clause-kept c = cut_kept c.args.self.now c.cut_call.new.self c.cut_call.ensures.past c.args.file c.args.to c.cut_call.result c.cut_call.ensures.call
