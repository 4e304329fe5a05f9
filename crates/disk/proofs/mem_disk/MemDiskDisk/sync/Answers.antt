use Rattle.disk.proofs.TraitLemmas.{sync_leaves, sync_still, sync_failed}
use Rattle.disk.proofs.mem_disk.MemDiskDisk.sync.Goals as goal

pub returns-clause-still : goal.returns-clause-still
returns-clause-still c = sync_still c.args.self.now c.sync_call.new.self c.sync_call.ensures.past c.args.file c.sync_call.result c.sync_call.ensures.call

pub returns-clause-held : goal.returns-clause-held
returns-clause-held c = (sync_leaves c.args.self.now c.sync_call.new.self c.sync_call.ensures.past c.args.file c.sync_call.result c.sync_call.ensures.call).held

pub returns-clause-failed : goal.returns-clause-failed
returns-clause-failed c = sync_failed c.args.self.now c.sync_call.new.self c.sync_call.ensures.past c.args.file c.sync_call.result c.sync_call.ensures.call

pub returns-clause-others : goal.returns-clause-others
returns-clause-others c = (sync_leaves c.args.self.now c.sync_call.new.self c.sync_call.ensures.past c.args.file c.sync_call.result c.sync_call.ensures.call).others

pub returns-clause-time : goal.returns-clause-time
returns-clause-time c = (sync_leaves c.args.self.now c.sync_call.new.self c.sync_call.ensures.past c.args.file c.sync_call.result c.sync_call.ensures.call).time
