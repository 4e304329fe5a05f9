use Rattle.disk.proofs.TraitLemmas.{write_leaves, write_written, write_failed, write_kept, write_too_far}
use Rattle.disk.proofs.mem_disk.MemDiskDisk.write_at.Goals as goal

pub returns-clause-written : goal.returns-clause-written
returns-clause-written c = write_written c.args.self.now c.write_call.new.self c.write_call.ensures.past c.args.file c.args.at c.args.bytes.now c.requires c.write_call.result c.write_call.ensures.call c.write_call.ensures.short

pub returns-clause-failed : goal.returns-clause-failed
returns-clause-failed c = write_failed c.args.self.now c.write_call.new.self c.write_call.ensures.past c.args.file c.args.at c.args.bytes.now c.requires c.write_call.result c.write_call.ensures.call

pub returns-clause-too_far : goal.returns-clause-too_far
returns-clause-too_far c = write_too_far c.args.self.now c.write_call.new.self c.write_call.ensures.past c.args.file c.args.at c.args.bytes.now c.requires c.write_call.result c.write_call.ensures.call

pub returns-clause-others : goal.returns-clause-others
returns-clause-others c = (write_leaves c.args.self.now c.write_call.new.self c.write_call.ensures.past c.args.file c.args.at c.args.bytes.now c.requires c.write_call.result c.write_call.ensures.call c.write_call.ensures.short).others

pub returns-clause-pending : goal.returns-clause-pending
returns-clause-pending c = (write_leaves c.args.self.now c.write_call.new.self c.write_call.ensures.past c.args.file c.args.at c.args.bytes.now c.requires c.write_call.result c.write_call.ensures.call c.write_call.ensures.short).pending

pub returns-clause-time : goal.returns-clause-time
returns-clause-time c = (write_leaves c.args.self.now c.write_call.new.self c.write_call.ensures.past c.args.file c.args.at c.args.bytes.now c.requires c.write_call.result c.write_call.ensures.call c.write_call.ensures.short).time

pub returns-clause-kept : goal.returns-clause-kept
returns-clause-kept c = write_kept c.args.self.now c.write_call.new.self c.write_call.ensures.past c.args.file c.args.at c.args.bytes.now c.requires c.write_call.result c.write_call.ensures.call
