use Rattle.object_state.specs.Room.{objects_in}
use Rattle.object_state.proofs.StateLemmas.{put_change, removal_change}
use Rattle.object_state.proofs.room.make.Goals as goal

pub returns-in-Some-clause-changed : goal.returns-in-Some-clause-changed
returns-in-Some-clause-changed c = put_change (objects_in c.args.objects.now) (objects_in c.put_in.new.objects) c.args.change c.in-Some.object c.in-Some.is c.put_in.ensures.changed

pub returns-in-None-clause-changed : goal.returns-in-None-clause-changed
returns-in-None-clause-changed c = removal_change (objects_in c.args.objects.now) (objects_in c.take_from.new.objects) c.args.change c.in-None.is c.take_from.ensures
