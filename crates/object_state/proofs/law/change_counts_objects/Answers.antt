use Rattle.object_state.proofs.StateLemmas.{one_more_object, as_many_objects, one_object_less}
use Rattle.object_state.proofs.law.change_counts_objects.Goals as goal

pub returns-clause-comes : goal.returns-clause-comes
returns-clause-comes c = λ new object changed is none. one_more_object c.args.objects.now new c.args.change.now object c.requires changed is none

pub returns-clause-stays : goal.returns-clause-stays
returns-clause-stays c = λ new object changed is has. as_many_objects c.args.objects.now new c.args.change.now object c.requires changed is has

pub returns-clause-goes : goal.returns-clause-goes
returns-clause-goes c = λ new changed is has. one_object_less c.args.objects.now new c.args.change.now c.requires changed is has
