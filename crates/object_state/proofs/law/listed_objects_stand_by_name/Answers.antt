use Rattle.key_order.proofs.StretchLemmas.{by_namespace_then_name, inside_by_name}
use Rattle.object_state.proofs.StateLemmas.{key_of}
use Rattle.object_state.proofs.law.listed_objects_stand_by_name.Goals as goal

pub returns-clause-whole : goal.returns-clause-whole
returns-clause-whole c = by_namespace_then_name key_of c.args.objects.now c.args.group.now c.args.resource.now c.requires

pub returns-clause-inside : goal.returns-clause-inside
returns-clause-inside c = inside_by_name key_of c.args.objects.now c.args.group.now c.args.resource.now c.args.namespace.now c.requires
