use Rattle.request_target.proofs.TextLemmas.{name_text, some_namespace_text}
use Rattle.request_target.proofs.asked.object_in.Goals as goal

pub returns-in-Some-clause-told : goal.returns-in-Some-clause-told
returns-in-Some-clause-told c = (
  c.in-Some.ensures.told,
  some_namespace_text c.args.namespace.now c.args.of.resource.now c.requires.namespace,
  name_text c.args.name.now c.requires.name,
)
