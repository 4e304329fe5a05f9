use Rattle.request_target.proofs.TextLemmas.{namespace_text}
use Rattle.request_target.proofs.asked.inside_in.Goals as goal

pub returns-in-Some-clause-told : goal.returns-in-Some-clause-told
returns-in-Some-clause-told c = (c.in-Some.ensures.told, namespace_text c.args.namespace.now c.requires)
