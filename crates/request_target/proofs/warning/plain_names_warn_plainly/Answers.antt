use Rattle.request_target.proofs.PlainLemmas.{warns_plainly}
use Rattle.request_target.proofs.warning.plain_names_warn_plainly.Goals as goal

pub returns : goal.returns
returns c = warns_plainly c.args.view.now c.requires
