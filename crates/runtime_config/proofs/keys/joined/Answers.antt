use Rattle.std.proofs.Common.{sym, ◌∙◌}
use Rattle.runtime_config.proofs.KeyLemmas.{group_version_some, IfOk-map}
use Rattle.runtime_config.proofs.keys.joined.Goals as goal

pub returns-else-is_empty : goal.returns-else-is_empty
returns-else-is_empty c = IfOk-map c.with_slash.result _ _ (λ s is. is ∙ group_version_some c.args.group.now c.args.version.now (sym c.is_empty.ensures ∙ c.if-is_empty.false)) c.with_slash.ensures
