use Rattle.history_rules.proofs.api_rules.has_core_version.Goals as goal

pub returns-then-is_core : goal.returns-then-is_core
returns-then-is_core c = (λ one core. c.is_version_one.ensures.0 one, λ only. c.is_version_one.ensures.1 (only (c.is_core.ensures.0 c.if-is_core.true)))
