use Rattle.std.proofs.Common.{sym, ap, ◌∙◌}
use Rattle.lifecycle.specs.Entry.{subject}
use Rattle.lifecycle.specs.Tables.{live}
use Rattle.runtime_config.specs.Config.{enabled_by_default}
use Rattle.runtime_config.proofs.ServedLemmas.{on_where}
use Rattle.runtime_config.proofs.served.is_on.Goals as goal

pub returns-then-is_live : goal.returns-then-is_live
returns-then-is_live c =
    on_where c.args.index.now c.args.booleans.now (subject c.args.row.now.entry.now) _ _ _ c.is_enabled.result c.is_switched_on.result (ap (λ n. n.version) c.name-name.ensures) (c.as_bytes.ensures.value ∙ c.requires.resource)
    (c.as_bytes-then-is_live.ensures.value ∙ c.requires.version) (c.is_enabled.ensures ∙ ap (enabled_by_default c.args.index.now) c.name-name.ensures)
    (ap (live c.args.index.now) (sym c.name-name.ensures) ∙ sym c.is_live.ensures ∙ c.if-is_live.true) c.is_switched_on.ensures
