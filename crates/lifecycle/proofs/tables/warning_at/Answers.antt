use Rattle.std.proofs.Common.{sym, ◌∙◌}
use Rattle.lifecycle.specs.Entry.{named}
use Rattle.lifecycle.proofs.TableLemmas.{warning_by}
use Rattle.lifecycle.proofs.tables.warning_at.Goals as goal

pub returns-in-Some-clause-told : goal.returns-in-Some-clause-told
returns-in-Some-clause-told c =
    c.warning.ensures.told ∙ warning_by c.args.entries.now c.args.e (named c.args.name) _ (sym c.live_at.ensures.tables ∙ c.if-not-live_at.false) c.in-Some.ensures

pub returns-in-None-clause-told : goal.returns-in-None-clause-told
returns-in-None-clause-told c =
    warning_by c.args.entries.now c.args.e (named c.args.name) _ (sym c.live_at.ensures.tables ∙ c.if-not-live_at.false) c.in-None.ensures
