use Rattle.std.proofs.Common.{sym, subst}
use Rattle.std.proofs.lemmas.Result.{IfOk-weaker}
use Rattle.object_journal.specs.Journal.{IsJournal}
use Rattle.object_journal.specs.Standing.{chosen, StandsOn}
use Rattle.object_journal.proofs.opening.open_journal.Goals as goal

pub returns-clause-stands : goal.returns-clause-stands
returns-clause-stands g c =
    let d = g.D.Disk in
    let now = c.open_journal_into.new.disk in
    IfOk-weaker c.open_journal_into.result _ _ (λ r o. subst (StandsOn d.tells (d.held now) (d.pending now) r.0) (sym o.1) o.2) c.open_journal_into.ensures.opened

pub returns-clause-means : goal.returns-clause-means
returns-clause-means g c told =
    let d = g.D.Disk in
    IfOk-weaker c.open_journal_into.result _ _ (λ r o. subst (IsJournal (d.held c.args.disk.now chosen) r.0.base) (sym o.1) (o.3 told)) c.open_journal_into.ensures.opened
