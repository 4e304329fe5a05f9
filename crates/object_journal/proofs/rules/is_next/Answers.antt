use Rattle.std.proofs.Common.{◌+◌, arith}
use Rattle.object_journal.proofs.RuleLemmas.{next_above, is_true_equal, equal_is_true}
use Rattle.object_journal.proofs.rules.is_next.Goals as goal

pub returns-else-greatest-base : goal.returns-else-greatest-base
returns-else-greatest-base c = λ before is.
    let first = c.if-revision-eq0.false in
    let both = next_above c.args.base c.args.greatest c.args.revision before is c.if-greatest-base.false (omega (arith, first)) c.if-revision-gt-LAST_REVISION.false in (
      (λ t. both.0 (is_true_equal c.args.revision (c.args.greatest + 1) t)),
      (λ next. equal_is_true c.args.revision (c.args.greatest + 1) (both.1 next)),
    )
