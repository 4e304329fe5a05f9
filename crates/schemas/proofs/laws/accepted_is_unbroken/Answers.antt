use Rattle.std.proofs.Common.{subst}
use Rattle.schemas.specs.Rules.{checks}
use Rattle.schemas.specs.Dated.{IsShaped}
use Rattle.schemas.proofs.JoinLemmas.{accepted_unbroken, unbroken_accepted}
use Rattle.schemas.proofs.LawLemmas.{no_first_fault}
use Rattle.schemas.proofs.laws.accepted_is_unbroken.Goals as goal

pub returns : goal.returns
returns c =
    let shaped = subst IsShaped c.h.view_is c.h.invariant in
    record {
      whole = (accepted_unbroken c.args.h.now shaped, unbroken_accepted c.args.h.now shaped);
      excluded = λ r a n accepted. no_first_fault c.args.h.now checks r a n (accepted_unbroken c.args.h.now shaped accepted);
    }
