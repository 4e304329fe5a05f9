use Rattle.std.proofs.Common.{◌≡◌, ℕ, List, Option, IfOk, sym, subst}
use Rattle.commands.specs.Answers.{Meets}
use Rattle.commands.specs.Discover.{IsListing}
use Rattle.commands.specs.Gates.{IsGateListing}
use Rattle.commands.specs.Work.{IsWork}
use Rattle.commands.proofs.plain.work.Goals as goal
use Rattle.words.specs.declared.command.Command.{Command}

pub returns-in-Discover : goal.returns-in-Discover
returns-in-Discover c =
    subst (λ (x : Command). IfOk c.answer-in-Discover.result (Meets (IsWork x c.args.accepted.now))) (sym c.in-Discover.is)
    (subst (λ (p : Option (List ℕ) × Option (List ℕ)). IfOk c.answer-in-Discover.result (Meets (IsListing p.0 p.1 c.args.accepted.now))) (λ i. (c.given.ensures i, c.given-in-Discover.ensures i)) c.answer-in-Discover.ensures)

pub returns-in-Gates : goal.returns-in-Gates
returns-in-Gates c =
    subst (λ (x : Command). IfOk c.answer-in-Gates.result (Meets (IsWork x c.args.accepted.now))) (sym c.in-Gates.is)
    (subst (λ (p : Option (List ℕ) × Option (List ℕ)). IfOk c.answer-in-Gates.result (Meets (IsGateListing p.0 p.1 c.args.accepted.now))) (λ i. (c.given-in-Gates.ensures i, c.given-in-Gates-2.ensures i)) c.answer-in-Gates.ensures)
