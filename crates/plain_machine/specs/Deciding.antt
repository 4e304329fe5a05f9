-- What becomes of a request.
use Rattle.std.specs.Prelude.{◌≡◌, Option, Some}
use Rattle.http_front.specs.declared.request.Request.{Request}
use Rattle.object_state.specs.State.{State}
use Rattle.request_target.specs.Targets.{AsksFor, Asked}
use Rattle.request_target.specs.Warnings.{warning}
use Rattle.plain_machine.specs.Answers.{reply_to}
use Rattle.plain_machine.specs.Refusals.{IsNotRefused}
use Rattle.plain_machine.specs.Steps.{Decides, IsGranted}
use Rattle.plain_machine.specs.declared.answer.Answer.{Answer}
use Rattle.plain_machine.specs.declared.decision.Decided.{Decided}
use Rattle.plain_machine.specs.declared.decision.Decision.{Decision}
use Rattle.plain_machine.specs.declared.machine.Machine.{Machine}

-- the request, which asks for this, isn't refused, and this becomes of it
pub record IsGrantedTo (m : Machine) (s : State) (q : Request)
    (a : Asked) (d : Decision) : Type 0 where
  pub free : IsNotRefused s q (Some a)
  pub granted : IsGranted m s q a d.answer d.change

-- the reply and the change are those of the request's step
pub record IsDecided (m : Machine) (s : State) (q : Request) (d : Decided) : Type 0 where
  pub asked : Option Asked
  pub asks : AsksFor m.view q.path asked
  pub answer : Answer
  pub decides : Decides m s q asked answer d.change
  pub told : d.reply ≡ reply_to q (warning m.view asked) answer
