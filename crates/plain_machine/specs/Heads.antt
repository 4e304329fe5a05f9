-- What is known of a request once its head was looked at.
use Rattle.std.specs.Prelude.{◌≡◌, ◌≢◌, Option, Some, None}
use Rattle.http_front.specs.declared.request.Length.TheVariants.{Chunked}
use Rattle.http_front.specs.declared.request.Request.{Request}
use Rattle.object_state.specs.State.{State}
use Rattle.request_target.specs.Methods.{Allows, methods}
use Rattle.request_target.specs.Queries.{unsupported}
use Rattle.request_target.specs.Targets.{Asked}
use Rattle.plain_machine.specs.Refusals.{Refusal, Refuses, IsRefused, IsTooLong}
use Rattle.plain_machine.specs.declared.answer.Answer.{Answer}
use Rattle.plain_machine.specs.declared.stop.Stop.{Stop}
use Rattle.plain_machine.specs.declared.stop.Stop.TheVariants.{Refused, Memory}

-- the request goes no further: it has such an answer, or memory ran out
abbrev pub IsStop : (Answer → Type 0) → Stop → Type 0
IsStop P (Refused answer) = P answer
IsStop P Memory = Unit {0}

-- the case holds of the request, which asks for this, whatever is stored, and gives this answer
abbrev pub IsCaseOf : Request → Asked → Refusal → Answer → Type 0
IsCaseOf q a refusal answer = (s : State) → Refuses s q (Some a) refusal answer

-- the case holds of the request, whatever is stored and whatever it asks for, and gives this answer
abbrev pub IsCase : Request → Refusal → Answer → Type 0
IsCase q refusal answer = (s : State) (asked : Option Asked) → Refuses s q asked refusal answer

-- the request, which asks for this, isn't refused by its head
pub record PassesHead (q : Request) (a : Asked) : Type 0 where
  pub allowed : Allows (methods a) q.verb
  pub supported : unsupported q.query ≡ None
  pub counted : q.length ≢ Chunked
  pub short : ¬ IsTooLong q.length

-- whatever is stored, the request, which asks for this, is refused with this answer
abbrev pub IsRefusedByHead : Request → Asked → Answer → Type 0
IsRefusedByHead q a answer = (s : State) → IsRefused s q (Some a) answer
