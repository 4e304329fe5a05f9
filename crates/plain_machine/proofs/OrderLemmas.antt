-- The order of the refusals: a case that holds behind others that don't is that of the refusal.
use Rattle.std.proofs.Common.{◌≡◌, ◌≢◌, List, [], ◌∷◌, ◌++◌, All, Option, Some, None, refl, drop}
use Rattle.std.proofs.lemmas.List.Elements.{All-from_recursion, recursion_from_All}
use Rattle.basis.proofs.ElementLemmas.{AllByRecursion-push}
use Rattle.http_front.specs.declared.request.Request.{Request}
use Rattle.object_state.specs.State.{State}
use Rattle.request_body.specs.Places.{Place, place_of}
use Rattle.http_front.specs.declared.request.Length.TheVariants.{Chunked}
use Rattle.request_target.specs.Methods.{Allows, methods}
use Rattle.request_target.specs.Queries.{unsupported}
use Rattle.request_target.specs.Targets.{Asked}
use Rattle.plain_machine.specs.Calls.{IsRefusedAt, PassedAt, head_cases}
use Rattle.plain_machine.specs.Heads.{IsCase, IsCaseOf, IsStop, PassesHead, IsRefusedByHead}
use Rattle.plain_machine.specs.Refusals.{Refusal, Refuses, Passes, IsRefused, refusals, not_served, not_allowed, bad_query, no_length, too_large}
use Rattle.plain_machine.specs.declared.answer.Answer.{Answer}
use Rattle.plain_machine.specs.declared.stop.Stop.{Stop}
use Rattle.plain_machine.specs.declared.stop.Stop.TheVariants.{Refused, Memory}

pub stop_weaker : (P Q : Answer → Type 0) (stop : Stop) → ((answer : Answer) → P answer → Q answer) → IsStop P stop → IsStop Q stop
stop_weaker P Q (Refused answer) f h = f answer h
stop_weaker P Q Memory f h = tt

pub one_more : (P : Refusal → Type 0) (front : List Refusal) (r : Refusal) → All P front → P r → All P (front ++ r ∷ [])
one_more P front r h p = All-from_recursion P (front ++ r ∷ []) (AllByRecursion-push P front r (recursion_from_All P front h) p)

pub refused_by : (s : State) (q : Request) (asked : Option Asked) (before after : List Refusal) (r : Refusal) (answer : Answer) → refusals ≡ before ++ r ∷ after
    → All (Passes s q asked) before → Refuses s q asked r answer → IsRefused s q asked answer
refused_by s q asked before after r answer whole fine faulty = (r, record { before = before; after = after; whole = whole; fine = fine; faulty = faulty })

-- ---- heads

module _ (s : State) (q : Request) (a : Asked) where
  pub served : Passes s q (Some a) not_served
  served = λ answer h. let e = h.0 in absurd cc

  pub first_passed : All (Passes s q (Some a)) (not_served ∷ [])
  first_passed = All-from_recursion (Passes s q (Some a)) (not_served ∷ []) (served, tt)

  pub passes_head_cases : PassesHead q a → All (Passes s q (Some a)) head_cases
  passes_head_cases head =
      All-from_recursion (Passes s q (Some a)) head_cases
      (served, ((λ answer h. h.0 head.allowed), ((λ answer h. let e = h.1 in let f = head.supported in absurd cc), ((λ answer h. head.counted h.0), ((λ answer h. head.short h.0), tt)))))

-- ---- stops at heads

module _ (q : Request) (a : Asked) where
  pub method_stop : (stop : Stop) → IsStop (IsCaseOf q a not_allowed) stop → IsStop (IsRefusedByHead q a) stop
  method_stop stop h =
      stop_weaker (IsCaseOf q a not_allowed) (IsRefusedByHead q a) stop
      (λ answer k s. refused_by s q (Some a) (not_served ∷ []) (drop 2 refusals) not_allowed answer refl (first_passed s q a) (k s)) h

  query_passed : (s : State) → Allows (methods a) q.verb → All (Passes s q (Some a)) (not_served ∷ not_allowed ∷ [])
  query_passed s allowed = one_more (Passes s q (Some a)) (not_served ∷ []) not_allowed (first_passed s q a) (λ answer h. h.0 allowed)

  length_passed : (s : State) → Allows (methods a) q.verb → unsupported q.query ≡ None → All (Passes s q (Some a)) (not_served ∷ not_allowed ∷ bad_query ∷ [])
  length_passed s allowed supported =
      one_more (Passes s q (Some a)) (not_served ∷ not_allowed ∷ []) bad_query (query_passed s allowed) (λ answer h. let e = h.1 in let f = supported in absurd cc)

  size_passed : (s : State) → Allows (methods a) q.verb → unsupported q.query ≡ None → q.length ≢ Chunked → All (Passes s q (Some a)) (not_served ∷ not_allowed ∷ bad_query ∷ no_length ∷ [])
  size_passed s allowed supported counted =
      one_more (Passes s q (Some a)) (not_served ∷ not_allowed ∷ bad_query ∷ []) no_length (length_passed s allowed supported) (λ answer h. counted h.0)

  pub query_stop : (stop : Stop) → Allows (methods a) q.verb → IsStop (IsCase q bad_query) stop → IsStop (IsRefusedByHead q a) stop
  query_stop stop allowed h =
      stop_weaker (IsCase q bad_query) (IsRefusedByHead q a) stop
      (λ answer k s. refused_by s q (Some a) (not_served ∷ not_allowed ∷ []) (drop 3 refusals) bad_query answer refl (query_passed s allowed) (k s (Some a))) h

  pub length_stop : (stop : Stop) → Allows (methods a) q.verb → unsupported q.query ≡ None → IsStop (IsCase q no_length) stop → IsStop (IsRefusedByHead q a) stop
  length_stop stop allowed supported h =
      stop_weaker (IsCase q no_length) (IsRefusedByHead q a) stop
      (λ answer k s. refused_by s q (Some a) (not_served ∷ not_allowed ∷ bad_query ∷ []) (drop 4 refusals) no_length answer refl (length_passed s allowed supported) (k s (Some a))) h

  pub size_stop : (stop : Stop) → Allows (methods a) q.verb → unsupported q.query ≡ None → q.length ≢ Chunked → IsStop (IsCase q too_large) stop → IsStop (IsRefusedByHead q a) stop
  size_stop stop allowed supported counted h =
      stop_weaker (IsCase q too_large) (IsRefusedByHead q a) stop
      (λ answer k s. refused_by s q (Some a) (not_served ∷ not_allowed ∷ bad_query ∷ no_length ∷ []) (drop 5 refusals) too_large answer refl (size_passed s allowed supported counted) (k s (Some a))) h

-- nothing that is served is asked for
pub refused_unserved : (s : State) (q : Request) (answer : Answer) → Refuses s q None not_served answer → IsRefused s q None answer
refused_unserved s q answer h = refused_by s q None [] (drop 1 refusals) not_served answer refl (All-from_recursion (Passes s q None) [] tt) h

-- ---- places

module _ (s : State) (q : Request) (place : Place) where
  pub refused_at : (before after : List Refusal) (r : Refusal) (answer : Answer) → refusals ≡ before ++ r ∷ after → PassedAt s q place before
      → ((a : Asked) → place_of a ≡ Some place → Refuses s q (Some a) r answer) → IsRefusedAt s q place answer
  refused_at before after r answer whole passed faulty = λ a k. refused_by s q (Some a) before after r answer whole (passed a k) (faulty a k.placed)

  pub passed_more : (cases : List Refusal) (r : Refusal) → PassedAt s q place cases → ((a : Asked) → place_of a ≡ Some place → Passes s q (Some a) r) → PassedAt s q place (cases ++ r ∷ [])
  passed_more cases r passed p = λ a k. one_more (Passes s q (Some a)) cases r (passed a k) (p a k.placed)

  pub head_passed : PassedAt s q place head_cases
  head_passed = λ a k. passes_head_cases s q a k.head
