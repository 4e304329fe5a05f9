-- The codes of replies.
use Rattle.std.proofs.Common.{◌≡◌, inl, inr, ℕ, List, Option, Some, None, Contains, refl, sym, subst, lit<}
use Rattle.http_front.specs.Replies.{reply_codes}
use Rattle.http_front.specs.declared.reply.Reply.{Reply}
use Rattle.http_front.specs.declared.request.Request.{Request}
use Rattle.http_front.specs.declared.request.Verb.{Verb}
use Rattle.http_front.specs.declared.request.Verb.TheVariants.{Get, Post, Put, Delete, Patch, Head, Other}
use Rattle.object_state.specs.State.{State}
use Rattle.object_state.specs.declared.object.Change.{Change}
use Rattle.request_body.specs.Places.{Place}
use Rattle.request_target.specs.Targets.{Asked}
use Rattle.plain_machine.specs.Deciding.{IsDecided}
use Rattle.plain_machine.specs.Laws.{HasKnownCode}
use Rattle.plain_machine.specs.Refusals.{IsRefused, Refusal, Refuses, not_served, not_allowed, bad_query, no_length, too_large, bad_body, bad_member, bad_field, no_object, object_exists, conflict, missing_field, store_full, last_reached}
use Rattle.plain_machine.specs.Steps.{Decides, IsGranted, IsRead, IsWritten, Step}
use Rattle.plain_machine.specs.declared.answer.Answer.{Answer}
use Rattle.plain_machine.specs.declared.decision.Decided.{Decided}
use Rattle.plain_machine.specs.declared.machine.Machine.{Machine}

abbrev IsCode : ℕ → Type 0
IsCode code = Contains reply_codes code

coded : (answer known : Answer) → answer ≡ known → IsCode known.code → IsCode answer.code
coded answer known is h = subst (λ (a : Answer). IsCode a.code) (sym is) h

code_200 : IsCode 200
code_200 = (0, lit< tt, refl)

code_201 : IsCode 201
code_201 = (1, lit< tt, refl)

code_400 : IsCode 400
code_400 = (2, lit< tt, refl)

code_404 : IsCode 404
code_404 = (3, lit< tt, refl)

code_405 : IsCode 405
code_405 = (4, lit< tt, refl)

code_409 : IsCode 409
code_409 = (5, lit< tt, refl)

code_411 : IsCode 411
code_411 = (6, lit< tt, refl)

code_413 : IsCode 413
code_413 = (7, lit< tt, refl)

code_422 : IsCode 422
code_422 = (8, lit< tt, refl)

code_507 : IsCode 507
code_507 = (9, lit< tt, refl)

asked_code : (s : State) (q : Request) (a : Asked) (r : Refusal) (x : Answer) → Refuses s q (Some a) r x → IsCode x.code
asked_code s q a not_served x h = coded x _ h.1 code_404
asked_code s q a not_allowed x h = coded x _ h.1 code_405
asked_code s q a bad_query x h = coded x _ h.2 code_400
asked_code s q a no_length x h = coded x _ h.1 code_411
asked_code s q a too_large x h = coded x _ h.1 code_413
asked_code s q a bad_body x h = coded x _ h.2 code_400
asked_code s q a bad_member x h = coded x _ h.6 code_400
asked_code s q a bad_field x h = coded x _ h.8 code_400
asked_code s q a no_object x h = coded x _ h.5 code_404
asked_code s q a object_exists x h = coded x _ h.5 code_409
asked_code s q a conflict x h = coded x _ h.8 code_409
asked_code s q a missing_field x h = coded x _ h.8 code_422
asked_code s q a store_full x h = coded x _ h.2 code_507
asked_code s q a last_reached x h = coded x _ h.5 code_507

unasked_code : (s : State) (q : Request) (r : Refusal) (x : Answer) → Refuses s q None r x → IsCode x.code
unasked_code s q not_served x h = coded x _ h.1 code_404
unasked_code s q not_allowed x h = absurd h
unasked_code s q bad_query x h = coded x _ h.2 code_400
unasked_code s q no_length x h = coded x _ h.1 code_411
unasked_code s q too_large x h = coded x _ h.1 code_413
unasked_code s q bad_body x h = coded x _ h.2 code_400
unasked_code s q bad_member x h = absurd h
unasked_code s q bad_field x h = absurd h
unasked_code s q no_object x h = absurd h
unasked_code s q object_exists x h = absurd h
unasked_code s q conflict x h = absurd h
unasked_code s q missing_field x h = absurd h
unasked_code s q store_full x h = coded x _ h.2 code_507
unasked_code s q last_reached x h = absurd h

refused_code : (s : State) (q : Request) (asked : Option Asked) (x : Answer) → IsRefused s q asked x → IsCode x.code
refused_code s q None x h = unasked_code s q h.0 x h.1.faulty
refused_code s q (Some a) x h = asked_code s q a h.0 x h.1.faulty

read_code : (m : Machine) (s : State) (a : Asked) (x : Answer) → IsRead m s a x → IsCode x.code
read_code m s a x (inl h) = coded x _ h.1 code_200
read_code m s a x (inr h) = coded x _ h.2 code_200

written_code : (s : State) (q : Request) (verb : Verb) (place : Place) (name : List ℕ) (x : Answer) (c : Option Change) → IsWritten s q verb place name x c → IsCode x.code
written_code s q Post place name x c h = coded x _ h.5.2 code_201
written_code s q Put place name x c (old, holds, inl h) = coded x _ h.6.2 code_200
written_code s q Put place name x c (old, holds, inr h) = coded x _ h.2.2 code_200
written_code s q Delete place name x c h = coded x _ h.1 code_200
written_code s q Get place name x c h = absurd h
written_code s q Patch place name x c h = absurd h
written_code s q Head place name x c h = absurd h
written_code s q Other place name x c h = absurd h

granted_code : (m : Machine) (s : State) (q : Request) (a : Asked) (x : Answer) (c : Option Change) → IsGranted m s q a x c → IsCode x.code
granted_code m s q a x c (inl h) = read_code m s a x h.1
granted_code m s q a x c (inr h) = written_code s q q.verb h.0 h.1 x c h.3

decides_code : (m : Machine) (s : State) (q : Request) (asked : Option Asked) (x : Answer) (c : Option Change) → Decides m s q asked x c → IsCode x.code
decides_code m s q asked x c (inl h) = refused_code s q asked x h.0
decides_code m s q asked x c (inr h) = granted_code m s q h.1.0 x c h.1.2

-- the code of what is decided is one of those that replies have
decided_code : (m : Machine) (s : State) (q : Request) (d : Decided) → IsDecided m s q d → Contains reply_codes d.reply.code
decided_code m s q d h =
    subst (λ (r : Reply). Contains reply_codes r.code) (sym h.told) (decides_code m s q h.asked h.answer d.change h.decides)

step_code : (m : Machine) (s after : State) (q : Request) (reply : Reply) → Step m s q reply after → Contains reply_codes reply.code
step_code m s after q reply h =
    subst (λ (r : Reply). Contains reply_codes r.code) (sym h.told) (decides_code m s q h.asked h.answer h.change h.decides)

pub known_code : (m : Machine) (s : State) (q : Request) → HasKnownCode m s q
known_code m s q = record {
  decided = decided_code m s q;
  replied = λ reply after step. step_code m s after q reply step;
}
