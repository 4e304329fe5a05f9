-- What becomes of a request, by what its parts say.
use Rattle.std.proofs.Common.{◌≡◌, inl, inr, List, Option, Some, None, refl, sym, subst}
use Rattle.std.specs.Prelude.{IfErr, IfOk, IfSome, OnOk, Result, Ok, Err, option_map}
use Rattle.http_front.specs.declared.request.Request.{Request}
use Rattle.object_state.specs.State.{IsNext, State}
use Rattle.object_state.specs.declared.object.Change.{Change}
use Rattle.release_view.specs.Spelling.{SpellAlike}
use Rattle.release_view.specs.declared.known.KnownVersion.{KnownVersion}
use Rattle.request_body.specs.Places.{Place, place_seen}
use Rattle.request_target.specs.Targets.{Asked, asked}
use Rattle.request_target.specs.Told.{IsResourceIn}
use Rattle.request_target.specs.declared.target.Target.{Target}
use Rattle.plain_machine.proofs.OrderLemmas.{refused_unserved, stop_weaker}
use Rattle.plain_machine.proofs.PageLemmas.{page_free, reads_get}
use Rattle.plain_machine.proofs.PlaceLemmas.{sound_at}
use Rattle.plain_machine.specs.Calls.{IsAskedAt, IsRefusedAt, IsSoundIn, PassedAt}
use Rattle.plain_machine.specs.Deciding.{IsDecided, IsGrantedTo}
use Rattle.plain_machine.specs.Heads.{IsStop, PassesHead}
use Rattle.plain_machine.specs.Reading.{ReadsPage}
use Rattle.plain_machine.specs.Refusals.{IsRefused, not_served_answer, refusals}
use Rattle.plain_machine.specs.Sound.{IsSound}
use Rattle.plain_machine.specs.Steps.{Decides, IsGranted, IsRead, Step}
use Rattle.plain_machine.specs.declared.answer.Answer.{Answer}
use Rattle.plain_machine.specs.declared.call.Call.{Call}
use Rattle.plain_machine.specs.declared.decision.Decided.{Decided}
use Rattle.plain_machine.specs.declared.decision.Decision.{Decision}
use Rattle.plain_machine.specs.declared.machine.Machine.{Machine}
use Rattle.plain_machine.specs.declared.stop.Stop.{Stop}

module _ (m : Machine) (s : State) (q : Request) (a : Asked) where
  pub granted_page : (answer : Answer) → PassesHead q a → ReadsPage q.verb a → IsRead m s a answer → IsGrantedTo m s q a (record { answer = answer; change = None })
  granted_page answer head reads read = record { free = page_free s q a head reads; granted = inl (reads_get q.verb a reads, read, refl) }

  module _ (place : Place) (at : IsAskedAt q a place) where
    pub granted_to : (r : Result Decision Stop) → IfOk r (λ d. (n : Machine) (b : Asked) → IsAskedAt q b place → IsGranted n s q b d.answer d.change) → OnOk r (PassedAt s q place refusals)
        → IfOk r (λ d. IsGrantedTo m s q a d)
    granted_to (Ok d) h p = record { free = p a at; granted = h m a at }
    granted_to (Err e) h p = tt

    pub refused_to : (r : Result Decision Stop) → IfErr r (IsStop (IsRefusedAt s q place)) → IfErr r (IsStop (IsRefused s q (Some a)))
    refused_to (Ok d) h = tt
    refused_to (Err e) h = stop_weaker (IsRefusedAt s q place) (IsRefused s q (Some a)) e (λ answer k. k a at) h

sound_some : (versions : List KnownVersion) (c : Call) (o : Option Change) → SpellAlike versions → IsResourceIn versions (place_seen c.place).of → IfSome o (IsSoundIn c) → IfSome o (IsSound versions c.state.now.state)
sound_some versions c None alike known h = tt
sound_some versions c (Some change) alike known h = sound_at versions (place_seen c.place).of c.state.now.state change alike known h.group h.resource h.within h.fits

pub sound_to : (versions : List KnownVersion) (c : Call) (r : Result Decision Stop) → SpellAlike versions → IsResourceIn versions (place_seen c.place).of → IfOk r (λ d. IfSome d.change (IsSoundIn c))
    → IfOk r (λ d. IfSome d.change (IsSound versions c.state.now.state))
sound_to versions c (Ok d) alike known h = sound_some versions c d.change alike known h
sound_to versions c (Err e) alike known h = tt

-- ---- decisions

module _ (m : Machine) (s : State) (q : Request) (target : Option Target) where
  pub decides_granted : (t : Target) (d : Decision) → target ≡ Some t → IsGrantedTo m s q (asked t) d → Decides m s q (option_map asked target) d.answer d.change
  decides_granted t d is h = subst (λ (o : Option Target). Decides m s q (option_map asked o) d.answer d.change) (sym is) (inr (h.free, (asked t, refl, h.granted)))

  pub decides_refused : (t : Target) (answer : Answer) → target ≡ Some t → IsRefused s q (Some (asked t)) answer → Decides m s q (option_map asked target) answer None
  decides_refused t answer is h = subst (λ (o : Option Target). Decides m s q (option_map asked o) answer None) (sym is) (inl (h, refl))

  pub decides_unserved : (answer : Answer) → target ≡ None → answer ≡ not_served_answer → Decides m s q (option_map asked target) answer None
  decides_unserved answer is told =
      subst (λ (o : Option Target). Decides m s q (option_map asked o) answer None) (sym is) (inl (refused_unserved s q answer (refl, told), refl))

-- what is decided, and made of the state, is the step
pub step_of : (m : Machine) (s after : State) (q : Request) (d : Decided) → IsDecided m s q d → IsNext s d.change after → Step m s q d.reply after
step_of m s after q d decided next = record {
  asked = decided.asked;
  asks = decided.asks;
  answer = decided.answer;
  change = d.change;
  decides = decided.decides;
  told = decided.told;
  next = next;
}
