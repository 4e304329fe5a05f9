-- What a step changes.
use Rattle.std.proofs.Common.{◌≡◌, ◌≢◌, ◌⊎◌, inl, inr, ℕ, ◌+◌, List, Option, Some, None, refl, sym, ◌∙◌, ap, subst}
use Rattle.http_front.specs.declared.request.Request.{Request}
use Rattle.http_front.specs.declared.request.Verb.{Verb}
use Rattle.http_front.specs.declared.request.Verb.TheVariants.{Get, Post, Put, Delete, Patch, Head, Other}
use Rattle.object_journal.specs.declared.key.Key.{Key}
use Rattle.object_state.specs.Objects.{AreInKeyOrder, Holds}
use Rattle.object_state.specs.State.{IsApplied, IsNext, State}
use Rattle.object_state.specs.declared.object.Change.{Change}
use Rattle.object_state.specs.declared.object.Object.{Object}
use Rattle.request_body.specs.Places.{Place, key_of}
use Rattle.request_target.specs.Targets.{Asked}
use Rattle.plain_machine.proofs.OnceLemmas.{not_both}
use Rattle.plain_machine.specs.Laws.{ChangesOneKey, IsChangedAt, LeavesState}
use Rattle.plain_machine.specs.Refusals.{IsRefused}
use Rattle.plain_machine.specs.Steps.{Decides, IsGranted, IsWritten}
use Rattle.plain_machine.specs.declared.answer.Answer.{Answer}
use Rattle.plain_machine.specs.declared.machine.Machine.{Machine}

pub left : (s after : State) (c : Option Change) → c ≡ None → IsNext s c after → after ≡ s
left s after c none next = subst (λ (z : Option Change). IsNext s z after) none next

pub same_change : (a b : Change) → Some a ≡ Some b → a ≡ b
same_change a b e = cc

same_object : (a b : Object) → Some a ≡ Some b → a ≡ b
same_object a b e = cc

pub no_object_here : (a : Object) → None ≡ Some a → ⊥
no_object_here a e = cc

pub no_change_here : (a : Change) → None ≡ Some a → ⊥
no_change_here a e = cc

module _ (s : State) where
  -- ---- what leaves the state

  get_leaves : (m : Machine) (q : Request) (a : Asked) (x : Answer) (c : Option Change) → q.verb ≡ Get → IsGranted m s q a x c → c ≡ None
  get_leaves m q a x c get (inl h) = h.2
  get_leaves m q a x c get (inr h) = absurd (subst (λ (v : Verb). IsWritten s q v h.0 h.1 x c) get h.3)

  get_decides : (m : Machine) (q : Request) (asked : Option Asked) (x : Answer) (c : Option Change) → q.verb ≡ Get → Decides m s q asked x c → c ≡ None
  get_decides m q asked x c get (inl h) = h.1
  get_decides m q asked x c get (inr h) = get_leaves m q h.1.0 x c get h.1.2

  refused_decides : (order : AreInKeyOrder s.objects) (m : Machine) (q : Request) (asked : Option Asked) (x y : Answer) (c : Option Change) → IsRefused s q asked y → Decides m s q asked x c → c ≡ None
  refused_decides order m q asked x y c refused (inl h) = h.1
  refused_decides order m q asked x y c refused (inr h) = absurd (not_both s order q asked y refused h.0)

  pub leaves_state : (order : AreInKeyOrder s.objects) (m : Machine) (q : Request) → LeavesState m s q
  leaves_state order m q = record {
    refused = λ reply after step answer h. left s after step.change (refused_decides order m q step.asked step.answer answer step.change h step.decides) step.next;
    read = λ reply after step get. left s after step.change (get_decides m q step.asked step.answer step.change get step.decides) step.next;
  }

  -- ---- one key

  pub made_at : (key : Key) (made object : Object) (c : Option Change) (change : Change) → c ≡ Some (record { key = key; object = Some made }) → c ≡ Some change → change.object ≡ Some object → made ≡ object
  made_at key made object c change is of there =
      let e : record { key = key; object = Some made } ≡ change = same_change (record { key = key; object = Some made }) change (sym is ∙ of) in
      same_object made object (ap (λ (z : Change). z.object) e ∙ there)

  written_revision : (q : Request) (verb : Verb) (place : Place) (name : List ℕ) (x : Answer) (c : Option Change) (change : Change) (object : Object) → IsWritten s q verb place name x c
      → c ≡ Some change → change.object ≡ Some object → object.revision ≡ s.revision + 1
  written_revision q Post place name x c change object h of there = ap (λ (o : Object). o.revision) (sym (made_at (key_of place name) h.0 object c change h.4 of there)) ∙ h.3
  written_revision q Put place name x c change object (old, holds, inl h) of there = ap (λ (o : Object). o.revision) (sym (made_at (key_of place name) h.0 object c change h.5 of there)) ∙ h.4
  written_revision q Put place name x c change object (old, holds, inr h) of there = absurd (no_change_here change (sym h.1 ∙ of))
  written_revision q Delete place name x c change object h of there =
      let e : record { key = key_of place name; object = None } ≡ change = same_change (record { key = key_of place name; object = None }) change (sym h.0 ∙ of) in
      absurd (no_object_here object (ap (λ (z : Change). z.object) e ∙ there))
  written_revision q Get place name x c change object h of there = absurd h
  written_revision q Patch place name x c change object h of there = absurd h
  written_revision q Head place name x c change object h of there = absurd h
  written_revision q Other place name x c change object h of there = absurd h

  granted_revision : (m : Machine) (q : Request) (a : Asked) (x : Answer) (c : Option Change) (change : Change) (object : Object) → IsGranted m s q a x c
      → c ≡ Some change → change.object ≡ Some object → object.revision ≡ s.revision + 1
  granted_revision m q a x c change object (inl h) of there = absurd (no_change_here change (sym h.2 ∙ of))
  granted_revision m q a x c change object (inr h) of there = written_revision q q.verb h.0 h.1 x c change object h.3 of there

  decided_revision : (m : Machine) (q : Request) (asked : Option Asked) (x : Answer) (c : Option Change) (change : Change) (object : Object) → Decides m s q asked x c
      → c ≡ Some change → change.object ≡ Some object → object.revision ≡ s.revision + 1
  decided_revision m q asked x c change object (inl h) of there = absurd (no_change_here change (sym h.1 ∙ of))
  decided_revision m q asked x c change object (inr h) of there = granted_revision m q h.1.0 x c change object h.1.2 of there

  own_after : (change : Change) (after : State) (object : Object) → IsApplied s change after → ((change.key ≡ change.key) × (change.object ≡ Some object)) ⊎ ((change.key ≢ change.key) × Holds s.objects change.key object) → change.object ≡ Some object
  own_after change after object applied (inl h) = h.1
  own_after change after object applied (inr h) = absurd (h.0 refl)

  other_after : (change : Change) (other : Key) (object : Object) → other ≢ change.key → ((other ≡ change.key) × (change.object ≡ Some object)) ⊎ ((other ≢ change.key) × Holds s.objects other object) → Holds s.objects other object
  other_after change other object ne (inl h) = absurd (ne h.0)
  other_after change other object ne (inr h) = h.1

  applied_at : (change : Change) (after : State) → IsApplied s change after → ((object : Object) → change.object ≡ Some object → object.revision ≡ s.revision + 1) → IsChangedAt s change.key after
  applied_at change after applied stamped = record {
    next = applied.revision;
    own = λ object holds. stamped object (own_after change after object applied ((applied.objects.exact change.key object).0 holds)) ∙ sym applied.revision;
    others = λ other object ne. (
      λ holds. other_after change other object ne ((applied.objects.exact other object).0 holds),
      λ holds. (applied.objects.exact other object).1 (inr (ne, holds)),
    );
  }

  next_at : (c : Option Change) (after : State) → IsNext s c after → ((change : Change) (object : Object) → c ≡ Some change → change.object ≡ Some object → object.revision ≡ s.revision + 1)
      → (after ≡ s) ⊎ ((key : Key) × IsChangedAt s key after)
  next_at None after next stamped = inl next
  next_at (Some change) after next stamped = inr (change.key, applied_at change after next (λ object there. stamped change object refl there))

  pub changes_one_key : (m : Machine) (q : Request) → ChangesOneKey m s q
  changes_one_key m q = λ reply after step. next_at step.change after step.next (λ change object of there. decided_revision m q step.asked step.answer step.change change object step.decides of there)
