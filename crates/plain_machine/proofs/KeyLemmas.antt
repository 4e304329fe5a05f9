-- The refusals of a request that is about the object with a key.
use Rattle.std.proofs.Common.{◌≡◌, ◌≢◌, ◌↔◌, ℕ, List, All, Bool, true, false, None, sym, ◌∙◌, ap, subst}
use Rattle.std.specs.Prelude.{IsSome, IsTrue}
use Rattle.fields.specs.declared.map.FieldPair.{FieldPair}
use Rattle.fields.specs.declared.table.FieldRow.{FieldRow}
use Rattle.http_front.specs.declared.request.Request.{Request}
use Rattle.http_front.specs.declared.request.Verb.{Verb}
use Rattle.http_front.specs.declared.request.Verb.TheVariants.{Post, Put}
use Rattle.object_journal.specs.declared.key.Key.{Key}
use Rattle.object_state.specs.Objects.{AreInKeyOrder, HasKey, Holds}
use Rattle.object_state.specs.State.{State}
use Rattle.object_state.specs.declared.object.Object.{Object}
use Rattle.request_body.specs.Places.{IsNameFor, Place, key_of}
use Rattle.request_body.specs.Writes.{AreGiven, GivesFields, HasTree, IsFirstMissing, IsMeantForAnother, IsProvided}
use Rattle.request_target.specs.Targets.{Resource}
use Rattle.serde_json.specs.Data.{Data}
use Rattle.plain_machine.proofs.GivenLemmas.{complete_passed, meant_passed, unchanged_passed}
use Rattle.plain_machine.proofs.PassLemmas.{absent_passed, conflict_refused, exists_refused, missing_refused, no_object_refused, object_passed}
use Rattle.plain_machine.specs.Calls.{IsRefusedAt, PassedAt, conflict_cases, field_cases, full_cases, missing_cases, object_cases}
use Rattle.plain_machine.specs.Refusals.{conflict_answer, exists_answer, missing_answer, no_object_answer, refusals, WouldChange}
use Rattle.plain_machine.specs.declared.answer.Answer.{Answer}

-- what a test refutes doesn't hold
pub refuted : (b : Bool) (P : Type 0) → IsTrue b ↔ P → b ≡ false → ¬ P
refuted b P h is p = let yes : b ≡ true = h.1 p in cc

module _ (s : State) (q : Request) (place : Place) (key : Key) (name : List ℕ) (named : IsNameFor q place name) (keyed : key ≡ key_of place name) where
  has_at : (found : Object) → Holds s.objects key found → HasKey s.objects (key_of place name)
  has_at found holds = (found, subst (λ (k : Key). Holds s.objects k found) keyed holds)

  held_at : (found : Object) → Holds s.objects key found → Holds s.objects (key_of place name) found
  held_at found holds = subst (λ (k : Key). Holds s.objects k found) keyed holds

  none_at : ¬ HasKey s.objects key → ¬ HasKey s.objects (key_of place name)
  none_at none = subst (λ (k : Key). ¬ HasKey s.objects k) keyed none

  same_name : key.name ≡ name
  same_name = ap (λ (k : Key). k.name) keyed

  told_by_key : (f : Resource → List ℕ → Answer) (answer : Answer) → answer ≡ f place.of key.name → answer ≡ f place.of name
  told_by_key f answer is = is ∙ ap (λ (n : List ℕ). f place.of n) same_name

  pub existing_passed : (found : Object) → PassedAt s q place field_cases → IsSome place.own → Holds s.objects key found → PassedAt s q place object_cases
  existing_passed found passed own holds = object_passed s q place name passed own named (has_at found holds)

  pub missing_object : (answer : Answer) → PassedAt s q place field_cases → IsSome place.own → ¬ HasKey s.objects key → answer ≡ no_object_answer place.of key.name → IsRefusedAt s q place answer
  missing_object answer passed own none is = no_object_refused s q place answer name passed own named (none_at none) (told_by_key no_object_answer answer is)

  pub present_object : (answer : Answer) (found : Object) → PassedAt s q place field_cases → place.own ≡ None → Holds s.objects key found → answer ≡ exists_answer place.of key.name → IsRefusedAt s q place answer
  present_object answer found passed none holds is = exists_refused s q place answer name passed none named (has_at found holds) (told_by_key exists_answer answer is)

  pub absent_object : PassedAt s q place field_cases → q.verb ≡ Post → place.own ≡ None → ¬ HasKey s.objects key → PassedAt s q place conflict_cases
  absent_object passed post own none = absent_passed s q place name passed post own named (none_at none)

  pub other_object : (answer : Answer) (tree : Data) (found : Object) → PassedAt s q place object_cases → Holds s.objects key found → HasTree q tree → IsMeantForAnother q.verb tree found
      → answer ≡ conflict_answer place.of key.name → IsRefusedAt s q place answer
  other_object answer tree found passed holds has another is =
      conflict_refused s q place answer name tree found passed named (held_at found holds) has another (told_by_key conflict_answer answer is)

  pub meant_object : AreInKeyOrder s.objects → (tree : Data) (found : Object) → PassedAt s q place object_cases → Holds s.objects key found → HasTree q tree → ¬ IsMeantForAnother q.verb tree found
      → PassedAt s q place conflict_cases
  meant_object order tree found passed holds has none = meant_passed s order q place name tree found passed named (held_at found holds) has none

  pub lacking_object : (answer : Answer) (fields : List FieldPair) (row : FieldRow) → PassedAt s q place conflict_cases → GivesFields q.verb → AreGiven s q place name fields
      → IsFirstMissing place.of.table.rows fields row → answer ≡ missing_answer place.of key.name row.path → IsRefusedAt s q place answer
  lacking_object answer fields row passed gives given first is =
      missing_refused s q place answer name fields row passed named gives given first (told_by_key (λ of n. missing_answer of n row.path) answer is)

  pub complete_object : AreInKeyOrder s.objects → (fields : List FieldPair) → PassedAt s q place conflict_cases → AreGiven s q place name fields → All (IsProvided fields) place.of.table.rows → PassedAt s q place missing_cases
  complete_object order fields passed given all = complete_passed s order q place name fields passed named given all

  pub unchanged_object : AreInKeyOrder s.objects → (fields : List FieldPair) (old : Object) → PassedAt s q place full_cases → q.verb ≡ Put → Holds s.objects key old → AreGiven s q place name fields → fields ≡ old.fields
      → PassedAt s q place refusals
  unchanged_object order fields old passed put holds given same =
      unchanged_passed s order q place name old passed put named (held_at old holds) (subst (λ (f : List FieldPair). AreGiven s q place name f) same given)

  pub changes_object : (fields : List FieldPair) (old : Object) → q.verb ≡ Put → Holds s.objects key old → AreGiven s q place name fields → fields ≢ old.fields → WouldChange s q place name q.verb
  changes_object fields old put holds given other = subst (λ (v : Verb). WouldChange s q place name v) (sym put) (old, fields, held_at old holds, given, other)
