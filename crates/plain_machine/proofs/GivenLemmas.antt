-- What a request passes as it gives an object one map of fields, and as a key holds one object.
use Rattle.std.proofs.Common.{◌≡◌, ℕ, List, All, true, false, Option, Some, None, sym, ◌∙◌, ap, subst}
use Rattle.std.specs.Prelude.{IsSome}
use Rattle.basis.proofs.FirstLemmas.{first_refutes}
use Rattle.fields.specs.Map.{value_at}
use Rattle.fields.specs.declared.map.FieldPair.{FieldPair}
use Rattle.fields.specs.declared.table.FieldRow.{FieldRow}
use Rattle.http_front.specs.declared.request.Request.{Request}
use Rattle.http_front.specs.declared.request.Verb.{Verb}
use Rattle.http_front.specs.declared.request.Verb.TheVariants.{Put}
use Rattle.object_state.proofs.StateLemmas.{one_object}
use Rattle.object_state.specs.Objects.{AreInKeyOrder, Holds}
use Rattle.object_state.specs.State.{State}
use Rattle.object_state.specs.declared.object.Object.{Object}
use Rattle.request_body.proofs.RequestLemmas.{given_once}
use Rattle.request_body.specs.Places.{IsNameFor, Place, key_of, place_of}
use Rattle.request_body.specs.Writes.{AreGiven, HasTree, IsFirstMissing, IsMeantForAnother, IsProvided}
use Rattle.request_target.specs.Targets.{Asked}
use Rattle.serde_json.specs.Data.{Data}
use Rattle.plain_machine.proofs.OrderLemmas.{passed_more}
use Rattle.plain_machine.proofs.PassLemmas.{about_name, same_tree}
use Rattle.plain_machine.specs.Calls.{PassedAt, conflict_cases, full_cases, missing_cases, object_cases}
use Rattle.plain_machine.specs.Refusals.{Passes, WouldChange, conflict, last_reached, missing_field, refusals}

some_none : {X : Type 0} (o : Option X) → IsSome o → o ≡ None → ⊥
some_none None h k = let e : false ≡ true = h in cc
some_none (Some x) h k = cc

module _ (s : State) (order : AreInKeyOrder s.objects) (q : Request) (place : Place) where
  -- what is given under another reading of the path is given here
  given_here : (name own : List ℕ) (other : Place) (f : List FieldPair) → other ≡ place → own ≡ name → AreGiven s q other own f → AreGiven s q place name f
  given_here name own other f p n h = subst (λ (m : List ℕ). AreGiven s q place m f) n (subst (λ (r : Place). AreGiven s q r own f) p h)

  held_here : (name own : List ℕ) (other : Place) (x : Object) → other ≡ place → own ≡ name → Holds s.objects (key_of other own) x → Holds s.objects (key_of place name) x
  held_here name own other x p n h = subst (λ (m : List ℕ). Holds s.objects (key_of place m) x) n (subst (λ (r : Place). Holds s.objects (key_of r own) x) p h)

  not_another : (a : Asked) (name : List ℕ) (tree : Data) (object : Object) → place_of a ≡ Some place → IsNameFor q place name → Holds s.objects (key_of place name) object
      → HasTree q tree → ¬ IsMeantForAnother q.verb tree object → Passes s q (Some a) conflict
  not_another a name tree object placed named holds has none = λ answer h.
      let same = about_name q a place h.0 name h.1 placed h.4 named in
      let t : h.2 ≡ tree = same_tree q.body h.2 tree h.6.1 has.1 in
      let o : h.3 ≡ object = one_object s.objects (key_of place name) h.3 object order (held_here name h.1 h.0 h.3 same.0 same.1 h.5) holds in
      none (subst (λ (x : Object). IsMeantForAnother q.verb tree x) o (subst (λ (d : Data). IsMeantForAnother q.verb d h.3) t h.7))

  pub meant_passed : (name : List ℕ) (tree : Data) (object : Object) → PassedAt s q place object_cases → IsNameFor q place name → Holds s.objects (key_of place name) object
      → HasTree q tree → ¬ IsMeantForAnother q.verb tree object → PassedAt s q place conflict_cases
  meant_passed name tree object passed named holds has none =
      passed_more s q place object_cases conflict passed (λ a placed. not_another a name tree object placed named holds has none)

  provided_or : (fields : List FieldPair) (row : FieldRow) → ((row.required ≡ true) × (value_at fields row.id ≡ None)) → IsProvided fields row → ⊥
  provided_or fields row h k = let some = k h.0 in let none = h.1 in some_none (value_at fields row.id) some none

  none_missing : (a : Asked) (name : List ℕ) (fields : List FieldPair) → place_of a ≡ Some place → IsNameFor q place name → AreGiven s q place name fields
      → All (IsProvided fields) place.of.table.rows → Passes s q (Some a) missing_field
  none_missing a name fields placed named given all = λ answer h.
      let same = about_name q a place h.0 name h.1 placed h.4 named in
      let f : h.2 ≡ fields = given_once s q place order name h.2 fields (given_here name h.1 h.0 h.2 same.0 same.1 h.6) given in
      let first = subst (λ (g : List FieldPair). IsFirstMissing place.of.table.rows g h.3) f (subst (λ (r : Place). IsFirstMissing r.of.table.rows h.2 h.3) same.0 h.7) in
      first_refutes (IsProvided fields) (λ r. (r.required ≡ true) × (value_at fields r.id ≡ None)) place.of.table.rows h.3 (provided_or fields h.3) first all

  pub complete_passed : (name : List ℕ) (fields : List FieldPair) → PassedAt s q place conflict_cases → IsNameFor q place name → AreGiven s q place name fields
      → All (IsProvided fields) place.of.table.rows → PassedAt s q place missing_cases
  complete_passed name fields passed named given all =
      passed_more s q place conflict_cases missing_field passed (λ a placed. none_missing a name fields placed named given all)

  no_change : (a : Asked) (name : List ℕ) (old : Object) → q.verb ≡ Put → place_of a ≡ Some place → IsNameFor q place name → Holds s.objects (key_of place name) old
      → AreGiven s q place name old.fields → Passes s q (Some a) last_reached
  no_change a name old put placed named holds given = λ answer h.
      let same = about_name q a place h.0 name h.1 placed h.2 named in
      let w = subst (λ (v : Verb). WouldChange s q h.0 h.1 v) put h.3 in
      let o : w.0 ≡ old = one_object s.objects (key_of place name) w.0 old order (held_here name h.1 h.0 w.0 same.0 same.1 w.2) holds in
      let f : w.1 ≡ old.fields = given_once s q place order name w.1 old.fields (given_here name h.1 h.0 w.1 same.0 same.1 w.3) given in
      w.4 (f ∙ ap (λ (x : Object). x.fields) (sym o))

  pub unchanged_passed : (name : List ℕ) (old : Object) → PassedAt s q place full_cases → q.verb ≡ Put → IsNameFor q place name → Holds s.objects (key_of place name) old
      → AreGiven s q place name old.fields → PassedAt s q place refusals
  unchanged_passed name old passed put named holds given =
      passed_more s q place full_cases last_reached passed (λ a placed. no_change a name old put placed named holds given)
