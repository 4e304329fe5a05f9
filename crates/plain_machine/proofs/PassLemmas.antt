-- The refusals of a request for objects, one after the other: each is refused behind those that it passed, or passed itself.
use Rattle.std.proofs.Common.{◌≡◌, ◌≢◌, ℕ, ◌<◌, ◌≤◌, List, [], ◌∷◌, ◌++◌, All, Option, Some, None, true, false, refl, sym, ◌∙◌, ap, subst, drop, arith, codes}
use Rattle.std.specs.Prelude.{IsSome, MatchOption}
use Rattle.conversion.proofs.ReadLemmas.{faultless}
use Rattle.conversion.proofs.TreeLemmas.{some_one}
use Rattle.conversion.specs.Reading.{IsFirstFault, Reads}
use Rattle.conversion.specs.Trees.{Names}
use Rattle.conversion.specs.Whole.{IsTextOf, metadata}
use Rattle.conversion.specs.declared.fault.ReadCause.{ReadCause}
use Rattle.conversion.specs.declared.mode.Mode.TheVariants.{Body}
use Rattle.fields.specs.declared.map.FieldPair.{FieldPair}
use Rattle.fields.specs.declared.table.FieldRow.{FieldRow}
use Rattle.http_front.specs.declared.request.Request.{Request}
use Rattle.http_front.specs.declared.request.Verb.{Verb}
use Rattle.http_front.specs.declared.request.Verb.TheVariants.{Post}
use Rattle.object_journal.specs.Journal.{most_keys, last_revision}
use Rattle.object_state.specs.Objects.{HasKey, Holds}
use Rattle.object_state.specs.State.{State}
use Rattle.object_state.specs.declared.object.Object.{Object}
use Rattle.request_body.proofs.GivenLemmas.{no_misfit as none_misfit}
use Rattle.request_body.specs.Members.{FitsMember, IsMisfit, members_of}
use Rattle.request_body.specs.Places.{IsAbout, IsNamedByBody, IsNameFor, Place, given_in, key_of, place_of}
use Rattle.request_body.specs.Writes.{AreGiven, GivesFields, GoesByBody, HasTree, IsFirstMissing, IsMeantForAnother}
use Rattle.request_body.specs.declared.member.Member.{Member}
use Rattle.request_target.specs.Targets.{Asked}
use Rattle.serde_json.specs.Data.{Data, string}
use Rattle.serde_json.specs.Read.{read}
use Rattle.plain_machine.proofs.OrderLemmas.{head_passed, passed_more, refused_at}
use Rattle.plain_machine.specs.Calls.{IsRefusedAt, PassedAt, conflict_cases, field_cases, full_cases, head_cases, member_cases, missing_cases, object_cases}
use Rattle.plain_machine.specs.Refusals.{Passes, WouldChange, bad_body, bad_body_answer, bad_field, bad_field_answer, bad_member, bad_member_answer, conflict, conflict_answer, ended_answer, exists_answer, full_answer, last_reached, missing_answer, missing_field, no_object, no_object_answer, object_exists, refusals, store_full}
use Rattle.plain_machine.specs.declared.answer.Answer.{Answer}

pub same_tree : (text : List ℕ) (a b : Data) → IsTextOf text a → IsTextOf text b → a ≡ b
same_tree text a b h g = some_one (read text) a b h.read g.read

pub same_place : (a : Asked) (p r : Place) → place_of a ≡ Some p → place_of a ≡ Some r → p ≡ r
same_place a p r h k = some_one (place_of a) p r h k

-- ---- names

same_name_given : (tree : Data) (name other : List ℕ) → given_in metadata (codes "name") tree ≡ Some (string name) → given_in metadata (codes "name") tree ≡ Some (string other) → name ≡ other
same_name_given tree name other h k = let e : Some (string name) ≡ Some (string other) = sym h ∙ k in cc

named_once : (body name other : List ℕ) → IsNamedByBody body name → IsNamedByBody body other → name ≡ other
named_once body name other h k =
    same_name_given h.0 name other h.2 (subst (λ t. given_in metadata (codes "name") t ≡ Some (string other)) (same_tree body k.0 h.0 k.1 h.1) k.2)

name_at : (own : Option (List ℕ)) (q : Request) (name other : List ℕ) → MatchOption own ((q.verb ≡ Post) × IsNamedByBody q.body name) (λ own. name ≡ own)
    → MatchOption own ((q.verb ≡ Post) × IsNamedByBody q.body other) (λ own. other ≡ own) → name ≡ other
name_at None q name other h k = named_once q.body name other h.1 k.1
name_at (Some own) q name other h k = h ∙ sym k

pub one_name : (q : Request) (place : Place) (name other : List ℕ) → IsNameFor q place name → IsNameFor q place other → name ≡ other
one_name q place name other h k = name_at place.own q name other h k

own_at : (own : Option (List ℕ)) (q : Request) (name : List ℕ) → IsSome own → MatchOption own ((q.verb ≡ Post) × IsNamedByBody q.body name) (λ own. name ≡ own) → own ≡ Some name
own_at None q name some h = absurd (let e : false ≡ true = some in cc)
own_at (Some own) q name some h = ap (λ n. Some n) (sym h)

pub own_name : (q : Request) (place : Place) (name : List ℕ) → IsSome place.own → IsNameFor q place name → place.own ≡ Some name
own_name q place name some h = own_at place.own q name some h

pub some_is : {X : Type 0} (o : Option X) (x : X) → o ≡ Some x → o ≡ None → ⊥
some_is o x h k = let e : Some x ≡ None = sym h ∙ k in cc

pub not_none : {X : Type 0} (o : Option X) → IsSome o → o ≡ None → ⊥
not_none None h k = let e : false ≡ true = h in cc
not_none (Some x) h k = cc

-- what another reading of the path says of the place and the name
pub about_name : (q : Request) (a : Asked) (place other : Place) (name own : List ℕ) → place_of a ≡ Some place → IsAbout q a other own → IsNameFor q place name → (other ≡ place) × (own ≡ name)
about_name q a place other name own placed about named =
    let p : other ≡ place = same_place a other place about.placed placed in
    (p, one_name q place own name (subst (λ (r : Place). IsNameFor q r own) p about.named) named)

module _ (s : State) (q : Request) (place : Place) where
  -- ---- the body

  pub body_refused : (answer : Answer) → GoesByBody q.verb q.body → ((tree : Data) → ¬ IsTextOf q.body tree) → answer ≡ bad_body_answer → IsRefusedAt s q place answer
  body_refused answer goes none is =
      refused_at s q place head_cases (drop 6 refusals) bad_body answer refl (head_passed s q place) (λ a placed. (goes, none, is))

  body_passed : (tree : Data) → HasTree q tree → PassedAt s q place (head_cases ++ bad_body ∷ [])
  body_passed tree has = passed_more s q place head_cases bad_body (head_passed s q place) (λ a placed answer h. h.1 tree has.1)

  pub member_refused : (answer : Answer) (tree : Data) (member : Member) → HasTree q tree → IsMisfit q.verb place tree member → answer ≡ bad_member_answer member → IsRefusedAt s q place answer
  member_refused answer tree member has misfit is =
      refused_at s q place (head_cases ++ bad_body ∷ []) (drop 7 refusals) bad_member answer refl (body_passed tree has) (λ a placed. (place, tree, member, placed, has, misfit, is))

  no_misfit : (a : Asked) (tree : Data) → place_of a ≡ Some place → HasTree q tree → All (FitsMember place tree) (members_of q.verb) → Passes s q (Some a) bad_member
  no_misfit a tree placed has fits = λ answer h.
      let p : h.0 ≡ place = same_place a h.0 place h.3 placed in
      let t : h.1 ≡ tree = same_tree q.body h.1 tree h.4.1 has.1 in
      let misfit = subst (λ (r : Place). IsMisfit q.verb r tree h.2) p (subst (λ (d : Data). IsMisfit q.verb h.0 d h.2) t h.5) in
      none_misfit q.verb place tree h.2 fits misfit

  pub members_passed : (tree : Data) → HasTree q tree → All (FitsMember place tree) (members_of q.verb) → PassedAt s q place member_cases
  members_passed tree has fits = passed_more s q place (head_cases ++ bad_body ∷ []) bad_member (body_passed tree has) (λ a placed. no_misfit a tree placed has fits)

  -- without a body there is nothing that doesn't fit
  pub bare_passed : ¬ GoesByBody q.verb q.body → PassedAt s q place member_cases
  bare_passed bare =
      passed_more s q place (head_cases ++ bad_body ∷ []) bad_member
      (passed_more s q place head_cases bad_body (head_passed s q place) (λ a placed answer h. bare h.0))
      (λ a placed answer h. bare h.4.0)

  pub field_refused : (answer : Answer) (tree : Data) (path : Names) (cause : ReadCause) → PassedAt s q place member_cases → GivesFields q.verb → IsTextOf q.body tree
      → IsFirstFault Body place.of.table.rows tree path cause → answer ≡ bad_field_answer path cause → IsRefusedAt s q place answer
  field_refused answer tree path cause passed gives text fault is =
      refused_at s q place member_cases (drop 8 refusals) bad_field answer refl passed (λ a placed. (place, tree, path, cause, placed, gives, text, fault, is))

  no_fault : (a : Asked) (tree : Data) (held : List FieldPair) → place_of a ≡ Some place → IsTextOf q.body tree → Reads Body place.of.table.rows tree held → Passes s q (Some a) bad_field
  no_fault a tree held placed text reads = λ answer h.
      let p : h.0 ≡ place = same_place a h.0 place h.4 placed in
      let t : h.1 ≡ tree = same_tree q.body h.1 tree h.6 text in
      let fault = subst (λ (r : Place). IsFirstFault Body r.of.table.rows tree h.2 h.3) p (subst (λ (d : Data). IsFirstFault Body h.0.of.table.rows d h.2 h.3) t h.7) in
      faultless Body place.of.table.rows tree held h.2 h.3 reads fault

  pub fields_passed : (tree : Data) (held : List FieldPair) → PassedAt s q place member_cases → IsTextOf q.body tree → Reads Body place.of.table.rows tree held → PassedAt s q place field_cases
  fields_passed tree held passed text reads = passed_more s q place member_cases bad_field passed (λ a placed. no_fault a tree held placed text reads)

  pub no_fields_passed : PassedAt s q place member_cases → ¬ GivesFields q.verb → PassedAt s q place field_cases
  no_fields_passed passed none = passed_more s q place member_cases bad_field passed (λ a placed answer h. none h.5)

  -- ---- the object

  pub no_object_refused : (answer : Answer) (name : List ℕ) → PassedAt s q place field_cases → IsSome place.own → IsNameFor q place name → ¬ HasKey s.objects (key_of place name)
      → answer ≡ no_object_answer place.of name → IsRefusedAt s q place answer
  no_object_refused answer name passed own named none is =
      refused_at s q place field_cases (drop 9 refusals) no_object answer refl passed
      (λ a placed. (place, name, record { placed = placed; named = named }, own_name q place name own named, none, is))

  present : (a : Asked) (name : List ℕ) → place_of a ≡ Some place → IsNameFor q place name → HasKey s.objects (key_of place name) → Passes s q (Some a) no_object
  present a name placed named has = λ answer h.
      let same = about_name q a place h.0 name h.1 placed h.2 named in
      h.4 (subst (λ (r : Place). HasKey s.objects (key_of r h.1)) (sym same.0) (subst (λ (n : List ℕ). HasKey s.objects (key_of place n)) (sym same.1) has))

  own_passes : (a : Asked) → place_of a ≡ Some place → IsSome place.own → Passes s q (Some a) object_exists
  own_passes a placed own = λ answer h.
      not_none place.own own (subst (λ (r : Place). r.own ≡ None) (same_place a h.0 place h.2.placed placed) h.3)

  pub object_passed : (name : List ℕ) → PassedAt s q place field_cases → IsSome place.own → IsNameFor q place name → HasKey s.objects (key_of place name) → PassedAt s q place object_cases
  object_passed name passed own named has =
      passed_more s q place (field_cases ++ no_object ∷ []) object_exists
      (passed_more s q place field_cases no_object passed (λ a placed. present a name placed named has))
      (λ a placed. own_passes a placed own)

  nameless_passed : PassedAt s q place field_cases → place.own ≡ None → PassedAt s q place (field_cases ++ no_object ∷ [])
  nameless_passed passed none = passed_more s q place field_cases no_object passed
      (λ a placed answer h. some_is h.0.own h.1 h.3 (subst (λ (r : Place). r.own ≡ None) (sym (same_place a h.0 place h.2.placed placed)) none))

  pub exists_refused : (answer : Answer) (name : List ℕ) → PassedAt s q place field_cases → place.own ≡ None → IsNameFor q place name → HasKey s.objects (key_of place name)
      → answer ≡ exists_answer place.of name → IsRefusedAt s q place answer
  exists_refused answer name passed none named has is =
      refused_at s q place (field_cases ++ no_object ∷ []) (drop 10 refusals) object_exists answer refl (nameless_passed passed none)
      (λ a placed. (place, name, record { placed = placed; named = named }, none, has, is))

  absent : (a : Asked) (name : List ℕ) → place_of a ≡ Some place → IsNameFor q place name → ¬ HasKey s.objects (key_of place name) → Passes s q (Some a) object_exists
  absent a name placed named none = λ answer h.
      let same = about_name q a place h.0 name h.1 placed h.2 named in
      none (subst (λ (n : List ℕ). HasKey s.objects (key_of place n)) same.1 (subst (λ (r : Place). HasKey s.objects (key_of r h.1)) same.0 h.4))

  -- a creation has no conditions
  no_conditions : (a : Asked) → q.verb ≡ Post → Passes s q (Some a) conflict
  no_conditions a post = λ answer h. subst (λ (v : Verb). IsMeantForAnother v h.2 h.3) post h.7

  pub absent_passed : (name : List ℕ) → PassedAt s q place field_cases → q.verb ≡ Post → place.own ≡ None → IsNameFor q place name → ¬ HasKey s.objects (key_of place name) → PassedAt s q place conflict_cases
  absent_passed name passed post none named missing =
      passed_more s q place object_cases conflict
      (passed_more s q place (field_cases ++ no_object ∷ []) object_exists (nameless_passed passed none) (λ a placed. absent a name placed named missing))
      (λ a placed. no_conditions a post)

  pub conflict_refused : (answer : Answer) (name : List ℕ) (tree : Data) (object : Object) → PassedAt s q place object_cases → IsNameFor q place name → Holds s.objects (key_of place name) object
      → HasTree q tree → IsMeantForAnother q.verb tree object → answer ≡ conflict_answer place.of name → IsRefusedAt s q place answer
  conflict_refused answer name tree object passed named holds has another is =
      refused_at s q place object_cases (drop 11 refusals) conflict answer refl passed
      (λ a placed. (place, name, tree, object, record { placed = placed; named = named }, holds, has, another, is))

  pub bare_meant_passed : PassedAt s q place object_cases → ¬ GoesByBody q.verb q.body → PassedAt s q place conflict_cases
  bare_meant_passed passed bare = passed_more s q place object_cases conflict passed (λ a placed answer h. bare h.6.0)

  -- ---- the store

  pub no_required_passed : PassedAt s q place conflict_cases → ¬ GivesFields q.verb → PassedAt s q place missing_cases
  no_required_passed passed none = passed_more s q place conflict_cases missing_field passed (λ a placed answer h. none h.5)

  pub missing_refused : (answer : Answer) (name : List ℕ) (fields : List FieldPair) (row : FieldRow) → PassedAt s q place conflict_cases → IsNameFor q place name → GivesFields q.verb
      → AreGiven s q place name fields → IsFirstMissing place.of.table.rows fields row → answer ≡ missing_answer place.of name row.path → IsRefusedAt s q place answer
  missing_refused answer name fields row passed named gives given first is =
      refused_at s q place conflict_cases (drop 12 refusals) missing_field answer refl passed
      (λ a placed. (place, name, fields, row, record { placed = placed; named = named }, gives, given, first, is))

  pub full_refused : (answer : Answer) → PassedAt s q place missing_cases → q.verb ≡ Post → most_keys ≤ s.records → answer ≡ full_answer → IsRefusedAt s q place answer
  full_refused answer passed post many is =
      refused_at s q place missing_cases (drop 13 refusals) store_full answer refl passed (λ a placed. (post, many, is))

  pub room_passed : PassedAt s q place missing_cases → s.records < most_keys → PassedAt s q place full_cases
  room_passed passed room = passed_more s q place missing_cases store_full passed (λ a placed answer h. let many = h.1 in omega arith)

  -- what makes no object needs no room
  pub no_room_passed : PassedAt s q place missing_cases → q.verb ≢ Post → PassedAt s q place full_cases
  no_room_passed passed other = passed_more s q place missing_cases store_full passed (λ a placed answer h. other h.0)

  pub ended_refused : (answer : Answer) (name : List ℕ) → PassedAt s q place full_cases → IsNameFor q place name → WouldChange s q place name q.verb → last_revision ≤ s.revision
      → answer ≡ ended_answer → IsRefusedAt s q place answer
  ended_refused answer name passed named changes last is =
      refused_at s q place full_cases [] last_reached answer refl passed
      (λ a placed. (place, name, record { placed = placed; named = named }, changes, last, is))

  pub revision_passed : PassedAt s q place full_cases → s.revision < last_revision → PassedAt s q place refusals
  revision_passed passed more = passed_more s q place full_cases last_reached passed (λ a placed answer h. let last = h.4 in omega arith)
