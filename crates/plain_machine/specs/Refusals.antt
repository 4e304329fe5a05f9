-- Refusals: one list of cases, each with its condition and its answer. The first whose condition
-- holds is the answer.
use Rattle.std.specs.Prelude.{◌≡◌, ◌≢◌, ◌<◌, ◌≤◌, ℕ, List, [], ◌∷◌, ◌++◌, Option, Some, None, All, IsSomeAnd, codes}
use Rattle.basis.specs.First.{IsFirst}
use Rattle.conversion.specs.Paths.{dotted, fault_text}
use Rattle.conversion.specs.Reading.{IsFirstFault}
use Rattle.conversion.specs.Trees.{Names}
use Rattle.conversion.specs.Whole.{IsTextOf}
use Rattle.conversion.specs.declared.fault.ReadCause.{ReadCause}
use Rattle.conversion.specs.declared.mode.Mode.TheVariants.{Body}
use Rattle.fields.specs.declared.map.FieldPair.{FieldPair}
use Rattle.fields.specs.declared.table.FieldRow.{FieldRow}
use Rattle.http_front.specs.Refusals.{refusal_text}
use Rattle.http_front.specs.declared.reply.Page.TheVariants.{Json}
use Rattle.http_front.specs.declared.request.Length.{Length}
use Rattle.http_front.specs.declared.request.Length.TheVariants.{Given, Chunked}
use Rattle.http_front.specs.declared.request.Request.{Request}
use Rattle.http_front.specs.declared.request.Verb.{Verb}
use Rattle.http_front.specs.declared.request.Verb.TheVariants.{Get, Post, Put, Delete, Patch, Head, Other}
use Rattle.object_journal.specs.Journal.{most_keys, last_revision}
use Rattle.object_state.specs.Objects.{Holds, HasKey, Finds}
use Rattle.object_state.specs.State.{State}
use Rattle.object_state.specs.declared.object.Object.{Object}
use Rattle.request_body.specs.Members.{IsMisfit, member_text}
use Rattle.request_body.specs.Places.{Place, IsAbout, key_of, place_of}
use Rattle.request_body.specs.Writes.{AreGiven, GivesFields, GoesByBody, HasTree, IsFirstMissing, IsMeantForAnother}
use Rattle.request_body.specs.declared.member.Member.{Member}
use Rattle.request_target.specs.Methods.{Allows, allow_text, methods}
use Rattle.request_target.specs.Queries.{unsupported}
use Rattle.request_target.specs.Targets.{Asked, Resource}
use Rattle.request_target.specs.declared.target.Methods.{Methods}
use Rattle.plain_machine.specs.Answers.{refusal}
use Rattle.plain_machine.specs.declared.answer.Answer.{Answer}
use Rattle.serde_json.specs.Data.{Data}

-- ---- limits

abbrev pub longest_body : ℕ
longest_body = 65536

abbrev pub IsTooLong : Length → Type 0
IsTooLong (Given n) = longest_body < n
IsTooLong Chunked = ⊥

-- ---- changes

-- the request is to change the state: a creation and a deletion do; new fields do where they are
-- others
abbrev pub WouldChange : State → Request → Place → List ℕ → Verb → Type 0
WouldChange s q place name Post = Unit {0}
WouldChange s q place name Delete = Unit {0}
WouldChange s q place name Put = (object : Object) × (fields : List FieldPair)
    × Finds s.objects (key_of place name) (Some object) × AreGiven s q place name fields
    × (fields ≢ object.fields)
WouldChange s q place name Get = ⊥
WouldChange s q place name Patch = ⊥
WouldChange s q place name Head = ⊥
WouldChange s q place name Other = ⊥

-- ---- answers

-- a resource or a kind with its group; alone in the core group
abbrev pub with_group : List ℕ → List ℕ → List ℕ
with_group word [] = word
with_group word (c ∷ cs) = word ++ (codes "." ++ (c ∷ cs))

-- the object, by its resource and its name
abbrev pub object_text : Resource → List ℕ → List ℕ
object_text of name =
    with_group of.served.resource of.served.group ++ (codes " \"" ++ (name ++ codes "\""))

-- the object, by its kind and its name
abbrev pub kind_text : Resource → List ℕ → List ℕ
kind_text of name =
    with_group of.served.kind of.served.group ++ (codes " \"" ++ (name ++ codes "\""))

abbrev pub not_served_answer : Answer
not_served_answer =
    refusal 404 (codes "NotFound") (codes "the server could not find the requested resource")

abbrev pub not_allowed_answer : Methods → Answer
not_allowed_answer methods = record {
  code = 405;
  page = Json;
  allow = allow_text methods;
  body = refusal_text 405
      (codes "the server does not allow this method on the requested resource")
      (codes "MethodNotAllowed");
}

abbrev pub bad_query_answer : List ℕ → Answer
bad_query_answer name =
    refusal 400 (codes "BadRequest") (codes "query " ++ (name ++ codes " is not supported"))

abbrev pub no_length_answer : Answer
no_length_answer = refusal 411 (codes "LengthRequired") (codes "a body needs a Content-Length")

abbrev pub too_large_answer : Answer
too_large_answer =
    refusal 413 (codes "RequestEntityTooLarge") (codes "Request entity too large: limit is 65536")

abbrev pub bad_body_answer : Answer
bad_body_answer = refusal 400 (codes "BadRequest") (codes "the body is not a JSON object")

abbrev pub bad_member_answer : Member → Answer
bad_member_answer member =
    refusal 400 (codes "BadRequest")
    (codes "the body's " ++ (member_text member ++ codes " does not fit"))

abbrev pub bad_field_answer : Names → ReadCause → Answer
bad_field_answer path cause = refusal 400 (codes "BadRequest") (fault_text path cause)

abbrev pub no_object_answer : Resource → List ℕ → Answer
no_object_answer of name =
    refusal 404 (codes "NotFound") (object_text of name ++ codes " not found")

abbrev pub exists_answer : Resource → List ℕ → Answer
exists_answer of name =
    refusal 409 (codes "AlreadyExists") (object_text of name ++ codes " already exists")

abbrev pub conflict_text : List ℕ
conflict_text =
    codes ": the object has been modified; please apply your changes to the latest version and try again"

abbrev pub conflict_answer : Resource → List ℕ → Answer
conflict_answer of name =
    refusal 409 (codes "Conflict")
    (codes "Operation cannot be fulfilled on " ++ (object_text of name ++ conflict_text))

abbrev pub missing_answer : Resource → List ℕ → Names → Answer
missing_answer of name path = refusal 422 (codes "Invalid")
    (kind_text of name ++ (codes " is invalid: " ++ (dotted path ++ codes ": Required value")))

abbrev pub full_answer : Answer
full_answer = refusal 507 (codes "StoreFull") (codes "the store holds 4096 records")

abbrev pub ended_answer : Answer
ended_answer = refusal 507 (codes "StoreFull") (codes "the store is at revision 1000000")

-- ---- the list

pub data Refusal : Type 0 where
  not_served : Refusal
  not_allowed : Refusal
  bad_query : Refusal
  no_length : Refusal
  too_large : Refusal
  bad_body : Refusal
  bad_member : Refusal
  bad_field : Refusal
  no_object : Refusal
  object_exists : Refusal
  conflict : Refusal
  missing_field : Refusal
  store_full : Refusal
  last_reached : Refusal

-- in the order in which they are tested
abbrev pub refusals : List Refusal
refusals =
    not_served ∷ not_allowed ∷ bad_query ∷ no_length ∷ too_large
    ∷ bad_body ∷ bad_member ∷ bad_field
    ∷ no_object ∷ object_exists ∷ conflict ∷ missing_field ∷ store_full ∷ last_reached ∷ []

-- the case holds of the request, in this state, where its path asks for this, if for anything; and
-- it gives this answer
abbrev pub Refuses : State → Request → Option Asked → Refusal → Answer → Type 0
Refuses s q asked not_served answer = (asked ≡ None) × (answer ≡ not_served_answer)
Refuses s q asked not_allowed answer = IsSomeAnd asked (λ a.
    (¬ Allows (methods a) q.verb) × (answer ≡ not_allowed_answer (methods a)))
Refuses s q asked bad_query answer = (name : List ℕ)
    × (unsupported q.query ≡ Some name) × (answer ≡ bad_query_answer name)
Refuses s q asked no_length answer = (q.length ≡ Chunked) × (answer ≡ no_length_answer)
Refuses s q asked too_large answer = IsTooLong q.length × (answer ≡ too_large_answer)
Refuses s q asked bad_body answer =
    GoesByBody q.verb q.body × ((tree : Data) → ¬ IsTextOf q.body tree) × (answer ≡ bad_body_answer)
Refuses s q asked bad_member answer = IsSomeAnd asked (λ a.
    (place : Place) × (tree : Data) × (member : Member)
    × (place_of a ≡ Some place) × HasTree q tree × IsMisfit q.verb place tree member
    × (answer ≡ bad_member_answer member))
Refuses s q asked bad_field answer = IsSomeAnd asked (λ a.
    (place : Place) × (tree : Data) × (path : Names) × (cause : ReadCause)
    × (place_of a ≡ Some place) × GivesFields q.verb × IsTextOf q.body tree
    × IsFirstFault Body place.of.table.rows tree path cause
    × (answer ≡ bad_field_answer path cause))
Refuses s q asked no_object answer = IsSomeAnd asked (λ a. (place : Place) × (name : List ℕ)
    × IsAbout q a place name × (place.own ≡ Some name) × (¬ HasKey s.objects (key_of place name))
    × (answer ≡ no_object_answer place.of name))
Refuses s q asked object_exists answer = IsSomeAnd asked (λ a. (place : Place) × (name : List ℕ)
    × IsAbout q a place name × (place.own ≡ None) × HasKey s.objects (key_of place name)
    × (answer ≡ exists_answer place.of name))
Refuses s q asked conflict answer = IsSomeAnd asked (λ a.
    (place : Place) × (name : List ℕ) × (tree : Data) × (object : Object)
    × IsAbout q a place name × Holds s.objects (key_of place name) object
    × HasTree q tree × IsMeantForAnother q.verb tree object
    × (answer ≡ conflict_answer place.of name))
Refuses s q asked missing_field answer = IsSomeAnd asked (λ a.
    (place : Place) × (name : List ℕ) × (fields : List FieldPair) × (row : FieldRow)
    × IsAbout q a place name × GivesFields q.verb × AreGiven s q place name fields
    × IsFirstMissing place.of.table.rows fields row
    × (answer ≡ missing_answer place.of name row.path))
Refuses s q asked store_full answer =
    (q.verb ≡ Post) × (most_keys ≤ s.records) × (answer ≡ full_answer)
Refuses s q asked last_reached answer = IsSomeAnd asked (λ a. (place : Place) × (name : List ℕ)
    × IsAbout q a place name × WouldChange s q place name q.verb
    × (last_revision ≤ s.revision) × (answer ≡ ended_answer))

-- the case doesn't hold
abbrev pub Passes : State → Request → Option Asked → Refusal → Type 0
Passes s q asked refusal = (answer : Answer) → ¬ Refuses s q asked refusal answer

-- the request is refused with this answer, that of the first case that holds
abbrev pub IsRefused : State → Request → Option Asked → Answer → Type 0
IsRefused s q asked answer =
    (r : Refusal) × IsFirst (Passes s q asked) (λ x. Refuses s q asked x answer) refusals r

-- no case holds
abbrev pub IsNotRefused : State → Request → Option Asked → Type 0
IsNotRefused s q asked = All (Passes s q asked) refusals
