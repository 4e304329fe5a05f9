-- A request for objects at a place, and the state that it finds, on its way through the refusals.
-- What is said of it holds whatever the path is that names the place.
use Rattle.std.specs.Prelude.{◌≡◌, ℕ, List, [], ◌∷◌, Option, Some, None, All, IfSome, IsSome, MatchOption}
use Rattle.std.specs.Str.{IsUtf8}
use Rattle.fields.specs.Fits.{Fits}
use Rattle.fields.specs.declared.map.FieldPair.{FieldPair}
use Rattle.http_front.specs.declared.request.Request.{Request}
use Rattle.http_front.specs.declared.request.Verb.{Verb}
use Rattle.http_front.specs.declared.request.Verb.TheVariants.{Get, Post, Put, Delete, Patch, Head, Other}
use Rattle.object_journal.specs.declared.key.Key.{Key}
use Rattle.object_pages.specs.Documents.{IsShown}
use Rattle.object_state.specs.Objects.{Holds}
use Rattle.object_state.specs.State.{State}
use Rattle.object_state.specs.declared.object.Change.{Change}
use Rattle.object_state.specs.declared.object.Object.{Object}
use Rattle.request_body.specs.Members.{FitsMember, members_of}
use Rattle.request_body.specs.Places.{Place, IsNameFor, key_of, place_of, place_seen}
use Rattle.request_body.specs.Writes.{AreGiven, GoesByBody, HasTree}
use Rattle.request_target.specs.Targets.{Asked, Resource}
use Rattle.plain_machine.specs.Answers.{document}
use Rattle.plain_machine.specs.Heads.{PassesHead}
use Rattle.plain_machine.specs.Refusals.{Refusal, IsRefused, Passes, WouldChange, not_served, not_allowed, bad_query, no_length, too_large, bad_body, bad_member, bad_field, no_object, object_exists, conflict, missing_field, store_full}
use Rattle.plain_machine.specs.Sound.{IsWithin}
use Rattle.plain_machine.specs.Steps.{IsGranted, IsWritten}
use Rattle.plain_machine.specs.declared.answer.Answer.{Answer}
use Rattle.plain_machine.specs.declared.call.Call.{Call}
use Rattle.plain_machine.specs.declared.decision.Decision.{Decision}
use Rattle.plain_machine.specs.declared.machine.Machine.{Machine}
use Rattle.serde_json.specs.Data.{Data}

-- the request isn't refused by its head, and what it asks for is this place
pub record IsAskedAt (q : Request) (a : Asked) (place : Place) : Type 0 where
  pub head : PassesHead q a
  pub placed : place_of a ≡ Some place

-- the request, which is for objects at this place, is refused with this answer
abbrev pub IsRefusedAt : State → Request → Place → Answer → Type 0
IsRefusedAt s q place answer = (a : Asked) → IsAskedAt q a place → IsRefused s q (Some a) answer

abbrev pub IsRefusedIn : Call → Answer → Type 0
IsRefusedIn c answer = IsRefusedAt c.state.now.state c.request.now (place_seen c.place) answer

-- the method that an object, or a place of objects without a name, has
abbrev pub IsMethodAt : Option (List ℕ) → Verb → Type 0
IsMethodAt own Get = IsSome own
IsMethodAt own Post = own ≡ None
IsMethodAt own Put = IsSome own
IsMethodAt own Delete = IsSome own
IsMethodAt own Patch = ⊥
IsMethodAt own Head = ⊥
IsMethodAt own Other = ⊥

-- the namespace and the name of the place are texts
pub record AreTexts (place : Place) : Type 0 where
  pub namespace : IsUtf8 place.namespace
  pub own : IfSome place.own IsUtf8

-- ---- how far the request has come

-- none of these cases holds of the request, which is for objects at this place
abbrev pub PassedAt : State → Request → Place → List Refusal → Type 0
PassedAt s q place cases = (a : Asked) → IsAskedAt q a place → All (Passes s q (Some a)) cases

abbrev pub Passed : Call → List Refusal → Type 0
Passed c cases = PassedAt c.state.now.state c.request.now (place_seen c.place) cases

-- the cases up to the head's last one, and so on
abbrev pub head_cases : List Refusal
head_cases = not_served ∷ not_allowed ∷ bad_query ∷ no_length ∷ too_large ∷ []

abbrev pub member_cases : List Refusal
member_cases =
    not_served ∷ not_allowed ∷ bad_query ∷ no_length ∷ too_large
    ∷ bad_body ∷ bad_member ∷ []

abbrev pub field_cases : List Refusal
field_cases =
    not_served ∷ not_allowed ∷ bad_query ∷ no_length ∷ too_large
    ∷ bad_body ∷ bad_member ∷ bad_field ∷ []

abbrev pub object_cases : List Refusal
object_cases =
    not_served ∷ not_allowed ∷ bad_query ∷ no_length ∷ too_large
    ∷ bad_body ∷ bad_member ∷ bad_field
    ∷ no_object ∷ object_exists ∷ []

abbrev pub conflict_cases : List Refusal
conflict_cases =
    not_served ∷ not_allowed ∷ bad_query ∷ no_length ∷ too_large
    ∷ bad_body ∷ bad_member ∷ bad_field
    ∷ no_object ∷ object_exists ∷ conflict ∷ []

abbrev pub missing_cases : List Refusal
missing_cases =
    not_served ∷ not_allowed ∷ bad_query ∷ no_length ∷ too_large
    ∷ bad_body ∷ bad_member ∷ bad_field
    ∷ no_object ∷ object_exists ∷ conflict ∷ missing_field ∷ []

abbrev pub full_cases : List Refusal
full_cases =
    not_served ∷ not_allowed ∷ bad_query ∷ no_length ∷ too_large
    ∷ bad_body ∷ bad_member ∷ bad_field
    ∷ no_object ∷ object_exists ∷ conflict ∷ missing_field ∷ store_full ∷ []

-- ---- what is found on the way

-- the request goes by this body, whose members fit
pub record HasBody (c : Call) (tree : Data) : Type 0 where
  pub has : HasTree c.request.now tree
  pub fits : All (FitsMember (place_seen c.place) tree) (members_of c.request.now.verb)

-- this is the body that the request goes by, if it goes by one
abbrev pub IsBodyOf : Call → Option Data → Type 0
IsBodyOf c tree = MatchOption tree (¬ GoesByBody c.request.now.verb c.request.now.body) (HasBody c)

-- the request is about the object with this key
abbrev pub IsKeyFor : Call → Key → Type 0
IsKeyFor c key = (name : List ℕ) × IsNameFor c.request.now (place_seen c.place) name
    × (key ≡ key_of (place_seen c.place) name)

-- the fields that the request gives the object with this key
abbrev pub AreGivenIn : Call → Key → List FieldPair → Type 0
AreGivenIn c key fields = (name : List ℕ) × IsNameFor c.request.now (place_seen c.place) name
    × (key ≡ key_of (place_seen c.place) name)
    × AreGiven c.state.now.state c.request.now (place_seen c.place) name fields

-- the request, if it isn't refused, changes the state
abbrev pub IsToChange : Call → Type 0
IsToChange c = (name : List ℕ) × IsNameFor c.request.now (place_seen c.place) name
    × WouldChange c.state.now.state c.request.now (place_seen c.place) name c.request.now.verb

-- the objects that are stored of the place's resource fit its version
abbrev pub FitAtPlace : Call → Type 0
FitAtPlace c = (key : Key) (object : Object) → Holds c.state.now.state.objects key object
    → key.group ≡ c.place.of.served.now.group → key.resource ≡ c.place.of.served.now.resource
    → Fits c.place.of.table.now.rows object.fields

-- ---- what becomes of it

-- the answer shows the object
abbrev pub ShowsObject : ℕ → Resource → Key → Object → Answer → Type 0
ShowsObject code r key object answer =
    (tree : Data) × IsShown r key object tree × (answer ≡ document code tree)

-- the change is of the place's resource, keeps within the limits of a store, and leaves an object
-- that fits, if it leaves one
pub record IsSoundIn (c : Call) (change : Change) : Type 0 where
  pub group : change.key.group ≡ c.place.of.served.now.group
  pub resource : change.key.resource ≡ c.place.of.served.now.resource
  pub within : IsWithin c.state.now.state change
  pub fits : (object : Object) → change.object ≡ Some object
      → Fits c.place.of.table.now.rows object.fields

-- the answer is the object that the request is about, whole
abbrev pub IsReadIn : Call → Answer → Type 0
IsReadIn c answer = (key : Key) × (found : Object) × IsKeyFor c key
    × Holds c.state.now.state.objects key found
    × ShowsObject 200 (place_seen c.place).of key found answer

-- the request, as it isn't refused, has this answer, and makes this change of the state, if it
-- makes one
abbrev pub IsWrittenIn : Call → Decision → Type 0
IsWrittenIn c d = (name : List ℕ) × IsNameFor c.request.now (place_seen c.place) name
    × IsWritten c.state.now.state c.request.now c.request.now.verb
    (place_seen c.place) name d.answer d.change

-- the request, as it isn't refused, is granted, with this answer and this change
abbrev pub IsGrantedIn : Call → Decision → Type 0
IsGrantedIn c d = (m : Machine) (a : Asked) → IsAskedAt c.request.now a (place_seen c.place)
    → IsGranted m c.state.now.state c.request.now a d.answer d.change
