-- What a request is to write: the fields that its body gives, for which object it is meant, and what it lacks.
use Rattle.std.specs.Prelude.{◌≡◌, ◌≢◌, ◌⊎◌, ℕ, List, [], Option, Some, None, true, IsSome, IsSomeAnd, codes, decimal, option_map}
use Rattle.basis.specs.First.{IsFirst}
use Rattle.conversion.specs.Reading.{Reads}
use Rattle.conversion.specs.Whole.{IsTextOf, metadata}
use Rattle.conversion.specs.declared.mode.Mode.TheVariants.{Body}
use Rattle.field_drop.specs.Dropping.{AreKept}
use Rattle.fields.specs.Map.{value_at}
use Rattle.fields.specs.declared.map.FieldPair.{FieldPair}
use Rattle.fields.specs.declared.table.FieldRow.{FieldRow}
use Rattle.http_front.specs.declared.request.Request.{Request}
use Rattle.http_front.specs.declared.request.Verb.{Verb}
use Rattle.http_front.specs.declared.request.Verb.TheVariants.{Get, Post, Put, Delete, Patch, Head, Other}
use Rattle.object_pages.specs.Documents.{uid_of}
use Rattle.object_state.specs.Objects.{Finds}
use Rattle.object_state.specs.State.{State}
use Rattle.object_state.specs.declared.object.Object.{Object}
use Rattle.request_body.specs.Members.{preconditions}
use Rattle.request_body.specs.Places.{Place, key_of, given_in}
use Rattle.serde_json.specs.Data.{Data, string}

-- ---- bodies

-- the method goes by its body; a deletion may have none
abbrev pub GoesByBody : Verb → List ℕ → Type 0
GoesByBody Post body = Unit {0}
GoesByBody Put body = Unit {0}
GoesByBody Delete body = body ≢ []
GoesByBody Get body = ⊥
GoesByBody Patch body = ⊥
GoesByBody Head body = ⊥
GoesByBody Other body = ⊥

-- the request makes an object or replaces its fields
abbrev pub GivesFields : Verb → Type 0
GivesFields Post = Unit {0}
GivesFields Put = Unit {0}
GivesFields Delete = ⊥
GivesFields Get = ⊥
GivesFields Patch = ⊥
GivesFields Head = ⊥
GivesFields Other = ⊥

-- the body is this JSON object, and the request goes by it
abbrev pub HasTree : Request → Data → Type 0
HasTree q tree = GoesByBody q.verb q.body × IsTextOf q.body tree

-- ---- fields

-- the fields that a body gives, by these rows: what it is read as, with defaults, but for fields that
-- are off and that the stored object, if there is one, doesn't hold
pub record AreGivenBy
    (rows : List FieldRow) (tree : Data)
    (stored : Option (List FieldPair)) (fields : List FieldPair)
    : Type 0 where
  pub read : List FieldPair
  pub reads : Reads Body rows tree read
  pub kept : AreKept rows stored read fields

-- the fields of what is stored
abbrev pub held_fields : Option Object → Option (List FieldPair)
held_fields stored = option_map (λ object. object.fields) stored

-- the fields that the request gives the object of this name, which may be stored already
pub record AreGiven
    (s : State) (q : Request) (place : Place) (name : List ℕ) (fields : List FieldPair)
    : Type 0 where
  pub tree : Data
  pub text : IsTextOf q.body tree
  pub stored : Option Object
  pub found : Finds s.objects (key_of place name) stored
  pub given : AreGivenBy place.of.table.rows tree (held_fields stored) fields

-- a required field is there
abbrev pub IsProvided : List FieldPair → FieldRow → Type 0
IsProvided fields row = row.required ≡ true → IsSome (value_at fields row.id)

-- a required field isn't there
abbrev pub IsMissing : List FieldPair → FieldRow → Type 0
IsMissing fields row = (row.required ≡ true) × (value_at fields row.id ≡ None)

-- the first row of a required field that isn't there
abbrev pub IsFirstMissing : List FieldRow → List FieldPair → FieldRow → Type 0
IsFirstMissing rows fields row =
    IsFirst (IsProvided fields) (IsMissing fields) rows row

-- ---- conditions

-- a text that is given is a condition; an empty one is none
abbrev pub IsCondition : Option Data → List ℕ → Type 0
IsCondition given text = (given ≡ Some (string text)) × (text ≢ [])

-- the condition that is given isn't the object's own text
abbrev pub IsAnother : Option Data → List ℕ → Type 0
IsAnother given own = (text : List ℕ) × IsCondition given text × (text ≢ own)

-- the member that has the conditions of the request
abbrev pub conditions_in : Verb → Option (List ℕ)
conditions_in Put = Some metadata
conditions_in Delete = Some preconditions
conditions_in Get = None
conditions_in Post = None
conditions_in Patch = None
conditions_in Head = None
conditions_in Other = None

-- the request is meant for another revision of the object, or for another object
abbrev pub IsMeantForAnother : Verb → Data → Object → Type 0
IsMeantForAnother verb tree object = IsSomeAnd (conditions_in verb) (λ outer.
    IsAnother (given_in outer (codes "resourceVersion") tree) (decimal object.revision)
    ⊎ IsAnother (given_in outer (codes "uid") tree) (uid_of object))
