-- The members of a request's body that say which object it is about, and which one it is meant for.
-- They are tested in an order, and the first that doesn't fit is told. A member that isn't there fits,
-- but for the name of an object that is to be made.
use Rattle.std.specs.Prelude.{◌≡◌, ℕ, List, [], ◌∷◌, Option, None, IfSome, IsSome, codes}
use Rattle.basis.specs.First.{IsFirst}
use Rattle.conversion.specs.Trees.{IsObject}
use Rattle.conversion.specs.Whole.{api_version, kind, metadata}
use Rattle.http_front.specs.Paths.{IsObjectName}
use Rattle.http_front.specs.declared.request.Verb.{Verb}
use Rattle.http_front.specs.declared.request.Verb.TheVariants.{Get, Post, Put, Delete, Patch, Head, Other}
use Rattle.lifecycle.specs.Names.{group_version}
use Rattle.release_view.specs.declared.served.ServedVersion.{ServedVersion}
use Rattle.request_body.specs.Places.{Place, given, given_in}
use Rattle.request_body.specs.declared.member.Member.{Member}
use Rattle.request_body.specs.declared.member.Member.TheVariants.{Version, Kind, Metadata, Name, Namespace, Revision, Uid, Preconditions, WantedRevision, WantedUid}
use Rattle.serde_json.specs.Data.{Data, string}

abbrev pub preconditions : List ℕ
preconditions = codes "preconditions"

-- the member as a refusal tells it: its name, behind that of the member that it is in
abbrev pub member_text : Member → List ℕ
member_text Version = codes "apiVersion"
member_text Kind = codes "kind"
member_text Metadata = codes "metadata"
member_text Name = codes "metadata.name"
member_text Namespace = codes "metadata.namespace"
member_text Revision = codes "metadata.resourceVersion"
member_text Uid = codes "metadata.uid"
member_text Preconditions = codes "preconditions"
member_text WantedRevision = codes "preconditions.resourceVersion"
member_text WantedUid = codes "preconditions.uid"

-- those of an object, and those of a deletion, in the order in which they are tested
abbrev pub object_members : List Member
object_members = Version ∷ Kind ∷ Metadata ∷ Name ∷ Namespace ∷ Revision ∷ Uid ∷ []

abbrev pub deletion_members : List Member
deletion_members = Preconditions ∷ WantedRevision ∷ WantedUid ∷ []

abbrev pub members_of : Verb → List Member
members_of Post = object_members
members_of Put = object_members
members_of Delete = deletion_members
members_of Get = []
members_of Patch = []
members_of Head = []
members_of Other = []

-- ---- when a member fits

-- the text by which a body names the version
abbrev pub version_text : ServedVersion → List ℕ
version_text served = group_version served.group served.version

abbrev pub IsText : Data → Type 0
IsText json = (text : List ℕ) × (json ≡ string text)

-- the name in the path, where there is one
abbrev pub IsOwnName : Option (List ℕ) → List ℕ → Type 0
IsOwnName own text = IfSome own (λ name. text ≡ name)

-- an object's name; where the path has one it is that
abbrev pub IsName : Option (List ℕ) → Data → Type 0
IsName own json =
    (text : List ℕ) × (json ≡ string text) × IsObjectName text × IsOwnName own text

-- an object that is to be made has a name
abbrev pub HasName : Option (List ℕ) → Option Data → Type 0
HasName own name = own ≡ None → IsSome name

-- a resource version; where an object is to be made, an empty one
abbrev pub IsRevision : Option (List ℕ) → Data → Type 0
IsRevision own json = (text : List ℕ) × (json ≡ string text) × (own ≡ None → text ≡ [])

abbrev pub FitsMember : Place → Data → Member → Type 0
FitsMember place tree Version =
    IfSome (given api_version tree) (λ json. json ≡ string (version_text place.of.served))
FitsMember place tree Kind = IfSome (given kind tree) (λ json. json ≡ string place.of.served.kind)
FitsMember place tree Metadata = IfSome (given metadata tree) IsObject
FitsMember place tree Name =
    HasName place.own (given_in metadata (codes "name") tree)
    × IfSome (given_in metadata (codes "name") tree) (IsName place.own)
FitsMember place tree Namespace =
    IfSome (given_in metadata (codes "namespace") tree) (λ json. json ≡ string place.namespace)
FitsMember place tree Revision =
    IfSome (given_in metadata (codes "resourceVersion") tree) (IsRevision place.own)
FitsMember place tree Uid = IfSome (given_in metadata (codes "uid") tree) IsText
FitsMember place tree Preconditions = IfSome (given preconditions tree) IsObject
FitsMember place tree WantedRevision =
    IfSome (given_in preconditions (codes "resourceVersion") tree) IsText
FitsMember place tree WantedUid = IfSome (given_in preconditions (codes "uid") tree) IsText

-- the first member that doesn't fit
abbrev pub IsMisfit : Verb → Place → Data → Member → Type 0
IsMisfit verb place tree m =
    IsFirst (FitsMember place tree) (λ x. ¬ FitsMember place tree x) (members_of verb) m
