-- Where a request reads or writes objects, and which object it is about.
use Rattle.std.specs.Prelude.{◌≡◌, ℕ, List, [], Option, Some, None, MatchOption, codes, option_and_then, option_copied}
use Rattle.conversion.specs.Whole.{IsTextOf, metadata}
use Rattle.http_front.specs.declared.request.Request.{Request}
use Rattle.http_front.specs.declared.request.Verb.TheVariants.{Post}
use Rattle.object_journal.specs.declared.key.Key.{Key}
use Rattle.request_target.specs.Targets.{Asked, Resource, releases, gates, groups, group, resources, everywhere, inside, object, resource_seen}
use Rattle.request_body.specs.declared.place.Place.{Place as PlaceS}
use Rattle.serde_json.specs.Data.{Data, null, boolean, number, string, array, object as json_object}
use Rattle.serde_json.specs.Find.{get}

-- ---- what a body gives

abbrev pub unless_null : Data → Option Data
unless_null null = None
unless_null (boolean b) = Some (boolean b)
unless_null (number n) = Some (number n)
unless_null (string s) = Some (string s)
unless_null (array ds) = Some (array ds)
unless_null (json_object ms) = Some (json_object ms)

-- what a member of the object gives; one that is `null` counts as absent
abbrev pub given : List ℕ → Data → Option Data
given name tree = option_and_then unless_null (get name tree)

-- what a member within a member gives
abbrev pub given_in : List ℕ → List ℕ → Data → Option Data
given_in outer name tree = option_and_then (given name) (given outer tree)

-- ---- places

-- a resource, a namespace, which is empty where there is none, and the name of an object, where the path has one
pub record Place : Type 0 where
  pub of : Resource
  pub namespace : List ℕ
  pub own : Option (List ℕ)

abbrev pub place_of : Asked → Option Place
place_of (everywhere of) = Some (record { of = of; namespace = []; own = None })
place_of (inside of namespace) = Some (record { of = of; namespace = namespace; own = None })
place_of (object of namespace name) =
    Some (record { of = of; namespace = namespace; own = Some name })
place_of releases = None
place_of gates = None
place_of groups = None
place_of (group name) = None
place_of (resources g v) = None

-- the key of the place's object with this name
abbrev pub key_at : Resource → List ℕ → List ℕ → Key
key_at of namespace name = record {
  group = of.served.group;
  resource = of.served.resource;
  namespace = namespace;
  name = name;
}

-- the body names the object that is to be made
abbrev pub IsNamedByBody : List ℕ → List ℕ → Type 0
IsNamedByBody body name =
    (tree : Data) × IsTextOf body tree
    × (given_in metadata (codes "name") tree ≡ Some (string name))

-- the request is about the object of this name: the one in its path, or the one that it is to make
abbrev pub IsNameFor : Request → Place → List ℕ → Type 0
IsNameFor q place name =
    MatchOption place.own ((q.verb ≡ Post) × IsNamedByBody q.body name) (λ own. name ≡ own)

-- the request is about the object with this name at this place
pub record IsAbout (q : Request) (asked : Asked) (place : Place) (name : List ℕ) : Type 0 where
  pub placed : place_of asked ≡ Some place
  pub named : IsNameFor q place name

abbrev pub key_of : Place → List ℕ → Key
key_of place name = key_at place.of place.namespace name

-- ---- as the code has them

abbrev pub place_seen : PlaceS → Place
place_seen p = record {
  of = resource_seen p.of;
  namespace = p.namespace.now;
  own = option_copied p.own;
}
