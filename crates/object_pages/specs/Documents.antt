-- The documents of objects: an object whole, a list of objects, and what answers a deletion.
use Rattle.std.specs.Prelude.{◌≡◌, ℕ, List, [], ◌∷◌, ◌++◌, Bool, true, false, Option, Some, None, codes, decimal}
use Rattle.std.specs.List.{AllZip}
use Rattle.conversion.specs.Whole.{IsWhole}
use Rattle.lifecycle.specs.Names.{group_version}
use Rattle.object_journal.specs.declared.key.Key.{Key}
use Rattle.object_state.specs.Objects.{objects_of, objects_inside}
use Rattle.object_state.specs.declared.object.Object.{Object}
use Rattle.object_state.specs.declared.object.Stored.{Stored}
use Rattle.request_target.specs.Targets.{Resource}
use Rattle.serde_json.specs.Data.{Data, string, array, object, member, no_members}
use Rattle.serde_json.specs.View.{items_of}
use Rattle.serde_json.specs.Written.{compact_text}

-- ---- one object

-- an object's uid: its creating revision, behind a `u`
abbrev pub uid_of : Object → List ℕ
uid_of x = codes "u" ++ decimal x.created

abbrev pub inside_tree : List ℕ → List ℕ → List ℕ → List ℕ → Data
inside_tree name namespace revision uid =
    object
    (member (codes "name") (string name)
    (member (codes "namespace") (string namespace)
    (member (codes "resourceVersion") (string revision)
    (member (codes "uid") (string uid)
    no_members))))

abbrev pub outside_tree : List ℕ → List ℕ → List ℕ → Data
outside_tree name revision uid =
    object
    (member (codes "name") (string name)
    (member (codes "resourceVersion") (string revision)
    (member (codes "uid") (string uid)
    no_members)))

-- the namespace is told of a namespaced resource
abbrev pub metadata_tree : Bool → Key → Object → Data
metadata_tree true key x =
    inside_tree key.name key.namespace (decimal x.revision) (uid_of x)
metadata_tree false key x =
    outside_tree key.name (decimal x.revision) (uid_of x)

-- the object as a whole, in the version of the resource
abbrev pub IsShown : Resource → Key → Object → Data → Type 0
IsShown r key x tree =
    IsWhole r.table (group_version r.served.group r.served.version) x.fields
    (Some (metadata_tree r.served.namespaced key x)) tree

-- ---- lists

-- the objects of the resource; those in the namespace, where one is asked for. Of objects in key
-- order they stand by namespace, then by name
abbrev pub listed : Resource → Option (List ℕ) → List Stored → List Stored
listed r None objects = objects_of r.served.group r.served.resource objects
listed r (Some namespace) objects =
    objects_inside r.served.group r.served.resource namespace objects

abbrev pub AreShown : Resource → List Stored → List Data → Type 0
AreShown r objects trees = AllZip (λ x tree. IsShown r x.key x.object tree) objects trees

abbrev pub revision_tree : List ℕ → Data
revision_tree revision = object (member (codes "resourceVersion") (string revision) no_members)

abbrev pub list_tree : List ℕ → List Data → List ℕ → List ℕ → Data
list_tree version items kind revision =
    object
    (member (codes "apiVersion") (string version)
    (member (codes "items") (array (items_of items))
    (member (codes "kind") (string kind)
    (member (codes "metadata") (revision_tree revision)
    no_members))))

-- the list of these objects, at the revision of the state
abbrev pub IsListOf : Resource → ℕ → List Stored → Data → Type 0
IsListOf r revision objects tree = (items : List Data) × AreShown r objects items
    × (tree ≡ list_tree (group_version r.served.group r.served.version) items
    (r.served.kind ++ codes "List") (decimal revision))

-- ---- deletions

abbrev pub deleted_tree : Data
deleted_tree =
    object
    (member (codes "apiVersion") (string (codes "v1"))
    (member (codes "kind") (string (codes "Status"))
    (member (codes "metadata") (object no_members)
    (member (codes "status") (string (codes "Success"))
    no_members))))

-- ---- bodies

-- a document as the body of a reply: its compact text, and one line feed
abbrev pub document_text : Data → List ℕ
document_text tree = compact_text tree ++ 10 ∷ []
