-- The requests that draws choose, and their bytes. Each definition with a state begins to draw from it.
use Rattle.std.specs.Prelude.{◌≡◌, ℕ, ◌==◌, Bool, true, false, if◌then◌else◌, List, [], ◌∷◌, ◌++◌, Option, Some, None, length, codes, decimal, nat_lt}
use Rattle.std.specs.List.{slice_get}
use Rattle.conversion.specs.Showing.{Shows}
use Rattle.conversion.specs.Whole.{metadata}
use Rattle.fields.specs.declared.map.FieldPair.{FieldPair}
use Rattle.fields.specs.declared.table.FieldRow.{FieldRow}
use Rattle.fields.specs.declared.table.VersionTable.{VersionTable}
use Rattle.lifecycle.specs.Names.{group_version}
use Rattle.release_view.specs.Served.{served_of, shown_name}
use Rattle.release_view.specs.Views.{Viewed, table_in}
use Rattle.release_view.specs.declared.served.ServedVersion.{ServedVersion}
use Rattle.serde_json.specs.Data.{Data, string, object, Members, no_members, member, put}
use Rattle.serde_json.specs.Written.{compact_text}
use Rattle.workload.specs.Draws.{next, draw}
use Rattle.workload.specs.Values.{fields_of, behind_fields}
use Rattle.workload.specs.declared.choice.Action.{Action}
use Rattle.workload.specs.declared.choice.Action.TheVariants.{Create, Replace, ReadOne, ReadAll, Remove}
use Rattle.workload.specs.declared.choice.Choice.{Choice}
use Rattle.workload.specs.declared.request.Request.{Request}

-- ---- what is chosen

-- what the number from 0 to 7 stands for
abbrev pub action_of : ℕ → Action
action_of a =
    if nat_lt a 3 then Create
    else if nat_lt a 5 then Replace
    else if a == 5 then ReadOne
    else if a == 6 then ReadAll
    else Remove

-- only a request that creates or replaces an object has a body
abbrev pub has_body : Action → Bool
has_body Create = true
has_body Replace = true
has_body ReadOne = false
has_body ReadAll = false
has_body Remove = false

-- the action, the name of its object, and the fields that it gives
abbrev pub chosen : List FieldRow → ℕ → Choice
chosen rows x =
    let action = action_of (draw 8 x) in
    record {
      action = action;
      name = codes "w" ++ decimal (draw 500 (next x));
      fields = if has_body action then Some (fields_of rows (next (next x))) else None;
    }

abbrev pub behind_chosen : List FieldRow → ℕ → ℕ
behind_chosen rows x =
    if has_body (action_of (draw 8 x)) then behind_fields rows (next (next x)) else next (next x)

-- ---- its bytes

abbrev pub method_of : Action → List ℕ
method_of Create = codes "POST"
method_of Replace = codes "PUT"
method_of ReadOne = codes "GET"
method_of ReadAll = codes "GET"
method_of Remove = codes "DELETE"

-- where the paths of a group begin
abbrev pub root_of : List ℕ → List ℕ
root_of [] = codes "/api/"
root_of (c ∷ cs) = codes "/apis/"

-- objects of a namespaced resource are in the namespace `default`
abbrev pub scope_of : Bool → List ℕ
scope_of true = codes "/namespaces/default/"
scope_of false = codes "/"

abbrev pub collection_path : ServedVersion → List ℕ
collection_path s =
    root_of s.group ++ group_version s.group s.version ++ scope_of s.namespaced ++ s.resource

abbrev pub object_path : ServedVersion → List ℕ → List ℕ
object_path s name = collection_path s ++ codes "/" ++ name

-- an object is created in its collection
abbrev pub path_of : ServedVersion → Action → List ℕ → List ℕ
path_of s Create name = collection_path s
path_of s Replace name = object_path s name
path_of s ReadOne name = object_path s name
path_of s ReadAll name = collection_path s
path_of s Remove name = object_path s name

-- CR LF
abbrev pub line_end : List ℕ
line_end = 13 ∷ 10 ∷ []

abbrev pub request_line : List ℕ → List ℕ → List ℕ
request_line method path =
    method ++ (codes " " ++ (path ++ (codes " HTTP/1.1" ++ line_end)))

abbrev pub length_line : ℕ → List ℕ
length_line n = codes "Content-Length: " ++ (decimal n ++ line_end)

abbrev pub bare_text : List ℕ → List ℕ → List ℕ
bare_text method path = request_line method path ++ line_end

abbrev pub text_with : List ℕ → List ℕ → List ℕ → List ℕ
text_with method path body =
    request_line method path ++ length_line (length body) ++ line_end ++ body

-- the metadata of an object with this name
abbrev pub named : List ℕ → Data
named name = object (member (codes "name") (string name) no_members)

-- the compact text of the object that shows the fields, with the name in its metadata
pub record IsBody (table : VersionTable) (held : List FieldPair) (name body : List ℕ) : Type 0 where
  pub members : Members
  pub shows : Shows table.rows held (object members)
  pub compact : body ≡ compact_text (object (put metadata (named name) members))

-- the bytes of a request: with a body where there are fields
abbrev pub HasBytes : ServedVersion → VersionTable → Action → List ℕ → Option (List FieldPair) → List ℕ → Type 0
HasBytes s table action name None bytes =
    bytes ≡ bare_text (method_of action) (path_of s action name)
HasBytes s table action name (Some held) bytes =
    (body : List ℕ) × IsBody table held name body
    × (bytes ≡ text_with (method_of action) (path_of s action name) body)

-- ---- where it is cut

-- a request of these bytes, with a place in them at which it is cut
pub record IsCut (bytes : List ℕ) (x : ℕ) (r : Request) (y : ℕ) : Type 0 where
  pub whole : r.bytes ≡ bytes
  pub cut : r.cut ≡ draw (length bytes) x
  pub behind : y ≡ next x

-- a request for one of the served versions, drawn from the state x up to the state y
pub record IsOfVersion (view : Viewed) (served : List ServedVersion) (x : ℕ) (r : Request) (y : ℕ) : Type 0 where
  pub version : ServedVersion
  pub table : VersionTable
  pub at : slice_get served (draw (length served) x) ≡ Some version
  pub of : table_in view.versions (shown_name version) ≡ Some table
  pub bytes : List ℕ
  pub has : let choice = chosen table.rows (next x) in
      HasBytes version table choice.action choice.name choice.fields bytes
  pub is_cut : IsCut bytes (behind_chosen table.rows (next x)) r y

-- where nothing is served, each request is for the list of groups
abbrev pub IsAmong : Viewed → List ServedVersion → ℕ → Request → ℕ → Type 0
IsAmong view [] x r y = IsCut (bare_text (codes "GET") (codes "/apis")) x r y
IsAmong view (s ∷ ss) x r y = IsOfVersion view (s ∷ ss) x r y

-- the request is drawn from the state x, up to the state y
abbrev pub IsDrawn : Viewed → ℕ → Request → ℕ → Type 0
IsDrawn view x r y = IsAmong view (served_of view.versions) x r y
