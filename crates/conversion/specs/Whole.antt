-- An object as JSON in a version of its resource: `apiVersion` and `kind` name the version, `metadata` is its own, and
-- fields are shown among its other members.
use Rattle.std.specs.Prelude.{◌≡◌, ◌≢◌, ℕ, List, codes, Option, Some, option_and_then}
use Rattle.std.specs.Str.{IsUtf8}
use Rattle.conversion.specs.Showing.{Shows, names_of}
use Rattle.conversion.specs.Trees.{IsObject}
use Rattle.fields.specs.Order.{Rises}
use Rattle.fields.specs.declared.map.FieldPair.{FieldPair}
use Rattle.fields.specs.declared.table.VersionTable.{VersionTable}
use Rattle.serde_json.specs.Data.{Data, string, object, Members}
use Rattle.serde_json.specs.Find.{get, as_str}
use Rattle.serde_json.specs.Read.{read as tree_of_text}

abbrev pub api_version : List ℕ
api_version = codes "apiVersion"

abbrev pub kind : List ℕ
kind = codes "kind"

abbrev pub metadata : List ℕ
metadata = codes "metadata"

-- the bytes are the text of this JSON object
pub record IsTextOf (bytes : List ℕ) (tree : Data) : Type 0 where
  pub utf8 : IsUtf8 bytes
  pub read : tree_of_text bytes ≡ Some tree
  pub object : IsObject tree

-- the text at a member, if there is one
abbrev pub text_at : List ℕ → Data → Option (List ℕ)
text_at name tree = option_and_then as_str (get name tree)

-- the tree is the object of this version, kind and metadata that shows the fields held: its other members are those of
-- the object that shows them, and nothing else. Its members stand in rising byte order of name
pub record IsWhole (table : VersionTable) (version : List ℕ) (held : List FieldPair) (own : Option Data) (tree : Data) : Type 0 where
  pub fields : Data
  pub shows : Shows table.rows held fields
  pub versioned : get api_version tree ≡ Some (string version)
  pub of_kind : get kind tree ≡ Some (string table.kind)
  pub described : get metadata tree ≡ own
  pub others : (name : List ℕ) → name ≢ api_version → name ≢ kind → name ≢ metadata → get name tree ≡ get name fields
  pub members : Members
  pub object : tree ≡ object members
  pub order : Rises (names_of members)
