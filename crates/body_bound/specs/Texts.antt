-- How many bytes the texts of a JSON tree have.
use Rattle.std.specs.Prelude.{◌≡◌, ℕ, ◌+◌, ◌≤◌, List, Some, length}
use Rattle.serde_json.specs.Data.{Data, null, boolean, number, string, array, object, Items, no_items, item, Members, no_members, member}
use Rattle.serde_json.specs.Read.{read}

-- the bytes of all texts in the tree, each with its quotes. Names of members don't count
abbrev mutual
  pub text_bytes : Data → ℕ
  text_bytes null = 0
  text_bytes (boolean b) = 0
  text_bytes (number n) = 0
  text_bytes (string s) = length s + 2
  text_bytes (array ds) = items_bytes ds
  text_bytes (object ms) = members_bytes ms

  pub items_bytes : Items → ℕ
  items_bytes no_items = 0
  items_bytes (item d ds) = text_bytes d + items_bytes ds

  pub members_bytes : Members → ℕ
  members_bytes no_members = 0
  members_bytes (member name d ms) = text_bytes d + members_bytes ms

-- the texts of what the bytes are read as have no more bytes than these
abbrev pub ReadsWithin : List ℕ → Type 0
ReadsWithin bytes = (tree : Data) → read bytes ≡ Some tree → text_bytes tree ≤ length bytes
