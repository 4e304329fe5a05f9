-- How long the compact text of a tree is at most, by its texts and names.
use Rattle.std.specs.Prelude.{ℕ, ◌+◌, ◌*◌, ◌≤◌, length}
use Rattle.serde_json.specs.Data.{Data, null, boolean, number, string, array, object, Items, no_items, item, Members, no_members, member}
use Rattle.serde_json.specs.Written.{number_text, compact_text}

-- six bytes for each byte of a text or a name, and what stands around them
abbrev mutual
  pub room : Data → ℕ
  room null = 4
  room (boolean b) = 5
  room (number n) = length (number_text n)
  room (string s) = 6 * length s + 2
  room (array ds) = 2 + items_room ds
  room (object ms) = 2 + members_room ms

  pub items_room : Items → ℕ
  items_room no_items = 0
  items_room (item d ds) = 1 + room d + items_room ds

  pub members_room : Members → ℕ
  members_room no_members = 0
  members_room (member name d ms) = 6 * length name + 4 + room d + members_room ms

abbrev pub WritesWithin : Data → Type 0
WritesWithin tree = length (compact_text tree) ≤ room tree
