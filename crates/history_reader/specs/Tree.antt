-- What stands in the tree of a document.
use Rattle.std.specs.Prelude.{ℕ, ◌≡◌, ◌≤◌, Bool, List, [], ◌∷◌, Some, unwrap_or, option_and_then}
use Rattle.std.specs.declared.option.Option.{Option}
use Rattle.minor_version.specs.Release.{release_text}
use Rattle.toml.specs.Data.{Data, Items, no_items, item, Members, no_members, member, get_member, as_str, as_bool, as_array, as_table}

-- the text, or the boolean, that a member holds
abbrev pub text_at : List ℕ → Members → Option (List ℕ)
text_at name ms = option_and_then as_str (get_member name ms)

abbrev pub flag_at : List ℕ → Members → Option Bool
flag_at name ms = option_and_then as_bool (get_member name ms)

-- the member holds the text of this release
pub record IsReleaseAt (name : List ℕ) (ms : Members) (k : ℕ) : Type 0 where
  pub text : text_at name ms ≡ Some (release_text k)
  pub bound : k ≤ 999

-- the items of the array that a member holds, none where it holds no array
abbrev pub items_at : List ℕ → Members → Items
items_at name ms = unwrap_or (option_and_then as_array (get_member name ms)) no_items

-- the members of a table, none where the value is no table
abbrev pub members_in : Data → Members
members_in d = unwrap_or (as_table d) no_members

-- the tables of an array, in order
abbrev pub tables_in : Items → List Members
tables_in no_items = []
tables_in (item d ds) = members_in d ∷ tables_in ds

abbrev pub tables_at : List ℕ → Members → List Members
tables_at name ms = tables_in (items_at name ms)

-- the members of a table as a list of names and values, in byte order of the names
abbrev pub pairs_of : Members → List (List ℕ × Data)
pairs_of no_members = []
pairs_of (member k d ms) = (k, d) ∷ pairs_of ms
