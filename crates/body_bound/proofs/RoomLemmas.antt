-- The compact text of a tree is no longer than its room.
use Rattle.std.proofs.Common.{ℕ, ◌+◌, ◌*◌, ◌≤◌, Bool, true, false, List, [], ◌∷◌, ◌++◌, length, arith}
use Rattle.std.proofs.lemmas.List.{length-append}
use Rattle.json.specs.Print.{escape_byte, escape, quoted}
use Rattle.serde_json.specs.Data.{Data, null, boolean, number, string, array, object, Items, no_items, item, Members, no_members, member}
use Rattle.serde_json.specs.Written.{comma_if, compact_text, items_text, members_text}
use Rattle.body_bound.specs.Room.{room, items_room, members_room}

byte_short : (x : ℕ) → length (escape_byte x) ≤ 6
unfolding escape_byte
byte_short x = grind arith

escape_short : (s : List ℕ) → length (escape s) ≤ 6 * length s
escape_short [] = omega arith
escape_short (x ∷ xs) =
    let one = byte_short x in
    let more = escape_short xs in
    let both = length-append (escape_byte x) (escape xs) in
    omega (arith, one, more, both)

quoted_short : (s : List ℕ) → length (quoted s) ≤ 6 * length s + 2
quoted_short s =
    let inner = escape_short s in
    let both = length-append (escape s) (34 ∷ []) in
    omega (arith, inner, both)

comma_short : (later : Bool) → length (comma_if later) ≤ 1
comma_short true = omega arith
comma_short false = omega arith

mutual
  pub writes_within : (d : Data) → length (compact_text d) ≤ room d
  writes_within null = omega arith
  writes_within (boolean true) = omega arith
  writes_within (boolean false) = omega arith
  writes_within (number n) = omega arith
  writes_within (string s) = quoted_short s
  writes_within (array ds) = let inner = items_short false ds in omega (arith, inner)
  writes_within (object ms) = let inner = members_short false ms in omega (arith, inner)

  items_short : (later : Bool) (ds : Items) → length (items_text later ds) ≤ items_room ds + 1
  items_short later no_items = omega arith
  items_short later (item d ds) =
      let comma = comma_short later in
      let here = writes_within d in
      let more = items_short true ds in
      let outer = length-append (comma_if later) (compact_text d ++ items_text true ds) in
      let both = length-append (compact_text d) (items_text true ds) in
      omega (arith, comma, here, more, outer, both)

  members_short : (later : Bool) (ms : Members) → length (members_text later ms) ≤ members_room ms + 1
  members_short later no_members = omega arith
  members_short later (member k d ms) =
      let comma = comma_short later in
      let name = quoted_short k in
      let here = writes_within d in
      let more = members_short true ms in
      let outer = length-append (comma_if later) (quoted k ++ 58 ∷ (compact_text d ++ members_text true ms)) in
      let inner = length-append (quoted k) (58 ∷ (compact_text d ++ members_text true ms)) in
      let both = length-append (compact_text d) (members_text true ms) in
      omega (arith, comma, name, here, more, outer, inner, both)
