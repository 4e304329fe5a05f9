-- The text that shows fields is within its bounds.
use Rattle.std.proofs.Common.{◌≡◌, ℕ, zero, suc, ◌+◌, ◌*◌, ◌<◌, ◌≤◌, List, [], ◌∷◌, ◌++◌, map, length, get_or, take, Option, Some, None, IfSome, refl, sym, ◌∙◌, ap, subst, arith}
use Rattle.std.specs.Prelude.{All}
use Rattle.std.proofs.lemmas.List.{get_or_default, take_more, take_all}
use Rattle.fields.specs.Fits.{AreOfSameFields}
use Rattle.fields.specs.Map.{value_at}
use Rattle.fields.specs.Table.{IsValueOf, IsLawfulRow, AreLawful}
use Rattle.fields.specs.declared.map.FieldPair.{FieldPair}
use Rattle.fields.specs.declared.table.FieldRow.{FieldRow}
use Rattle.fields.specs.declared.table.VersionTable.{VersionTable}
use Rattle.fields.specs.declared.value.FieldValue.{FieldValue}
use Rattle.serde_json.specs.Data.{Data, string, object, no_members, put}
use Rattle.conversion.specs.Code.{members_in, named_members}
use Rattle.conversion.specs.Reading.{IsHeld}
use Rattle.conversion.specs.Showing.{Shows}
use Rattle.conversion.specs.Whole.{api_version, kind, IsWhole}
use Rattle.conversion.proofs.ObjectLemmas.{object_is}
use Rattle.conversion.proofs.RoundLemmas.{some_path}
use Rattle.conversion.proofs.SameLemmas.{shows_as_one}
use Rattle.conversion.proofs.ShowLemmas.{shows_none, shows_more, before_apart}
use Rattle.conversion.proofs.WholeLemmas.{whole_is}
use Rattle.conversion.proofs.WholeReadLemmas.{one_whole}
use Rattle.conversion.proofs.WritingLemmas.{value_written}
use Rattle.body_bound.specs.Held.{some_bytes, held_bytes}
use Rattle.body_bound.specs.Room.{room, members_room}
use Rattle.body_bound.specs.Shown.{ShowsWithin, HoldsLess, BodyIsWithin}
use Rattle.body_bound.proofs.HeldLemmas.{holds_within}
use Rattle.body_bound.proofs.PlacedLemmas.{put_room, some_row}
use Rattle.body_bound.proofs.RoomLemmas.{writes_within}
use Rattle.body_bound.proofs.TextLemmas.{reads_within}

-- ---- a tree that shows the fields of the first rows, and isn't long

abbrev ShownShort : List FieldRow → List FieldPair → ℕ → Type 0
ShownShort rows held i = (tree : Data) × Shows (take i rows) held tree × (room tree ≤ 2 + 6 * held_bytes (take i rows) held + 1800 * i)

abbrev AreTyped : List FieldRow → List FieldPair → Type 0
AreTyped rows held = All (λ (row : FieldRow). IfSome (value_at held row.id) (IsValueOf row.ty)) rows

bytes_push : (rows : List FieldRow) (row : FieldRow) (held : List FieldPair) → held_bytes (rows ++ row ∷ []) held ≡ held_bytes rows held + some_bytes (value_at held row.id)
bytes_push [] row held = omega arith
bytes_push (r ∷ rows) row held = let more = bytes_push rows row held in omega (arith, more)

one_more : (rows : List FieldRow) (held : List FieldPair) (i : ℕ) (row : FieldRow) → AreLawful rows → AreTyped rows held → i < length rows → row ≡ get_or rows i row
    → ShownShort rows held i → ShownShort rows held (i + 1)
one_more rows held i row lawful typed below is before =
    let is_lawful : IsLawfulRow row = subst IsLawfulRow (sym is) (lawful.each i row below) in
    let fits : IfSome (value_at held row.id) (IsValueOf row.ty) = subst (λ (r : FieldRow). IfSome (value_at held r.id) (IsValueOf r.ty)) (sym is) (typed i row below) in
    let new = some_row row (value_at held row.id) before.0 is_lawful fits in
    let next : take (i + 1) rows ≡ take i rows ++ row ∷ [] = take_more rows i row below ∙ ap (λ (r : FieldRow). take i rows ++ r ∷ []) (sym is) in
    let bytes = ap (λ (rs : List FieldRow). held_bytes rs held) next ∙ bytes_push (take i rows) row held in
    let old = before.2 in
    let size = new.2 in (
      new.0,
      subst (λ rs. Shows rs held new.0) (sym next)
          (shows_more (take i rows) held row before.0 new.0 before.1 (before_apart rows i row lawful.apart below is) (some_path row.path is_lawful.path.0.some) fits new.1),
      omega (arith, bytes, old, size),
    )

so_far : (first : FieldRow) (rows : List FieldRow) (held : List FieldPair) → AreLawful rows → AreTyped rows held → (i : ℕ) → i ≤ length rows → ShownShort rows held i
so_far first rows held lawful typed zero below = (object no_members, shows_none held, omega arith)
so_far first rows held lawful typed (suc i) below =
    let within : i < length rows = omega arith in
    let next : i + 1 ≡ suc i = omega arith in
    subst (ShownShort rows held) next
    (one_more rows held i (get_or rows i first) lawful typed within (get_or_default rows i first (get_or rows i first) within) (so_far first rows held lawful typed i (omega arith)))

abbrev IsShort : List FieldRow → List FieldRow → List FieldPair → Type 0
IsShort rows all held = (tree : Data) × Shows rows held tree × (room tree ≤ 2 + 6 * held_bytes rows held + 1800 * length all)

some_short : (rows : List FieldRow) (held : List FieldPair) → AreLawful rows → AreTyped rows held → IsShort rows rows held
some_short [] held lawful typed = (object no_members, shows_none held, omega arith)
some_short (r ∷ rows) held lawful typed =
    subst (λ rs. IsShort rs (r ∷ rows) held) (take_all (length (r ∷ rows)) (r ∷ rows) (omega arith))
    (so_far r (r ∷ rows) held lawful typed (length (r ∷ rows)) (omega arith))

-- ---- each tree that shows the fields

typed_of : (tree : Data) (row : FieldRow) (o : Option FieldValue) → IfSome o (IsHeld tree row) → IfSome o (IsValueOf row.ty)
typed_of tree row None h = tt
typed_of tree row (Some v) h = record { typed = h.spelled.typed; whole = value_written row.form v h.json h.spelled.written }

shown_room : (rows : List FieldRow) (held : List FieldPair) (tree : Data) → AreLawful rows → Shows rows held tree → room tree ≤ 2 + 6 * held_bytes rows held + 1800 * length rows
shown_room rows held tree lawful shows =
    let short = some_short rows held lawful (λ k d below. typed_of tree (get_or rows k d) (value_at held (get_or rows k d).id) (shows.each k d below)) in
    let same : short.0 ≡ tree = shows_as_one rows held short.0 tree short.1 shows in
    subst (λ (t : Data). room t ≤ 2 + 6 * held_bytes rows held + 1800 * length rows) same short.2

-- ---- the whole object

whole_room : (table : VersionTable) (version : List ℕ) (held : List FieldPair) (tree : Data) → AreLawful table.rows → IsWhole table version held None tree
    → room tree ≤ 6 * held_bytes table.rows held + 1800 * length table.rows + 6 * (length version + length table.kind) + 200
whole_room table version held tree lawful whole =
    let ms = members_in (Some whole.fields) in
    let is : whole.fields ≡ object ms = object_is whole.fields whole.shows.object in
    let other = whole_is table version held None whole.fields ms lawful whole.shows is in
    let same : tree ≡ object (named_members table version None ms) = one_whole table version held None tree (object (named_members table version None ms)) whole other in
    let fields = shown_room table.rows held whole.fields lawful whole.shows in
    let inside : room whole.fields ≡ 2 + members_room ms = ap room is in
    let versioned = put_room api_version (string version) ms in
    let of_kind = put_room kind (string table.kind) (put api_version (string version) ms) in
    let long : length api_version ≡ 10 = refl in
    let short : length kind ≡ 4 = refl in
    let size : room tree ≡ 2 + members_room (put kind (string table.kind) (put api_version (string version) ms)) = ap room same in
    omega (arith, fields, inside, versioned, of_kind, long, short, size)

pub shows_within : (table : VersionTable) → AreLawful table.rows → ShowsWithin table
shows_within table lawful version held tree whole =
    let text = writes_within tree in
    let size = whole_room table version held tree lawful whole in
    omega (arith, text, size)

-- ---- fewer fields, and other rows of the same ones

some_less : (kept held : List FieldPair) (id : List ℕ) → HoldsLess kept held → (o : Option FieldValue) → value_at kept id ≡ o → some_bytes (value_at kept id) ≤ some_bytes (value_at held id)
some_less kept held id less None e = let size = ap some_bytes e in omega (arith, size)
some_less kept held id less (Some v) e = let size = ap some_bytes e in let other = ap some_bytes (less id v e) in omega (arith, size, other)

held_less : (rows : List FieldRow) (kept held : List FieldPair) → HoldsLess kept held → held_bytes rows kept ≤ held_bytes rows held
held_less [] kept held less = omega arith
held_less (row ∷ rows) kept held less =
    let one = some_less kept held row.id less (value_at kept row.id) refl in
    let more = held_less rows kept held less in
    omega (arith, one, more)

abbrev ids_bytes : List (List ℕ) → List FieldPair → ℕ
ids_bytes [] held = 0
ids_bytes (id ∷ ids) held = some_bytes (value_at held id) + ids_bytes ids held

by_ids : (rows : List FieldRow) (held : List FieldPair) → held_bytes rows held ≡ ids_bytes (map (λ row. row.id) rows) held
by_ids [] held = refl
by_ids (row ∷ rows) held = let more = by_ids rows held in omega (arith, more)

held_alike : (rows others : List FieldRow) (held : List FieldPair) → AreOfSameFields rows others → held_bytes rows held ≡ held_bytes others held
held_alike rows others held same = by_ids rows held ∙ ap (λ (ids : List (List ℕ)). ids_bytes ids held) same.ids ∙ sym (by_ids others held)

pub body_within : (table shown : VersionTable) → AreLawful table.rows → AreLawful shown.rows → AreOfSameFields table.rows shown.rows → BodyIsWithin table shown
body_within table shown lawful shown_lawful same mode bytes held kept version tree read less names whole =
    let text = reads_within bytes read.tree read.text in
    let holds = holds_within table.rows read.tree lawful mode held read.reads in
    let fewer = held_less table.rows kept held less in
    let alike = held_alike table.rows shown.rows kept same in
    let shows = shows_within shown shown_lawful version kept tree whole in
    let short = read.short in
    let rows = lawful.few in
    let shown_rows = shown_lawful.few in
    let version_few = names.versioned in
    let kind_few = names.of_kind in
    omega (arith, text, holds, fewer, alike, shows, short, rows, shown_rows, version_few, kind_few)
