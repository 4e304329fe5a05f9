-- What functions of this crate give on their way.
use Rattle.std.specs.Prelude.{◌≡◌, ◌≢◌, ℕ, List, [], ◌∷◌, Option, Some, None, option_and_then, IfSome, map, All, if◌then◌else◌}
use Rattle.serde_json.specs.View.{view}
use Rattle.serde_json.specs.declared.value.Value.{Value}
use Rattle.std.specs.Str.{bytes_eq}
use Rattle.fields.specs.Map.{IsChangedAt}
use Rattle.fields.specs.declared.map.FieldPair.{FieldPair}
use Rattle.fields.specs.declared.table.FieldRow.{FieldRow}
use Rattle.fields.specs.declared.table.VersionTable.{VersionTable}
use Rattle.fields.specs.declared.value.FieldValue.{FieldValue}
use Rattle.serde_json.specs.Data.{Data, null, boolean, number, string, array, object, Members, no_members, member, put}
use Rattle.serde_json.specs.Find.{get, get_member}
use Rattle.conversion.specs.Showing.{IsInOrder}
use Rattle.conversion.specs.Reading.{IsFault}
use Rattle.conversion.specs.Trees.{Names, Stands, IsAbsent}
use Rattle.conversion.specs.Whole.{api_version, kind, metadata}
use Rattle.conversion.specs.Writing.{IsWrittenIn, Spells}
use Rattle.conversion.specs.declared.fault.ReadCause.{ReadCause}
use Rattle.conversion.specs.declared.fault.ReadFault.{ReadFault}
use Rattle.conversion.specs.declared.fault.ReadFault.TheVariants.{Bad, Memory}

-- what is at the name in the tree, if there is one
abbrev pub get_in : List ℕ → Option Data → Option Data
get_in name tree = option_and_then (get name) tree

-- the new tree is the old one with this at the path, where what isn't an object gives way
abbrev pub IsPlaced : Names → Data → Option Data → Data → Type 0
IsPlaced [] json old new = new ≡ json
IsPlaced (name ∷ path) json old new = (ms : Members) × (new ≡ object ms)
    × ((other : List ℕ) → other ≢ name → get_member other ms ≡ get_in other old)
    × (inner : Data) × (get_member name ms ≡ Some inner) × IsPlaced path json (get_in name old) inner

-- the members without those of the name
abbrev pub without : List ℕ → Members → Members
without name no_members = no_members
without name (member other json ms) = if bytes_eq name other then ms else member other json (without name ms)

-- the members of a tree, or none where it isn't an object
abbrev pub members_in : Option Data → Members
members_in None = no_members
members_in (Some null) = no_members
members_in (Some (boolean b)) = no_members
members_in (Some (number n)) = no_members
members_in (Some (string s)) = no_members
members_in (Some (array ds)) = no_members
members_in (Some (object ms)) = ms

-- where the trees that go in have their members in order, so has the new one
abbrev pub KeepsOrder : Option Data → Data → Data → Type 0
KeepsOrder old json new = IfSome old IsInOrder → IsInOrder json → IsInOrder new

-- the new tree is the old one with the field of the row, where it is held
abbrev pub IsRowShown : FieldRow → Option FieldValue → Data → Data → Type 0
IsRowShown row None old new = new ≡ old
IsRowShown row (Some value) old new = (json : Data) × IsWrittenIn row.form value json × IsPlaced row.path json (Some old) new × KeepsOrder (Some old) json new

-- what stands at the path, which isn't null, if anything does
abbrev pub IsThere : Data → Names → Option Data → Type 0
IsThere tree path None = IsAbsent tree path
IsThere tree path (Some there) = Stands tree path there × (there ≢ null)

-- the one value that the JSON spells, if there is one
abbrev pub IsSpelledAs : FieldRow → Data → Option FieldValue → Type 0
IsSpelledAs row json None = (value : FieldValue) → ¬ Spells row value json
IsSpelledAs row json (Some value) = Spells row value json

-- the fault is that of the row, or want of memory
abbrev pub IsFaultOf : Data → FieldRow → ReadFault → Type 0
IsFaultOf tree row (Bad path cause) = IsFault tree row path cause
IsFaultOf tree row Memory = Unit {0}

-- the fault has this path and cause, or is want of memory
abbrev pub IsFaultAt : Names → ReadCause → ReadFault → Type 0
IsFaultAt names cause (Bad path why) = (path ≡ names) × (why ≡ cause)
IsFaultAt names cause Memory = Unit {0}

-- the map has what the row's field was read as, and else is as before
abbrev pub IsRowTaken : List ℕ → Option FieldValue → List FieldPair → List FieldPair → Type 0
IsRowTaken id None old new = new ≡ old
IsRowTaken id (Some value) old new = IsChangedAt id (Some value) old new

-- the texts that the values are, where each of them is one
abbrev pub IsTextsOf : List Value → Option (List (List ℕ)) → Type 0
IsTextsOf values None = (texts : List (List ℕ)) → map view values ≢ map string texts
IsTextsOf values (Some texts) = map view values ≡ map string texts

-- each pair is of a row
abbrev pub AreNamed : List FieldRow → List FieldPair → Type 0
AreNamed rows pairs = All (λ p. ¬ All (λ row. row.id ≢ p.id) rows) pairs

-- the members, with this at the name, if it is there
abbrev pub with_some : List ℕ → Option Data → Members → Members
with_some name None ms = ms
with_some name (Some json) ms = put name json ms

-- the members that show fields, with the version, the kind and the metadata
abbrev pub named_members : VersionTable → List ℕ → Option Data → Members → Members
named_members table version own ms = with_some metadata own (put kind (string table.kind) (put api_version (string version) ms))
