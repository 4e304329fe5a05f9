-- What follows from the definitions of reading and showing.
use Rattle.std.specs.Prelude.{◌≡◌, ◌<◌, ◌≤◌, ℕ, List, Option, IfSome}
use Rattle.fields.specs.Fits.{Fits, restricted}
use Rattle.fields.specs.declared.map.FieldPair.{FieldPair}
use Rattle.fields.specs.declared.table.FieldRow.{FieldRow}
use Rattle.fields.specs.declared.table.VersionTable.{VersionTable}
use Rattle.serde_json.specs.Data.{Data, depth}
use Rattle.serde_json.specs.Read.{max_depth}
use Rattle.conversion.specs.Trees.{Names}
use Rattle.conversion.specs.Reading.{Reads, IsFirstFault}
use Rattle.conversion.specs.Showing.{Shows}
use Rattle.conversion.specs.Whole.{IsWhole}
use Rattle.conversion.specs.declared.mode.Mode.{Mode}
use Rattle.conversion.specs.declared.mode.Mode.TheVariants.{Stored}
use Rattle.conversion.specs.declared.fault.ReadCause.{ReadCause}

-- the tree reads as at most one map
abbrev pub ReadsAsOne : Mode → List FieldRow → Data → Type 0
ReadsAsOne mode rows tree = (held other : List FieldPair)
    → Reads mode rows tree held → Reads mode rows tree other → held ≡ other

-- a tree that reads as a map has no fault
abbrev pub IsFaultlessWhereRead : Mode → List FieldRow → Data → Type 0
IsFaultlessWhereRead mode rows tree = (held : List FieldPair) (path : Names) (cause : ReadCause)
    → Reads mode rows tree held → ¬ IsFirstFault mode rows tree path cause

-- two first faults of the tree are one, in path and cause
abbrev pub HasOneFault : Mode → List FieldRow → Data → Type 0
HasOneFault mode rows tree = (path other : Names) (cause why : ReadCause)
    → IsFirstFault mode rows tree path cause → IsFirstFault mode rows tree other why
    → (path ≡ other) × (cause ≡ why)

-- the map is shown as at most one tree
abbrev pub ShowsAsOne : List FieldRow → List FieldPair → Type 0
ShowsAsOne rows held = (tree other : Data) → Shows rows held tree → Shows rows held other → tree ≡ other

-- what shows the map is read, as stored, as this map
abbrev pub ReadsBack : List FieldRow → List FieldPair → Type 0
ReadsBack rows held = (tree : Data) → Shows rows held tree → Reads Stored rows tree held

-- each map that fits the rows is shown by one tree, and read of it again; and what is read fits them
pub record RoundTrips (rows : List FieldRow) : Type 0 where
  pub shown : (held : List FieldPair) → Fits rows held → (tree : Data) × Shows rows held tree
  pub once : (held : List FieldPair) → ShowsAsOne rows held
  pub back : (held : List FieldPair) → Fits rows held → ReadsBack rows held
  pub fits : (mode : Mode) (tree : Data) (held : List FieldPair) → Reads mode rows tree held → Fits rows held

-- how deep what is shown can nest: the eight names of a path, and a list
abbrev pub deepest_shown : ℕ
deepest_shown = 9

-- what shows a map nests no deeper
abbrev pub IsShallow : List FieldRow → Type 0
IsShallow rows = (held : List FieldPair) (tree : Data) → Shows rows held tree → depth tree ≤ deepest_shown

-- ---- of whole objects

-- the whole object of a version, kind and metadata that shows a map: there is one for each map that fits, it is read, as
-- stored, as this map, and it nests no deeper than `serde_json` reads where its metadata nests less deep
pub record WholeRoundTrips (table : VersionTable) : Type 0 where
  pub shown : (version : List ℕ) (held : List FieldPair) (own : Option Data)
      → Fits table.rows held → (tree : Data) × IsWhole table version held own tree
  pub once : (version : List ℕ) (held : List FieldPair) (own : Option Data) (tree other : Data)
      → IsWhole table version held own tree → IsWhole table version held own other → tree ≡ other
  pub back : (version : List ℕ) (held : List FieldPair) (own : Option Data) (tree : Data)
      → Fits table.rows held → IsWhole table version held own tree → Reads Stored table.rows tree held
  pub shallow : (version : List ℕ) (held : List FieldPair) (own : Option Data) (tree : Data)
      → IfSome own (λ json. depth json < max_depth) → IsWhole table version held own tree → depth tree ≤ max_depth

-- ---- of two lists of rows

-- what fits the one list of rows fits the other
abbrev pub FitsAlike : List FieldRow → List FieldRow → Type 0
FitsAlike rows others = (held : List FieldPair) → Fits rows held → Fits others held

-- what is read, as stored, by the later rows is read by these as what the map holds of their fields
abbrev pub ReadsLess : List FieldRow → List FieldRow → Type 0
ReadsLess rows later = (tree : Data) (held : List FieldPair) → Reads Stored later tree held → Reads Stored rows tree (restricted rows held)

-- what is shown in the one version, read, shown in the other, read there and shown in the first again is the same map and
-- the same tree
abbrev pub GoesThereAndBack : List FieldRow → List FieldRow → List FieldPair → Type 0
GoesThereAndBack rows others held = (here there back : Data) (read again : List FieldPair)
    → Shows rows held here → Reads Stored rows here read → Shows others read there → Reads Stored others there again
    → Shows rows again back → (again ≡ held) × (back ≡ here)
