-- What follows from the definitions.
use Rattle.std.specs.Prelude.{◌≡◌, ℕ, List, Option, All}
use Rattle.conversion.specs.Reading.{IsFirstFault}
use Rattle.conversion.specs.Trees.{Names}
use Rattle.conversion.specs.declared.fault.ReadCause.{ReadCause}
use Rattle.conversion.specs.declared.mode.Mode.TheVariants.{Body}
use Rattle.fields.specs.Fits.{Fits}
use Rattle.fields.specs.declared.map.FieldPair.{FieldPair}
use Rattle.fields.specs.declared.table.FieldRow.{FieldRow}
use Rattle.http_front.specs.declared.request.Request.{Request}
use Rattle.http_front.specs.declared.request.Verb.{Verb}
use Rattle.object_state.specs.State.{State}
use Rattle.request_body.specs.Members.{FitsMember, IsMisfit, members_of}
use Rattle.request_body.specs.Places.{Place}
use Rattle.request_body.specs.Writes.{AreGiven, AreGivenBy, IsFirstMissing}
use Rattle.request_body.specs.declared.member.Member.{Member}
use Rattle.serde_json.specs.Data.{Data}

-- ---- fields

-- the body gives at most one map of fields
abbrev pub GivesOnce : List FieldRow → Data → Option (List FieldPair) → Type 0
GivesOnce rows tree stored = (fields other : List FieldPair)
    → AreGivenBy rows tree stored fields → AreGivenBy rows tree stored other → fields ≡ other

-- what the body gives fits the rows
abbrev pub GivesFitting : List FieldRow → Data → Option (List FieldPair) → Type 0
GivesFitting rows tree stored = (fields : List FieldPair)
    → AreGivenBy rows tree stored fields → Fits rows fields

-- a body that gives fields has no fault
abbrev pub IsFaultlessWhereGiven : List FieldRow → Data → Option (List FieldPair) → Type 0
IsFaultlessWhereGiven rows tree stored = (fields : List FieldPair) (path : Names) (cause : ReadCause)
    → AreGivenBy rows tree stored fields → ¬ IsFirstFault Body rows tree path cause

-- at most one row is the first that is missing
abbrev pub MissesOnce : List FieldRow → List FieldPair → Type 0
MissesOnce rows fields = (row other : FieldRow)
    → IsFirstMissing rows fields row → IsFirstMissing rows fields other → row ≡ other

-- the request gives an object at most one map of fields
abbrev pub AreGivenOnce : State → Request → Place → Type 0
AreGivenOnce s q place = (name : List ℕ) (fields other : List FieldPair)
    → AreGiven s q place name fields → AreGiven s q place name other → fields ≡ other

-- ---- members

-- at most one member is the first that doesn't fit
abbrev pub HasOneMisfit : Verb → Place → Data → Type 0
HasOneMisfit verb place tree = (member other : Member)
    → IsMisfit verb place tree member → IsMisfit verb place tree other → member ≡ other

-- where all members fit there is none that doesn't
abbrev pub HasNoMisfitWhereAllFit : Verb → Place → Data → Type 0
HasNoMisfitWhereAllFit verb place tree = (member : Member)
    → All (FitsMember place tree) (members_of verb) → ¬ IsMisfit verb place tree member
