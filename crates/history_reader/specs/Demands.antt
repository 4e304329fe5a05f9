-- What a member of a history document must hold.
use Rattle.std.specs.Prelude.{ℕ, ◌≡◌, ◌≤◌, ◌⊎◌, true, List, Some, IsSome, IsNone, IfSome, IsSomeAnd, codes}
use Rattle.std.specs.declared.option.Option.{Option}
use Rattle.toml.specs.Data.{Data, Items, no_items, item, as_str, as_bool, as_array, as_table}
use Rattle.minor_version.specs.Release.{release_text}
use Rattle.gate_spec.specs.Stages.{stage_word}
use Rattle.gate_spec.specs.declared.entry.Stage.{Stage}
use Rattle.lifecycle.specs.Version.{IsVersion}
use Rattle.fields.specs.Table.{IsPath}
use Rattle.fields.specs.declared.field.Form.{Form}
use Rattle.fields.specs.declared.value.FieldType.{FieldType}
use Rattle.schemas.specs.Shapes.{IsGateName, IsGroup, IsResource, IsKind, IsFieldId, IsScalar}
use Rattle.history_reader.specs.Words.{type_word, form_word, path_in, scalar_in}
use Rattle.history_reader.specs.declared.demand.Shape.{Shape}
use Rattle.history_reader.specs.declared.demand.Shape.TheVariants.{Flag, OnlyTrue, Scalar, Tables, Text}
use Rattle.history_reader.specs.declared.demand.TextShape.{TextShape}
use Rattle.history_reader.specs.declared.demand.TextShape.TheVariants.{Release, GateName, StageWord, GroupName, VersionWord, ResourceName, KindName, EventWord, FieldId, TypeWord, PathText, FormWord}
use Rattle.history_reader.specs.declared.demand.Demand.{Demand}
use Rattle.history_reader.specs.declared.demand.Demand.TheVariants.{Required, Optional, Absent}

-- the text `1.k` of a release
abbrev pub IsRelease : List ℕ → Type 0
IsRelease text = (k : ℕ) × (k ≤ 999) × (text ≡ release_text k)

-- the word of a gate's stage
abbrev pub IsStage : List ℕ → Type 0
IsStage text = (s : Stage) × (text ≡ stage_word s)

-- the word of what happens to an API version
abbrev pub IsEvent : List ℕ → Type 0
IsEvent text =
    (text ≡ codes "introduced") ⊎ (text ≡ codes "deprecated") ⊎ (text ≡ codes "removed")
    ⊎ (text ≡ codes "forgotten")

-- the word of a field's type, or of a form
abbrev pub IsTypeWord : List ℕ → Type 0
IsTypeWord text = (ty : FieldType) × (text ≡ type_word ty)

abbrev pub IsFormWord : List ℕ → Type 0
IsFormWord text = (form : Form) × (text ≡ form_word form)

-- the text of a path
abbrev pub IsPathText : List ℕ → Type 0
IsPathText text = IsPath (path_in text)

-- each item is a table
abbrev pub AreTables : Items → Type 0
AreTables no_items = Unit {0}
AreTables (item d ds) = IsSome (as_table d) × AreTables ds

-- the text is of the shape
abbrev pub TextHasShape : TextShape → List ℕ → Type 0
TextHasShape Release = IsRelease
TextHasShape GateName = IsGateName
TextHasShape StageWord = IsStage
TextHasShape GroupName = IsGroup
TextHasShape VersionWord = IsVersion
TextHasShape ResourceName = IsResource
TextHasShape KindName = IsKind
TextHasShape EventWord = IsEvent
TextHasShape FieldId = IsFieldId
TextHasShape TypeWord = IsTypeWord
TextHasShape PathText = IsPathText
TextHasShape FormWord = IsFormWord

-- the value is of the type and the shape
abbrev pub HasShape : Shape → Data → Type 0
HasShape Flag d = IsSome (as_bool d)
HasShape OnlyTrue d = as_bool d ≡ Some true
HasShape Scalar d = IsSomeAnd (scalar_in d) IsScalar
HasShape Tables d = IsSomeAnd (as_array d) AreTables
HasShape (Text shape) d = IsSomeAnd (as_str d) (TextHasShape shape)

-- the value is the text of a release
abbrev pub IsReleaseText : Data → Type 0
IsReleaseText d = HasShape (Text Release) d

-- what stands at a member, if anything does, is what must stand there
abbrev pub Meets : Demand → Option Data → Type 0
Meets (Required shape) found = IsSomeAnd found (HasShape shape)
Meets (Optional shape) found = IfSome found (HasShape shape)
Meets Absent found = IsNone found
