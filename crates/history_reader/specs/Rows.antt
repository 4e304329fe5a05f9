-- The member table of a history document: for each table of it, which members it has, in which
-- order, and what each must hold. An array that is added to the document gets its rows here, a case
-- of `rows_of`, and its place in `entry_arrays`.
use Rattle.std.specs.Prelude.{ℕ, Bool, false, List, [], ◌∷◌, is_some, if◌then◌else◌, codes}
use Rattle.std.specs.declared.option.Option.{Option}
use Rattle.std.specs.Option.{option_map_or}
use Rattle.std.specs.Str.{bytes_eq}
use Rattle.toml.specs.Data.{Members, get_member}
use Rattle.schemas.specs.declared.array.Array.{Array}
use Rattle.history_reader.specs.declared.member.Member.{Member}
use Rattle.history_reader.specs.declared.demand.Shape.{Shape}
use Rattle.history_reader.specs.declared.demand.Shape.TheVariants.{Text}
use Rattle.history_reader.specs.declared.demand.TextShape.TheVariants as text
use Rattle.history_reader.specs.declared.demand.Demand.{Demand}
use Rattle.history_reader.specs.declared.demand.Demand.TheVariants.{Required, Optional}
use Rattle.history_reader.specs.Tree.{text_at}

-- a member, and what must stand there
abbrev pub Row : Type 0
Row = Member × Demand

-- of the document itself
abbrev pub top_rows : List Row
top_rows =
    (Member.First, Optional (Text text.Release))
    ∷ (Member.Last, Optional (Text text.Release))
    ∷ (Member.Gate, Optional Shape.Tables)
    ∷ (Member.Api, Optional Shape.Tables)
    ∷ (Member.Field, Optional Shape.Tables)
    ∷ (Member.Spell, Optional Shape.Tables)
    ∷ []

-- of a gate that changes, and of one that goes
abbrev pub spec_rows : List Row
spec_rows =
    (Member.Stage, Required (Text text.StageWord))
    ∷ (Member.Default, Required Shape.Flag)
    ∷ (Member.Locked, Optional Shape.Flag)
    ∷ []

abbrev pub removal_rows : List Row
removal_rows =
    (Member.Removed, Required Shape.OnlyTrue)
    ∷ []

-- of an entry of `gate`: where `removed` stands there, the gate goes
abbrev pub gate_rows : Members → List Row
gate_rows ms =
    (Member.Name, Required (Text text.GateName))
    ∷ (Member.Since, Required (Text text.Release))
    ∷ (if is_some (get_member (codes "removed") ms) then removal_rows else spec_rows)

-- what an event brings
abbrev pub introduced_rows : List Row
introduced_rows =
    (Member.Kind, Required (Text text.KindName))
    ∷ (Member.Singular, Required (Text text.ResourceName))
    ∷ (Member.Namespaced, Required Shape.Flag)
    ∷ (Member.Enabled, Required Shape.Flag)
    ∷ []

abbrev pub deprecated_rows : List Row
deprecated_rows =
    (Member.Removal, Required (Text text.Release))
    ∷ (Member.Replacement, Required (Text text.VersionWord))
    ∷ []

-- whether the text is there and is the word
abbrev pub is_word : List ℕ → Option (List ℕ) → Bool
is_word word text = option_map_or (λ t. bytes_eq t word) text false

abbrev pub event_rows : Option (List ℕ) → List Row
event_rows event =
    if is_word (codes "introduced") event then introduced_rows
    else (if is_word (codes "deprecated") event then deprecated_rows else [])

-- of an entry of `api`
abbrev pub api_rows : Members → List Row
api_rows ms =
    (Member.Group, Required (Text text.GroupName))
    ∷ (Member.Version, Required (Text text.VersionWord))
    ∷ (Member.Resource, Required (Text text.ResourceName))
    ∷ (Member.Since, Required (Text text.Release))
    ∷ (Member.Event, Required (Text text.EventWord))
    ∷ event_rows (text_at (codes "event") ms)

-- of an entry of `field`, and of one of `spell`
abbrev pub field_rows : List Row
field_rows =
    (Member.Group, Required (Text text.GroupName))
    ∷ (Member.Resource, Required (Text text.ResourceName))
    ∷ (Member.Id, Required (Text text.FieldId))
    ∷ (Member.Since, Required (Text text.Release))
    ∷ (Member.FieldType, Required (Text text.TypeWord))
    ∷ (Member.Required, Optional Shape.Flag)
    ∷ (Member.Gate, Optional (Text text.GateName))
    ∷ []

abbrev pub spell_rows : List Row
spell_rows =
    (Member.Group, Required (Text text.GroupName))
    ∷ (Member.Resource, Required (Text text.ResourceName))
    ∷ (Member.Version, Required (Text text.VersionWord))
    ∷ (Member.Field, Required (Text text.FieldId))
    ∷ (Member.Since, Required (Text text.Release))
    ∷ (Member.Path, Required (Text text.PathText))
    ∷ (Member.Form, Optional (Text text.FormWord))
    ∷ (Member.Default, Optional Shape.Scalar)
    ∷ []

-- the rows of a table of the array, or of the document itself
abbrev pub rows_of : Array → Members → List Row
rows_of Array.Top ms = top_rows
rows_of Array.Gate ms = gate_rows ms
rows_of Array.Api ms = api_rows ms
rows_of Array.Field ms = field_rows
rows_of Array.Spell ms = spell_rows

-- the arrays whose entries are read, in the order of their tests
abbrev pub entry_arrays : List Array
entry_arrays = Array.Gate ∷ Array.Api ∷ Array.Field ∷ Array.Spell
    ∷ []
