-- How a history is written: the members of each entry's table, in order, and the tree of its
-- document.
use Rattle.std.specs.Prelude.{ℕ, Bool, true, List, [], ◌∷◌, ◌++◌, Some, None, map, option_map, option_and_then, if◌then◌else◌, codes}
use Rattle.std.specs.declared.option.Option.{Option}
use Rattle.std.specs.List.{flat_map}
use Rattle.std.specs.Ordering.{nat_cmp, match_ordering}
use Rattle.std.specs.Cmp.Lexicographic.{slice_cmp}
use Rattle.toml.specs.Data.{Data, string, integer, boolean, array, table, Items, no_items, item, Members, no_members, member}
use Rattle.minor_version.specs.Release.{release_text}
use Rattle.fields.specs.declared.field.Field.{Field}
use Rattle.fields.specs.declared.field.Form.{Form}
use Rattle.fields.specs.declared.field.Form.TheVariants.{Same, Not, Decimal}
use Rattle.fields.specs.declared.field.Spell.{Spell}
use Rattle.fields.specs.declared.value.FieldValue.{FieldValue}
use Rattle.fields.specs.declared.value.FieldValue.TheVariants as value
use Rattle.gate_spec.specs.Stages.{stage_word}
use Rattle.gate_spec.specs.declared.entry.GateChange.{GateChange}
use Rattle.gate_spec.specs.declared.entry.GateChange.TheVariants.{Spec, Gone}
use Rattle.gate_spec.specs.declared.entry.GateEntry.{GateEntry}
use Rattle.lifecycle.specs.declared.entry.ApiChange.{ApiChange}
use Rattle.lifecycle.specs.declared.entry.ApiChange.TheVariants.{Introduced, Deprecated, Removed, Forgotten}
use Rattle.lifecycle.specs.declared.entry.ApiEntry.{ApiEntry}
use Rattle.schemas.specs.Dated.{Dated}
use Rattle.history_reader.specs.Words.{type_word}

-- ---- members

-- a member of a table
abbrev pub Pair : Type 0
Pair = List ℕ × Data

-- a member that may be missing, and a boolean that is left out where it is false
abbrev pub optional_pair : List ℕ → Option Data → List Pair
optional_pair name None = []
optional_pair name (Some d) = (name, d) ∷ []

abbrev pub flag_pair : List ℕ → Bool → List Pair
flag_pair name flag = if flag then (name, boolean true) ∷ [] else []

-- a release, as its text
abbrev pub release_data : ℕ → Data
release_data k = string (release_text k)

-- ---- entries

abbrev pub gate_change_pairs : GateChange → List Pair
gate_change_pairs (Spec stage default locked) =
    (codes "stage", string (stage_word stage))
    ∷ (codes "default", boolean default)
    ∷ flag_pair (codes "locked") locked
gate_change_pairs Gone =
    (codes "removed", boolean true)
    ∷ []

abbrev pub gate_pairs : GateEntry → List Pair
gate_pairs x =
    (codes "name", string x.name)
    ∷ (codes "since", release_data x.since)
    ∷ gate_change_pairs x.change

abbrev pub introduction_pairs : List ℕ → List ℕ → List Pair
introduction_pairs kind singular =
    (codes "event", string (codes "introduced"))
    ∷ (codes "kind", string kind)
    ∷ (codes "singular", string singular)
    ∷ []

abbrev pub api_change_pairs : ApiChange → List Pair
api_change_pairs (Introduced kind singular namespaced enabled) =
    introduction_pairs kind singular
    ++ ((codes "namespaced", boolean namespaced)
    ∷ (codes "enabled", boolean enabled)
    ∷ [])
api_change_pairs (Deprecated removal replacement) =
    (codes "event", string (codes "deprecated"))
    ∷ (codes "removal", release_data removal)
    ∷ (codes "replacement", string replacement)
    ∷ []
api_change_pairs Removed =
    (codes "event", string (codes "removed"))
    ∷ []
api_change_pairs Forgotten =
    (codes "event", string (codes "forgotten"))
    ∷ []

abbrev pub api_pairs : ApiEntry → List Pair
api_pairs x =
    (codes "group", string x.group)
    ∷ (codes "version", string x.version)
    ∷ (codes "resource", string x.resource)
    ∷ (codes "since", release_data x.since)
    ∷ api_change_pairs x.change

abbrev pub field_pairs : Field → List Pair
field_pairs x =
    (codes "group", string x.group)
    ∷ (codes "resource", string x.resource)
    ∷ (codes "id", string x.id)
    ∷ (codes "since", release_data x.since)
    ∷ (codes "type", string (type_word x.ty))
    ∷ (flag_pair (codes "required") x.required ++ optional_pair (codes "gate") (option_map string x.gate))

-- the names of a path, joined by dots
abbrev pub dotted : List (List ℕ) → List ℕ
dotted [] = []
dotted (name ∷ names) = name ++ flat_map (λ inner. codes "." ++ inner) names

-- the form `Same` is left out
abbrev pub form_pairs : Form → List Pair
form_pairs Same = []
form_pairs Not = (codes "form", string (codes "Not")) ∷ []
form_pairs Decimal = (codes "form", string (codes "Decimal")) ∷ []

-- the value that a default is; a list is none
abbrev pub scalar_data : FieldValue → Option Data
scalar_data (value.Bool b) = Some (boolean b)
scalar_data (value.Int z) = Some (integer z)
scalar_data (value.Text t) = Some (string t)
scalar_data (value.List ts) = None

abbrev pub spell_pairs : Spell → List Pair
spell_pairs x =
    (codes "group", string x.group)
    ∷ (codes "resource", string x.resource)
    ∷ (codes "version", string x.version)
    ∷ (codes "field", string x.field)
    ∷ (codes "since", release_data x.since)
    ∷ (codes "path", string (dotted x.path))
    ∷ (form_pairs x.form ++ optional_pair (codes "default") (option_and_then scalar_data x.default))

-- ---- the document

-- the table with this value at this name; its names stand in byte order
abbrev pub with_member : List ℕ → Data → Members → Members
with_member name d no_members = member name d no_members
with_member name d (member other e ms) =
    match_ordering (slice_cmp nat_cmp name other) (member name d (member other e ms)) (member other d ms)
    (member other e (with_member name d ms))

-- the table with these members
abbrev pub with_members : Members → List Pair → Members
with_members ms [] = ms
with_members ms (p ∷ ps) = with_members (with_member p.0 p.1 ms) ps

abbrev pub table_of : List Pair → Members
table_of ps = with_members no_members ps

-- a table for each entry, in order
abbrev pub tables_of : List (List Pair) → Items
tables_of [] = no_items
tables_of (ps ∷ rows) = item (table (table_of ps)) (tables_of rows)

-- the members of the document itself
abbrev pub history_pairs : Dated → List Pair
history_pairs h =
    optional_pair (codes "first") (option_map release_data h.first)
    ++ (optional_pair (codes "last") (option_map release_data h.last)
    ++ ((codes "gate", array (tables_of (map gate_pairs h.gates)))
    ∷ (codes "api", array (tables_of (map api_pairs h.apis)))
    ∷ (codes "field", array (tables_of (map field_pairs h.fields)))
    ∷ (codes "spell", array (tables_of (map spell_pairs h.spells)))
    ∷ []))

abbrev pub history_table : Dated → Members
history_table h = table_of (history_pairs h)
