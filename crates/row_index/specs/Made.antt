-- What is kept on the way to the rows of a version.
use Rattle.std.specs.Prelude.{◌≡◌, ℕ, ◌&&◌, ◌||◌, Bool, true, List, Contains, Option, Some, None, IfSome, option_map, option_copied, find, map}
use Rattle.std.specs.BTreeMap.{BTreeMap, IsOrdered, get}
use Rattle.std.specs.Borrow.{Bor}
use Rattle.std.specs.List.{filter_map, list_any}
use Rattle.std.specs.Ordering.{nat_cmp}
use Rattle.std.specs.Cmp.Lexicographic.{slice_cmp}
use Rattle.std.specs.Str.{bytes_eq}
use Rattle.fields.specs.Order.{Rises}
use Rattle.fields.specs.declared.field.Field.{Field}
use Rattle.fields.specs.declared.field.Spell.{Spell}
use Rattle.fields.specs.declared.table.FieldRow.{FieldRow}
use Rattle.gate_flags.specs.Values.{Gates}

-- no gate guards, or the gate is on
abbrev pub is_on : Gates → Option (List ℕ) → Bool
is_on gates None = true
is_on gates (Some gate) =
    list_any (λ r. bytes_eq r.name gate && r.value) gates.rows
    || list_any (λ r. bytes_eq r.name gate && r.value) gates.removed

-- the first spelling of the field's id
abbrev pub spelling_in : List Spell → Field → Option Spell
spelling_in spells f = find (λ s. bytes_eq s.field f.id) spells

-- the row of the field as it is spelled
abbrev pub row_as : Bool → Field → Spell → FieldRow
row_as on f s =
    record {
      id = f.id;
      ty = f.ty;
      required = f.required;
      on = on;
      path = s.path;
      form = s.form;
      default = s.default;
    }

-- the row of the field, where one of the spellings is of its id
abbrev pub row_in : Gates → List Spell → Field → Option FieldRow
row_in gates spells f = option_map (row_as (is_on gates f.gate) f) (spelling_in spells f)

abbrev pub rows_in : Gates → List Spell → List (Bor Field) → List FieldRow
rows_in gates spells fields = filter_map (λ b. row_in gates spells b.now) fields

-- fields that differ have ids that differ
abbrev pub AreApartById : List Field → Type 0
AreApartById fields = (f g : Field) → Contains fields f → Contains fields g → f.id ≡ g.id → f ≡ g

-- the fields' ids rise
abbrev pub RiseById : List (Bor Field) → Type 0
RiseById fields = Rises (map (λ b. b.now.id) fields)

-- the map has each of the fields at its id, and nothing else
pub record HoldsById (fields : List Field) (m : BTreeMap (List ℕ) (Bor Field)) : Type 0 where
  pub order : IsOrdered (slice_cmp nat_cmp) m
  pub named : (id : List ℕ) →
      IfSome (get (slice_cmp nat_cmp) m id) (λ b. (b.now.id ≡ id) × Contains fields b.now)
  pub each : (f : Field) → Contains fields f →
      option_copied (get (slice_cmp nat_cmp) m f.id) ≡ Some f
