-- A resource's table is its own in one way at most, as the type that keeps this asks.
use Rattle.std.proofs.Common.{◌≡◌, ◌⊎◌, inl, inr, ℕ, List, refl, sym, ◌∙◌, ap, arith}
use mathlib.Core.HLevel.{collapsible→set, prop→set, Unit-prop}
use mathlib.Core.Sum.{⊎_set}
use Rattle.std.proofs.Props.{props}
use Rattle.basis.specs.Names.{IsLower, IsUpper, IsDigit, IsLetterOrDigit, BeginsLower}
use Rattle.fields.specs.Table.{IsFieldPath, IsFormOf, IsValue, IsShort, IsDefaultOf, IsLawfulRow, AreLawful}
use Rattle.fields.specs.declared.field.Form.{Form}
use Rattle.fields.specs.declared.field.Form.TheVariants.{Same, Not, Decimal}
use Rattle.fields.specs.declared.table.FieldRow.{FieldRow}
use Rattle.fields.specs.declared.table.VersionTable.{VersionTable}
use Rattle.fields.specs.declared.value.FieldType.{FieldType}
use Rattle.fields.specs.declared.value.FieldType.TheVariants.{Bool as BoolType, Int as IntType, Text as TextType, TextList as ListType}
use Rattle.fields.specs.declared.value.FieldValue.{FieldValue}
use Rattle.fields.specs.declared.value.FieldValue.TheVariants.{Bool, Int, Text, List as Texts}
use Rattle.release_view.specs.declared.served.ServedVersion.{ServedVersion}
use Rattle.request_target.specs.Resources.{IsTableOf}

-- of two facts that don't hold together
either_once : {A B : Type 0} → IsProp A → IsProp B → (A → B → ⊥) → IsProp (A ⊎ B)
either_once a b apart (inl x) (inl y) = ap inl (a x y)
either_once a b apart (inl x) (inr y) = absurd (apart x y)
either_once a b apart (inr x) (inl y) = absurd (apart y x)
either_once a b apart (inr x) (inr y) = ap inr (b x y)

letter_once : (c : ℕ) → IsProp (IsLetterOrDigit c)
letter_once c =
    let lower : IsProp (IsLower c) = hlevel props in
    let upper : IsProp (IsUpper c) = hlevel props in
    let digit : IsProp (IsDigit c) = hlevel props in
    either_once lower (either_once upper digit (λ u d. omega arith))
    (λ l r. elim r [ inl u ↦ omega arith | inr d ↦ omega arith ])

name_once : (name : List ℕ) → IsProp (BeginsLower 32 IsLetterOrDigit name)
name_once name = hlevel (letter_once, props)

path_once : (path : List (List ℕ)) → IsProp (IsFieldPath path)
path_once path = hlevel (name_once, props)

-- a type that maps into a set and back is a set
retract_set : {A B : Type 0} (to : A → B) (from : B → A) → ((x : A) → from (to x) ≡ x)
    → IsSet B → IsSet A
retract_set to from back set = collapsible→set (λ x y p. sym (back x) ∙ ap from (ap to p) ∙ back y)
    (λ x y p q. ap (λ z. sym (back x) ∙ ap from z ∙ back y) (set (to x) (to y) (ap to p) (ap to q)))

pair_set : IsSet (Unit {0} ⊎ Unit {0})
pair_set = ⊎_set (prop→set Unit-prop) (prop→set Unit-prop)

type_set : IsSet FieldType
type_set =
    retract_set {B = (Unit {0} ⊎ Unit {0}) ⊎ (Unit {0} ⊎ Unit {0})}
    (elim [
      | BoolType ↦ inl (inl tt)
      | IntType ↦ inl (inr tt)
      | TextType ↦ inr (inl tt)
      | ListType ↦ inr (inr tt)
    ])
    (elim [
      | inl a ↦ elim a [ inl _ ↦ BoolType | inr _ ↦ IntType ]
      | inr a ↦ elim a [ inl _ ↦ TextType | inr _ ↦ ListType ]
    ])
    (elim [ BoolType ↦ refl | IntType ↦ refl | TextType ↦ refl | ListType ↦ refl ])
    (⊎_set pair_set pair_set)

form_once : (ty : FieldType) (form : Form) → IsProp (IsFormOf ty form)
form_once ty Same = hlevel props
form_once ty Not = hlevel (type_set, props)
form_once ty Decimal = hlevel (type_set, props)

value_once : (value : FieldValue) → IsProp (IsValue value)
value_once (Bool b) = hlevel props
value_once (Int z) = hlevel props
value_once (Text t) = hlevel props
value_once (Texts ts) = hlevel props

short_once : (value : FieldValue) → IsProp (IsShort value)
short_once (Bool b) = hlevel props
short_once (Int z) = hlevel props
short_once (Text t) = hlevel props
short_once (Texts ts) = hlevel props

default_once : (ty : FieldType) (value : FieldValue) → IsProp (IsDefaultOf ty value)
default_once ty value = hlevel (type_set, value_once, short_once, props)

row_once : (row : FieldRow) → IsProp (IsLawfulRow row)
row_once row = hlevel (path_once, form_once, default_once, props)

lawful_once : (rows : List FieldRow) → IsProp (AreLawful rows)
lawful_once rows = hlevel (row_once, props)

pub IsTableOf-prop : (served : ServedVersion) (table : VersionTable)
    → IsProp (IsTableOf served table)
IsTableOf-prop served table = hlevel (lawful_once, props)
