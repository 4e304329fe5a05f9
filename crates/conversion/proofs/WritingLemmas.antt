-- Each form can be undone.
use Rattle.std.proofs.Common.{◌≡◌, ◌≢◌, ℕ, zero, suc, ◌<◌, ◌^◌, Bool, true, false, not, List, [], ◌∷◌, map, get_or, ℤ, pos, negsuc, refl, sym, ◌∙◌, ap, ap₂, subst, arith, decimal}
use Rattle.std.specs.Fmt.{signed_decimal}
use Rattle.std.proofs.lemmas.Int.{ints}
use Rattle.std.proofs.lemmas.Fmt.{decimal_injective, first_decimal, decimal_digit}
use Rattle.fields.specs.Table.{IsFormOf, IsInt64, IsValue, type_of}
use Rattle.fields.specs.declared.field.Form.{Form}
use Rattle.fields.specs.declared.field.Form.TheVariants.{Same, Not, Decimal}
use Rattle.fields.specs.declared.table.FieldRow.{FieldRow}
use Rattle.fields.specs.declared.value.FieldValue.{FieldValue}
use Rattle.fields.specs.declared.value.FieldValue.TheVariants.{Bool as Truth, Int, Text, List as Texts}
use Rattle.serde_json.specs.Data.{Data, null, boolean, number, string, array, object}
use Rattle.serde_json.specs.Find.{of_integer}
use Rattle.serde_json.specs.View.{items_of}
use Rattle.conversion.specs.Trees.{IsObject}
use Rattle.conversion.specs.Writing.{IsWrittenIn, Spells}

-- ---- no written value is null, or an object

abbrev pub IsLeaf : Data → Type 0
IsLeaf null = ⊥
IsLeaf (boolean b) = Unit {0}
IsLeaf (number n) = Unit {0}
IsLeaf (string s) = Unit {0}
IsLeaf (array ds) = Unit {0}
IsLeaf (object ms) = ⊥

pub leaf_written : (form : Form) (value : FieldValue) (json : Data) → IsWrittenIn form value json → IsLeaf json
leaf_written Same (Truth b) json h = subst IsLeaf (sym h) tt
leaf_written Same (Int z) json h = subst IsLeaf (sym h.1) tt
leaf_written Same (Text t) json h = subst IsLeaf (sym h) tt
leaf_written Same (Texts ts) json h = subst IsLeaf (sym h) tt
leaf_written Not (Truth b) json h = subst IsLeaf (sym h) tt
leaf_written Not (Int z) json h = absurd h
leaf_written Not (Text t) json h = absurd h
leaf_written Not (Texts ts) json h = absurd h
leaf_written Decimal (Truth b) json h = absurd h
leaf_written Decimal (Int z) json h = subst IsLeaf (sym h.1) tt
leaf_written Decimal (Text t) json h = absurd h
leaf_written Decimal (Texts ts) json h = absurd h

pub leaf_not_null : (json : Data) → IsLeaf json → json ≢ null
leaf_not_null json h e = subst IsLeaf e h

pub leaf_not_object : (json : Data) → IsLeaf json → ¬ IsObject json
leaf_not_object json h k = subst IsLeaf k.1 h

-- ---- numbers

abbrev size : ℤ → ℕ
size (pos n) = n
size (negsuc n) = suc n

whole_small : (z : ℤ) → IsInt64 z → size z < 2 ^ 64
whole_small (pos n) h = omega (arith, ints)
whole_small (negsuc n) h = omega (arith, ints)

no_digit : (m n : ℕ) → m ≡ n → m ≡ 48 → n ≡ 45 → ⊥
no_digit m n e h k = omega arith

minus_first : (n : ℕ) (ds : List ℕ) → n < 2 ^ 64 → decimal n ≡ 45 ∷ ds → ⊥
minus_first zero ds h e =
    let digit : decimal 0 ≡ 48 ∷ [] = decimal_digit 0 (omega arith) in
    no_digit (get_or (48 ∷ []) 0 0) (get_or (45 ∷ ds) 0 0) (ap (λ xs. get_or xs 0 0) (sym digit ∙ e)) refl refl
minus_first (suc n) ds h e = let first = first_decimal (suc n) (omega arith) h in let is : get_or (decimal (suc n)) 0 0 ≡ 45 = ap (λ xs. get_or xs 0 0) e in absurd (omega arith)

same_decimal : (y z : ℤ) → IsInt64 y → IsInt64 z → signed_decimal y ≡ signed_decimal z → y ≡ z
same_decimal (pos m) (pos n) h k e = ap pos (decimal_injective m n (whole_small (pos m) h) (whole_small (pos n) k) e)
same_decimal (pos m) (negsuc n) h k e = absurd (minus_first m (decimal (suc n)) (whole_small (pos m) h) e)
same_decimal (negsuc m) (pos n) h k e = absurd (minus_first n (decimal (suc m)) (whole_small (pos n) k) (sym e))
same_decimal (negsuc m) (negsuc n) h k e =
    let tails : decimal (suc m) ≡ decimal (suc n) = cc in
    let sames : suc m ≡ suc n = decimal_injective (suc m) (suc n) (whole_small (negsuc m) h) (whole_small (negsuc n) k) tails in
    ap negsuc (let r : m ≡ n = omega arith in r)

same_number : (y z : ℤ) → of_integer y ≡ of_integer z → y ≡ z
same_number (pos m) (pos n) e = ap pos cc
same_number (pos m) (negsuc n) e = absurd cc
same_number (negsuc m) (pos n) e = absurd cc
same_number (negsuc m) (negsuc n) e = cc

same_texts : (ts us : List (List ℕ)) → items_of (map string ts) ≡ items_of (map string us) → ts ≡ us
same_texts [] [] e = refl
same_texts [] (u ∷ us) e = absurd cc
same_texts (t ∷ ts) [] e = absurd cc
same_texts (t ∷ ts) (u ∷ us) e =
    let firsts : string t ≡ string u = cc in
    let head : t ≡ u = cc in
    let rest : items_of (map string ts) ≡ items_of (map string us) = cc in
    ap₂ (λ x xs. x ∷ xs) head (same_texts ts us rest)

same_opposite : (b d : Bool) → boolean (not b) ≡ boolean (not d) → b ≡ d
same_opposite true true e = refl
same_opposite true false e = absurd cc
same_opposite false true e = absurd cc
same_opposite false false e = refl

-- ---- a JSON value is written by one value of a type

pub one_value : (form : Form) (v w : FieldValue) (json : Data) → type_of v ≡ type_of w → IsWrittenIn form v json → IsWrittenIn form w json → v ≡ w
one_value Same (Truth b) (Truth d) json t h k = let e : boolean b ≡ boolean d = sym h ∙ k in let s : b ≡ d = cc in ap Truth s
one_value Not (Truth b) (Truth d) json t h k = ap Truth (same_opposite b d (sym h ∙ k))
one_value Decimal (Truth b) (Truth d) json t h k = absurd h
one_value form (Truth b) (Int z) json t h k = absurd cc
one_value form (Truth b) (Text s) json t h k = absurd cc
one_value form (Truth b) (Texts ss) json t h k = absurd cc
one_value Same (Int y) (Int z) json t h k = let e : number (of_integer y) ≡ number (of_integer z) = sym h.1 ∙ k.1 in let n : of_integer y ≡ of_integer z = cc in ap Int (same_number y z n)
one_value Not (Int y) (Int z) json t h k = absurd h
one_value Decimal (Int y) (Int z) json t h k = let e : string (signed_decimal y) ≡ string (signed_decimal z) = sym h.1 ∙ k.1 in let n : signed_decimal y ≡ signed_decimal z = cc in ap Int (same_decimal y z h.0 k.0 n)
one_value form (Int y) (Truth b) json t h k = absurd cc
one_value form (Int y) (Text s) json t h k = absurd cc
one_value form (Int y) (Texts ss) json t h k = absurd cc
one_value Same (Text s) (Text u) json t h k = let e : string s ≡ string u = sym h ∙ k in let n : s ≡ u = cc in ap Text n
one_value Not (Text s) (Text u) json t h k = absurd h
one_value Decimal (Text s) (Text u) json t h k = absurd h
one_value form (Text s) (Truth b) json t h k = absurd cc
one_value form (Text s) (Int z) json t h k = absurd cc
one_value form (Text s) (Texts ss) json t h k = absurd cc
one_value Same (Texts ss) (Texts us) json t h k = let e : array (items_of (map string ss)) ≡ array (items_of (map string us)) = sym h ∙ k in let n : items_of (map string ss) ≡ items_of (map string us) = cc in ap Texts (same_texts ss us n)
one_value Not (Texts ss) (Texts us) json t h k = absurd h
one_value Decimal (Texts ss) (Texts us) json t h k = absurd h
one_value form (Texts ss) (Truth b) json t h k = absurd cc
one_value form (Texts ss) (Int z) json t h k = absurd cc
one_value form (Texts ss) (Text s) json t h k = absurd cc

pub one_spelled : (row : FieldRow) (v w : FieldValue) (json : Data) → Spells row v json → Spells row w json → v ≡ w
one_spelled row v w json h k = one_value row.form v w json (h.typed ∙ sym k.typed) h.written k.written

-- ---- a value is written in one way

pub one_json : (form : Form) (v : FieldValue) (d e : Data) → IsWrittenIn form v d → IsWrittenIn form v e → d ≡ e
one_json Same (Truth b) d e h k = h ∙ sym k
one_json Same (Int z) d e h k = h.1 ∙ sym k.1
one_json Same (Text t) d e h k = h ∙ sym k
one_json Same (Texts ts) d e h k = h ∙ sym k
one_json Not (Truth b) d e h k = h ∙ sym k
one_json Not (Int z) d e h k = absurd h
one_json Not (Text t) d e h k = absurd h
one_json Not (Texts ts) d e h k = absurd h
one_json Decimal (Truth b) d e h k = absurd h
one_json Decimal (Int z) d e h k = h.1 ∙ sym k.1
one_json Decimal (Text t) d e h k = absurd h
one_json Decimal (Texts ts) d e h k = absurd h

-- ---- what is written is a value that a field can hold, and each such value can be written

pub value_written : (form : Form) (v : FieldValue) (json : Data) → IsWrittenIn form v json → IsValue v
value_written Same (Truth b) json h = tt
value_written Same (Int z) json h = h.0
value_written Same (Text t) json h = tt
value_written Same (Texts ts) json h = tt
value_written Not (Truth b) json h = tt
value_written Not (Int z) json h = absurd h
value_written Not (Text t) json h = tt
value_written Not (Texts ts) json h = tt
value_written Decimal (Truth b) json h = tt
value_written Decimal (Int z) json h = h.0
value_written Decimal (Text t) json h = tt
value_written Decimal (Texts ts) json h = tt

pub some_json : (form : Form) (v : FieldValue) → IsFormOf (type_of v) form → IsValue v → (json : Data) × IsWrittenIn form v json
some_json Same (Truth b) h whole = (boolean b, refl)
some_json Same (Int z) h whole = (number (of_integer z), (whole, refl))
some_json Same (Text t) h whole = (string t, refl)
some_json Same (Texts ts) h whole = (array (items_of (map string ts)), refl)
some_json Not (Truth b) h whole = (boolean (not b), refl)
some_json Not (Int z) h whole = absurd (let e = h in cc)
some_json Not (Text t) h whole = absurd (let e = h in cc)
some_json Not (Texts ts) h whole = absurd (let e = h in cc)
some_json Decimal (Truth b) h whole = absurd (let e = h in cc)
some_json Decimal (Int z) h whole = (string (signed_decimal z), (whole, refl))
some_json Decimal (Text t) h whole = absurd (let e = h in cc)
some_json Decimal (Texts ts) h whole = absurd (let e = h in cc)
