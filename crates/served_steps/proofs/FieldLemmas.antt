-- The texts of fields that a request gives are UTF-8, where those of defaults are.
use Rattle.std.proofs.Common.{◌≡◌, ◌≢◌, ◌⊎◌, inl, inr, ⊎_elim, ℕ, Bool, true, false, List, [], ◌∷◌, map, Option, Some, None, All, IfSome, Contains, bytes_eq, refl, sym, ◌∙◌, ap, subst}
use Rattle.std.specs.Prelude.{if◌then◌else◌}
use Rattle.std.proofs.lemmas.Bool.{true≢false}
use Rattle.std.proofs.lemmas.List.Elements.{All-nil, All-cons, All-contains}
use Rattle.std.proofs.lemmas.Slice.Eq.{bytes_eq-Decides}
use Rattle.conversion.specs.Reading.{IsRead, Reads}
use Rattle.conversion.specs.Writing.{IsWrittenIn}
use Rattle.conversion.specs.declared.mode.Mode.TheVariants.{Body}
use Rattle.fields.specs.Map.{value_at}
use Rattle.fields.specs.Table.{IsDefaultOf, IsLawfulRow, AreLawful, type_of}
use Rattle.fields.specs.declared.field.Form.{Form}
use Rattle.fields.specs.declared.field.Form.TheVariants.{Same, Not, Decimal}
use Rattle.fields.specs.declared.map.FieldPair.{FieldPair}
use Rattle.fields.specs.declared.table.FieldRow.{FieldRow}
use Rattle.fields.specs.declared.value.FieldValue.{FieldValue}
use Rattle.fields.specs.declared.value.FieldValue.TheVariants.{Bool as Truth, Int, Text, List as Texts}
use Rattle.key_order.proofs.OrderLemmas.{head_there, tail_there}
use Rattle.object_state.specs.State.{State}
use Rattle.http_front.specs.declared.request.Request.{Request}
use Rattle.request_body.specs.Places.{Place}
use Rattle.request_body.specs.Writes.{AreGiven}
use Rattle.serde_json.specs.Data.{Data, string}
use Rattle.serde_json.specs.View.{items_of}
use Rattle.served_steps.proofs.ShownLemmas.{AreUtf8, IsTextual, HoldsTexts}
use Rattle.served_steps.proofs.TextLemmas.{IsTextData, HaveTexts, read_texts, stands_text}
use Rattle.served_steps.specs.Texts.{HaveTextDefaults, IsTextDefault}

items_utf8 : (ts : List (List ℕ)) → HaveTexts (items_of (map string ts)) → AreUtf8 ts
items_utf8 [] h = tt
items_utf8 (t ∷ ts) h = (h.0, items_utf8 ts h.1)

-- a value that is written with texts in UTF-8 has such
written_textual : (form : Form) (value : FieldValue) (json : Data) → IsTextData json → IsWrittenIn form value json → IsTextual value
written_textual Same (Truth b) json text h = tt
written_textual Same (Int z) json text h = tt
written_textual Same (Text t) json text h = subst IsTextData h text
written_textual Same (Texts ts) json text h = items_utf8 ts (subst IsTextData h text)
written_textual Not (Truth b) json text h = tt
written_textual Not (Int z) json text h = absurd h
written_textual Not (Text t) json text h = absurd h
written_textual Not (Texts ts) json text h = absurd h
written_textual Decimal (Truth b) json text h = absurd h
written_textual Decimal (Int z) json text h = tt
written_textual Decimal (Text t) json text h = absurd h
written_textual Decimal (Texts ts) json text h = absurd h

-- ---- the row of a field

record HasRow (rows : List FieldRow) (id : List ℕ) : Type 0 where
  row : FieldRow
  among : Contains rows row
  of_id : row.id ≡ id

row_at : (r : FieldRow) (rs : List FieldRow) (id : List ℕ) (t : Bool) → bytes_eq r.id id ≡ t → HasRow rs id ⊎ All (λ row. row.id ≢ id) rs → HasRow (r ∷ rs) id ⊎ All (λ row. row.id ≢ id) (r ∷ rs)
row_at r rs id true is rest = inl (record { row = r; among = head_there r rs; of_id = (bytes_eq-Decides r.id id).0 is })
row_at r rs id false is rest = ⊎_elim
    (λ (h : HasRow rs id). inl (record { row = h.row; among = tail_there r h.row rs h.among; of_id = h.of_id }))
    (λ (none : All (λ row. row.id ≢ id) rs). inr (All-cons (λ (row : FieldRow). row.id ≢ id) r rs (λ same. true≢false (sym ((bytes_eq-Decides r.id id).1 same) ∙ is)) none))
    rest

row_or_not : (rows : List FieldRow) (id : List ℕ) → HasRow rows id ⊎ All (λ row. row.id ≢ id) rows
row_or_not [] id = inr (All-nil (λ (row : FieldRow). row.id ≢ id))
row_or_not (r ∷ rs) id = row_at r rs id (bytes_eq r.id id) refl (row_or_not rs id)

-- ---- what a body is read as

same_value : (a b : FieldValue) → Some a ≡ Some b → a ≡ b
same_value a b e = cc

no_value : (a : FieldValue) → None ≡ Some a → ⊥
no_value a e = cc

-- a default is no list
default_textual : (v : FieldValue) → type_of v ≢ type_of (Texts []) → IsTextDefault v → IsTextual v
default_textual (Truth b) single text = tt
default_textual (Int z) single text = tt
default_textual (Text t) single text = text
default_textual (Texts ts) single text = absurd (single refl)

on_default : (on : Bool) (default : Option FieldValue) (v : FieldValue) → (if on then default else None) ≡ Some v → default ≡ Some v
on_default true default v e = e
on_default false default v e = absurd (no_value v e)

held_default : (row : FieldRow) (o : Option FieldValue) (v : FieldValue) → row.default ≡ o → IfSome o (IsDefaultOf row.ty) → IfSome o IsTextDefault → o ≡ Some v → IsTextual v
held_default row None v is lawful text e = absurd (no_value v e)
held_default row (Some w) v is lawful text e = subst IsTextual (same_value w v e) (default_textual w (λ list. lawful.not_list (sym lawful.typed ∙ list)) text)

module _ (rows : List FieldRow) (lawful : AreLawful rows) (defaults : HaveTextDefaults rows) (tree : Data) (text : IsTextData tree) (held : List FieldPair) (reads : Reads Body rows tree held) where
  row_textual : (row : FieldRow) (v : FieldValue) → Contains rows row → IsRead Body tree row (value_at held row.id) → value_at held row.id ≡ Some v → IsTextual v
  row_textual row v among (inl (value, is, at)) e =
      subst IsTextual (same_value value v (sym is ∙ e)) (written_textual row.form value at.json (stands_text tree row.path at.json text at.stands) at.spelled.written)
  row_textual row v among (inr (absent, is)) e =
      held_default row row.default v refl (All-contains IsLawfulRow rows row lawful.each among).default (All-contains (λ (r : FieldRow). IfSome r.default IsTextDefault) rows row defaults among)
      (on_default row.on row.default v (sym is ∙ e))

  read_textual : HoldsTexts held
  read_textual = λ id v e. ⊎_elim
      (λ (h : HasRow rows id).
      row_textual h.row v h.among (All-contains (λ (r : FieldRow). IsRead Body tree r (value_at held r.id)) rows h.row reads.each h.among)
      (ap (value_at held) h.of_id ∙ e))
      (λ (none : All (λ row. row.id ≢ id) rows). absurd (no_value v (sym (reads.only id none) ∙ e)))
      (row_or_not rows id)

-- what a request gives holds texts in UTF-8
pub given_textual : (s : State) (q : Request) (place : Place) (name : List ℕ) (fields : List FieldPair) → AreLawful place.of.table.rows → HaveTextDefaults place.of.table.rows → AreGiven s q place name fields → HoldsTexts fields
given_textual s q place name fields lawful defaults given = λ id v e.
    read_textual place.of.table.rows lawful defaults given.tree (read_texts q.body given.tree given.text.utf8 given.text.read) given.given.read given.given.reads id v ((given.given.kept.exact id v).0 e).0
