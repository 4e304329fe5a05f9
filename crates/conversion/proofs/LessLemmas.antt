-- Fewer rows read less.
use Rattle.std.proofs.Common.{◌≡◌, inl, inr, ℕ, ◌<◌, List, length, get_or, Option, sym, ◌∙◌, subst}
use Rattle.fields.specs.Fits.{AreOneButOn, KnowsLess, restricted}
use Rattle.fields.specs.Map.{value_at}
use Rattle.fields.specs.declared.map.FieldPair.{FieldPair}
use Rattle.fields.specs.declared.table.FieldRow.{FieldRow}
use Rattle.fields.specs.declared.value.FieldValue.{FieldValue}
use Rattle.fields.proofs.FitLemmas.{restricted_map, restricted_at, restricted_only}
use Rattle.serde_json.specs.Data.{Data}
use Rattle.conversion.specs.Laws.{ReadsLess}
use Rattle.conversion.specs.Reading.{IsHeld, IsRead}
use Rattle.conversion.specs.Trees.{Stands, IsAbsent}
use Rattle.conversion.specs.Writing.{IsWrittenIn}
use Rattle.conversion.specs.declared.mode.Mode.TheVariants.{Stored}

held_alike : (tree : Data) (row other : FieldRow) (v : FieldValue) → AreOneButOn row other → IsHeld tree other v → IsHeld tree row v
held_alike tree row other v one h = record {
  json = h.json;
  stands = subst (λ p. Stands tree p h.json) (sym one.path) h.stands;
  spelled = record { typed = h.spelled.typed ∙ sym one.ty; written = subst (λ f. IsWrittenIn f v h.json) (sym one.form) h.spelled.written };
}

read_alike : (tree : Data) (row other : FieldRow) (o : Option FieldValue) → AreOneButOn row other → IsRead Stored tree other o → IsRead Stored tree row o
read_alike tree row other o one (inl h) = inl (h.0, h.1, held_alike tree row other h.0 one h.2)
read_alike tree row other o one (inr h) = inr (subst (IsAbsent tree) (sym one.path) h.0, h.1)

pub reads_less : (rows later : List FieldRow) → KnowsLess rows later → ReadsLess rows later
reads_less rows later knows tree held h = record {
  map = restricted_map rows held h.map;
  each = λ k d below.
      let row = get_or rows k d in
      let of = knows k d below in
      let other = of.1 in
      let one : AreOneButOn row other = of.4 in
      let read : IsRead Stored tree other (value_at held other.id) = subst (λ (r : FieldRow). IsRead Stored tree r (value_at held r.id)) of.3 (h.each of.0 other of.2) in
      subst (IsRead Stored tree row) (sym (restricted_at rows held k d below))
      (subst (λ id. IsRead Stored tree row (value_at held id)) (sym one.id) (read_alike tree row other (value_at held other.id) one read));
  only = restricted_only rows held;
}
