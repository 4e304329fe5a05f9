use Rattle.std.proofs.Common.{◌≡◌, ◌<◌, length, true, All, sym, subst, arith, refl}
use Rattle.std.proofs.lemmas.List.{take_all}
use Rattle.std.proofs.lemmas.List.Elements.{All-get_or, All-more}
use Rattle.fields.specs.Table.{AreApart}
use Rattle.fields.specs.declared.table.FieldRow.{FieldRow}
use Rattle.fields.proofs.lawful.stands_apart.Goals as goal

abbrev Apart : FieldRow → FieldRow → Type 0
Apart row other = AreApart other.path row.path

pub returns-then-not-rows_apart : goal.returns-then-not-rows_apart
returns-then-not-rows_apart c = (
  λ h. absurd cc,
  λ all.
      let row = c.args.row.now in
      let rows = c.args.rows.now in
      let below : c.loop-other.other-index < length rows = omega arith in
      let at = All-get_or (Apart row) rows c.loop-other.other-index c.other-item.result below all in
      let is = c.rows_apart.ensures.1 (subst (Apart row) (sym c.other-item.is) at) in
      absurd (let f = c.if-not-rows_apart.true in cc),
)

pub loop-other-preserved : goal.loop-other-preserved
loop-other-preserved c =
    let row = c.args.row.now in
    let is : c.rows_apart.result ≡ true = (let f = c.if-not-rows_apart.false in cc) in
    All-more (Apart row) c.args.rows.now c.loop-other.other-index c.other-item.result (omega arith) c.loop-other.invariant (subst (Apart row) c.other-item.is (c.rows_apart.ensures.0 is))

pub returns : goal.returns
returns c = (λ _. subst (All (Apart c.args.row.now)) (take_all c.loop-other.other-index c.args.rows.now (omega arith)) c.loop-other.invariant, λ _. refl)
