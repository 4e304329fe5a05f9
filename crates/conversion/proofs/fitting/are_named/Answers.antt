use Rattle.std.proofs.Common.{◌≡◌, ◌≢◌, ℕ, List, Bool, true, false, All, sym, subst, arith, refl}
use Rattle.std.proofs.lemmas.List.{take_all}
use Rattle.std.proofs.lemmas.List.Elements.{All-get_or, All-more}
use Rattle.fields.specs.declared.map.FieldPair.{FieldPair}
use Rattle.fields.specs.declared.table.FieldRow.{FieldRow}
use Rattle.conversion.specs.Code.{AreNamed}
use Rattle.conversion.proofs.fitting.are_named.Goals as goal

abbrev IsNamed : List FieldRow → FieldPair → Type 0
IsNamed rows p = ¬ All (λ row. row.id ≢ p.id) rows

true_not_false : (b : Bool) → b ≡ true → b ≡ false → ⊥
true_not_false b h k = cc

pub returns-then-is_unnamed : goal.returns-then-is_unnamed
returns-then-is_unnamed c = (
  λ h. absurd (true_not_false false h refl),
  λ all.
      let pair = c.pair-item.result in
      let others : All (λ (row : FieldRow). row.id ≢ pair.id) c.args.rows.now = subst (λ (t : List ℕ). All (λ (row : FieldRow). row.id ≢ t) c.args.rows.now) c.bytes.ensures (c.is_unnamed.ensures.0 c.if-is_unnamed.true) in
      absurd (subst (IsNamed c.args.rows.now) (sym c.pair-item.is) (All-get_or (IsNamed c.args.rows.now) c.args.pairs.now c.loop-pair.pair-index pair (omega arith) all) others),
)

pub loop-pair-preserved : goal.loop-pair-preserved
loop-pair-preserved c =
    let pair = c.pair-item.result in
    let named : IsNamed c.args.rows.now pair = λ others.
    true_not_false c.is_unnamed.result (c.is_unnamed.ensures.1 (subst (λ (t : List ℕ). All (λ (row : FieldRow). row.id ≢ t) c.args.rows.now) (sym c.bytes.ensures) others)) c.if-is_unnamed.false in
    All-more (IsNamed c.args.rows.now) c.args.pairs.now c.loop-pair.pair-index pair (omega arith) c.loop-pair.invariant (subst (IsNamed c.args.rows.now) c.pair-item.is named)

pub returns : goal.returns
returns c = (λ _. subst (AreNamed c.args.rows.now) (take_all c.loop-pair.pair-index c.args.pairs.now (omega arith)) c.loop-pair.invariant, λ _. refl)
