use Rattle.std.proofs.Common.{◌≡◌, Bool, true, false, ◌++◌, ◌∷◌, [], ◌+◌, ◌<◌, Option, None, List, length, take, get_or, option_copied, refl, sym, ◌∙◌, ap, subst}
use Rattle.std.proofs.lemmas.List.{take_more}
use Rattle.fields.specs.Map.{IsMap, IsChangedAt}
use Rattle.fields.specs.declared.map.FieldPair.{FieldPair}
use Rattle.fields.specs.declared.table.FieldRow.{FieldRow}
use Rattle.field_drop.specs.Dropping.{IsStored, AreKept}
use Rattle.field_drop.proofs.KeptLemmas.{all_kept, kept_on, kept_stored, kept_dropped}
use Rattle.field_drop.proofs.dropping.drop_fields.Goals as goal
use Rattle.field_drop.proofs.dropping.drop_fields.Goals.{then-not-row+then-not-is_stored, else-not-row, else-not-row-via-then-not-row+else-not-is_stored, else-not-row-via-else-not-row}

pub loop-row-init : goal.loop-row-init
loop-row-init c = all_kept (option_copied c.args.old) c.args.new.now (subst (λ ps. IsMap ps) c.pairs-pairs.ensures.value c.pairs-pairs.ensures.map)

pub loop-row-preserved : goal.loop-row-preserved
loop-row-preserved c =
    let old = option_copied c.args.old in
    let rows = take c.loop-row.row-index c.args.table.now.rows in
    let row = c.row-item.result in
    let within : c.loop-row.row-index < length c.args.table.now.rows = subst (λ (xs : List FieldRow). c.loop-row.row-index < length xs) c.items-row-items.ensures.value c.loop-row-test.true in
    let there : get_or c.args.table.now.rows c.loop-row.row-index row ≡ row =
    sym (c.row-item.is ∙ ap (λ (xs : List FieldRow). get_or xs c.loop-row.row-index row) c.items-row-items.ensures.value) in
    let grows : take (c.loop-row.row-index + 1) c.args.table.now.rows ≡ rows ++ row ∷ [] =
    take_more c.args.table.now.rows c.loop-row.row-index row within ∙ ap (λ r. rows ++ r ∷ []) there in
    subst (λ (xs : List FieldRow). AreKept xs old c.args.new.now c.if-not-row.new) (sym grows) (elim c.if-not-row.branch [
      | then-not-row+then-not-is_stored w ↦
          let off : row.on ≡ false = w.if-not-row.true in
          let gone : IsStored old row.id → ⊥ =
          λ stored. let both : false ≡ true = w.if-not-is_stored.ensures.1 (subst (λ t. IsStored old t) (sym c.bytes-id.ensures) stored) in cc in
          let changed : IsChangedAt row.id None c.loop-row.new w.remove.new.self =
          subst (λ t. IsChangedAt t None c.loop-row.new w.remove.new.self) c.bytes-id.ensures w.remove.ensures.changed in
          rw w.new-is (kept_dropped rows row old c.args.new.now c.loop-row.new w.remove.new.self off gone w.remove.ensures.map changed c.loop-row.invariant)
      | else-not-row w ↦ elim w.else-not-row.branch [
        | else-not-row-via-then-not-row+else-not-is_stored w' ↦ rw w.new-is (kept_stored rows row old c.args.new.now c.loop-row.new (subst (λ t. IsStored old t) c.bytes-id.ensures (w'.if-not-is_stored.ensures.0 refl)) c.loop-row.invariant)
        | else-not-row-via-else-not-row w' ↦ rw w.new-is (kept_on rows row old c.args.new.now c.loop-row.new w'.if-not-row.false c.loop-row.invariant)
      ]
    ])
