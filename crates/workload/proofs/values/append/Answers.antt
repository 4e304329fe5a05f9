use Rattle.std.proofs.Common.{◌≡◌, List, [], ◌∷◌, ◌++◌, Result, Ok, Err, Some}
use Rattle.std.specs.Prelude.{OnOk}
use Rattle.fields.specs.Map.{IsMap, IsChangedAt}
use Rattle.fields.specs.declared.map.FieldPair.{FieldPair}
use Rattle.workload.proofs.FieldLemmas.{appended}
use Rattle.workload.proofs.values.append.Goals as goal

on_ok : {T E : Type 0} (r : Result T E) (old new : List FieldPair) (p : FieldPair) → IsMap (old ++ p ∷ []) → IsMap new → OnOk r (IsChangedAt p.id (Some p.value) old new) → OnOk r (new ≡ old ++ p ∷ [])
on_ok (Ok v) old new p up is changed = appended old new p up is changed
on_ok (Err e) old new p up is changed = tt

pub returns : goal.returns
returns c = on_ok c.put.result c.args.fields.now c.put.new.self (record { id = c.args.id; value = c.args.value }) c.requires c.put.ensures.map c.put.ensures.ok
