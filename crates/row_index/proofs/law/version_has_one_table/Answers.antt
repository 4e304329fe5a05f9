use Rattle.basis.proofs.OrderLemmas.{one_by_name}
use Rattle.fields.specs.declared.table.FieldRow.{FieldRow}
use Rattle.row_index.proofs.law.version_has_one_table.Goals as goal

pub returns : goal.returns
returns c = λ rows others one other. one_by_name (λ (r : FieldRow). r.id) rows others one.order other.order (λ row. (λ h. (other.exact row).1 ((one.exact row).0 h), λ h. (one.exact row).1 ((other.exact row).0 h)))
