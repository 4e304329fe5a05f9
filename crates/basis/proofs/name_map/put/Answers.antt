use Rattle.std.proofs.Common.{ℕ, List, Bool, Some, cond, ap, ◌∙◌}
use Rattle.basis.specs.NameMap.{value_at}
use Rattle.basis.proofs.NameLemmas.{same_name}
use Rattle.basis.proofs.name_map.put.Goals as goal

pub returns-in-Ok-clause-ok : goal.returns-in-Ok-clause-ok
returns-in-Ok-clause-ok g c = λ (x y z : List ℕ).
    c.in-Ok.ensures.updates.0 (record { ref_ptr = (0, 0); now = x }, record { ref_ptr = (0, 0); now = y }, record { ref_ptr = (0, 0); now = z })
    ∙ ap (λ (t : Bool). cond t (Some c.args.value) (value_at c.args.map.now x y z)) (same_name c.args.a.now c.args.b.now c.args.c.now x y z)
