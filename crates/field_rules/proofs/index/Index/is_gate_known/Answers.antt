use Rattle.std.proofs.Common.{ap}
use Rattle.schemas.specs.Dated.{Dated}
use Rattle.field_rules.proofs.IndexLemmas.{gate_known}
use Rattle.field_rules.proofs.index.Index.is_gate_known.Goals as goal

pub returns : goal.returns
returns c = gate_known c.self.inside.gates.now c.args.self.now.gates c.self.inside.gates_by_name c.listed.result c.has_gate_by.result c.bytes-name.result.now c.args.gate.now c.args.by c.self.invariant.gates_by_name (ap (λ (h : Dated). h.gates) c.self.view_is) c.listed.ensures c.bytes-name.ensures c.has_gate_by.ensures
