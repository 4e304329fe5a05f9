use Rattle.gate_spec.specs.Gates.{cutoff}
use Rattle.gate_spec.proofs.GateLemmas.{last_default_found, last_default_none, no_gate_cutoff}
use Rattle.gate_spec.proofs.entry.SpecAt.last_default.Goals as goal

pub returns-in-Found-clause-newest : goal.returns-in-Found-clause-newest
returns-in-Found-clause-newest c = λ earlier name e before. last_default_found (cutoff earlier e) name c.in-Found.stage c.in-Found.default c.in-Found.locked (rw c.in-Found.is at before)

pub returns-in-PreAlpha-clause-newest : goal.returns-in-PreAlpha-clause-newest
returns-in-PreAlpha-clause-newest c = λ earlier name e before. let none = rw c.in-PreAlpha.is at before in last_default_none (cutoff earlier e) name none.0

pub returns-in-Never-clause-newest : goal.returns-in-Never-clause-newest
returns-in-Never-clause-newest c = λ earlier name e before. let none = rw c.in-Never.is at before in last_default_none (cutoff earlier e) name (no_gate_cutoff earlier name e none)
