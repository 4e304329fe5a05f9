use Rattle.std.proofs.Common.{refl}
use Rattle.scripts.specs.declared.connections.Connections.{Connections}
use Rattle.scripts.proofs.StandingLemmas.{standing_close}
use Rattle.scripts.proofs.connections.Connections.close.Goals as goal

pub returns : goal.returns
returns c = λ events h may.
    let after : Connections = record { opened = c.args.self.opened; current = c.remove.new.self } in
    standing_close c.args.self after events c.args.c c.remove.result h may refl c.remove.ensures.updates.0 c.remove.ensures.test c.remove.ensures.len
