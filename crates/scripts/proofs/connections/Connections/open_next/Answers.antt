use Rattle.std.proofs.Common.{◌+◌, refl}
use Rattle.scripts.specs.declared.connections.Connections.{Connections}
use Rattle.scripts.proofs.StandingLemmas.{standing_open}
use Rattle.scripts.proofs.connections.Connections.open_next.Goals as goal

pub returns : goal.returns
returns c = λ events h may.
    let after : Connections = record { opened = c.args.self.opened + 1; current = c.insert.new.self } in
    standing_open c.args.self after events c.in_ok-insert.field-0 h may refl c.in_ok-insert.ensures.updates.0 c.in_ok-insert.ensures.added c.in_ok-insert.ensures.len
