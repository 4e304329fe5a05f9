use Rattle.session.proofs.serving.session.Given as goal
use Rattle.session.specs.Amid.{IsAmidEvents}
use Rattle.session.specs.Calls.{IsReady, Keeps}
use Rattle.session_ends.specs.Drawn.{HasDrawn}
use Rattle.session_ends.specs.Pieces.{AreFresh}
use Rattle.session_step.specs.Taken.{server_of}

abbrev pub invariant-loop-taken : goal.invariant-loop-taken
invariant-loop-taken g l =
    let d = g.W.Disk in
    record {
      ready : IsReady d.tells d.held d.pending d.beside l.service l.world;
      keeps : Keeps d.faults l.fn.service l.service l.fn.world l.world ⊥;
      fresh : AreFresh (d.beside l.world).opened l.mux;
      drawn : d.tells → HasDrawn 4096 (d.beside l.fn.world) (d.beside l.world);
      told : d.tells → IsAmidEvents d.clock d.may_leave d.beside (server_of l.fn.service) (server_of l.service) l.fn.world l.world l._taken l.requests l.mux;
    }
