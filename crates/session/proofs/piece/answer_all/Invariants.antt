use Rattle.std.proofs.Common.{length}
use Rattle.conn_mux.specs.Held.{flow_of, KeepsOthers}
use Rattle.session.proofs.piece.answer_all.Given as goal
use Rattle.session.specs.Amid.{IsAmidPiece}
use Rattle.session.specs.Calls.{IsReady, Keeps}
use Rattle.session_step.specs.Taken.{TakesNone, server_of}
use Rattle.session_turns.specs.Caught.{left_to_take}

abbrev pub invariant-loop-answered : goal.invariant-loop-answered
invariant-loop-answered g l =
    let d = g.W.Disk in
    record {
      ready : IsReady d.tells d.held d.pending d.beside l.service l.world;
      events : TakesNone (d.beside l.fn.world) (d.beside l.world);
      keeps : Keeps d.faults l.fn.service l.service l.fn.world l.world ⊥;
      others : KeepsOthers l.fn.mux l.c l.mux;
      told : d.tells → IsAmidPiece d.clock d.may_leave d.beside (server_of l.fn.service) (server_of l.service) l.fn.world l.world l.c (length (d.beside l.fn.world).taken) l.fn.mux l.answered l.mux;
    }

abbrev pub decreases-loop-answered : goal.decreases-loop-answered
decreases-loop-answered g l = left_to_take (flow_of l.mux l.c)
