use Rattle.std.proofs.Common.{[], ◌∷◌, ◌++◌, sym, subst}
use Rattle.scripts.specs.Standing.{IsStanding}
use Rattle.scripts.specs.declared.script.ScriptEvent.{ScriptEvent}
use Rattle.scripts.proofs.StandingLemmas.{standing_piece}
use Rattle.scripts.proofs.connections.Connections.behind.Goals as goal

pub returns-in-Piece : goal.returns-in-Piece
returns-in-Piece c = λ events h may.
    subst (λ (e : ScriptEvent). IsStanding c.args.self (events ++ e ∷ [])) (sym c.in-Piece.is) (standing_piece c.args.self events c.in-Piece.field-0 c.in-Piece.field-1 h)
