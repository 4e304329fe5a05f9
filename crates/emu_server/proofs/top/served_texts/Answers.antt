use Rattle.std.proofs.Common.{subst}
use Rattle.emu_server.proofs.ServingLemmas.{none_weaker}
use Rattle.emu_server.proofs.top.served_texts.Goals as goal
use Rattle.emu_server.specs.Serving.{ServesWith}
use Rattle.words.specs.declared.command.Command.{Command}

pub returns-in-Ok-clause-none : goal.returns-in-Ok-clause-none
returns-in-Ok-clause-none c =
    none_weaker c.flags_of.result
    (λ none t asks. none t (subst (λ (x : Command). ServesWith x t) (c.words_have_one_command.ensures asks.0 c.in-Ok.command asks.1 c.in-Ok.ensures.ok) asks.2))
    c.flags_of.ensures.none
