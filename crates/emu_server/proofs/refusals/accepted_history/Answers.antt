-- A broken rule is told by its line.
use Rattle.std.proofs.Common.{inr, ◌∙◌}
use Rattle.schemas.specs.Rules.{IsFirstFault, checks}
use Rattle.emu_server.proofs.refusals.accepted_history.Goals as goal

pub returns-in_ok-text-in-Err-Broken-clause-refused : goal.returns-in_ok-text-in-Err-Broken-clause-refused
returns-in_ok-text-in-Err-Broken-clause-refused c =
    let x = c.in-Err-Broken in
    let broken : IsFirstFault c.in-Ok.history checks x.rule x.array x.index = rw x.field-0-is at x.ensures.broken in
    inr (record {
      history = c.in-Ok.history;
      means = c.in-Ok.ensures.ok;
      broken = record { rule = x.rule; array = x.array; number = x.index; broken = broken; written = c.in_ok-text-in-Err-Broken.ensures };
    })
