use Rattle.std.proofs.Common.{IsTrue, sym, ◌∙◌}
use Rattle.object_journal.proofs.RuleLemmas.{removal_lawful}
use Rattle.object_journal.proofs.rules.is_lawful.Goals as goal

pub returns-in-Removal : goal.returns-in-Removal
returns-in-Removal c = λ before are.
    let held = are c.args.entry.now.key in
    removal_lawful before c.args.entry.now (IsTrue c.contains.result) c.in-Removal.is ((λ t. held.0 (sym c.contains.ensures ∙ t)), (λ h. c.contains.ensures ∙ held.1 h))
