use Rattle.std.proofs.Common.{rules}
use Rattle.std.proofs.lemmas.Fn.{always_returns_same}
use Rattle.lifecycle.specs.Entry.{named}
use Rattle.runtime_config.specs.Served.{by_name}
use Rattle.runtime_config.proofs.NameLemmas.{by_name_total, exact_names}
use Rattle.basis.proofs.OrderLemmas.{absent, present}
use Rattle.runtime_config.proofs.enabled.is_among.Goals as goal

pub returns-in-Ok : goal.returns-in-Ok
returns-in-Ok c =
    let found = c.in-Ok.ensures.position (λ y. by_name y (named c.args.name)) (always_returns_same _ _ _ (λ a r g called. (search rules, search rules))) in
    ((λ yes. present by_name by_name_total exact_names (named c.args.name) _ c.in-Ok.field-0 c.in-Ok.ensures.bound found), (λ there. search rules))

pub returns-in-Err : goal.returns-in-Err
returns-in-Err c =
    let none = c.in-Err.ensures.position (λ y. by_name y (named c.args.name)) (always_returns_same _ _ _ (λ a r g called. (search rules, search rules))) in
    ((λ yes. search rules), (λ there. absurd (absent by_name by_name_total (named c.args.name) _ c.in-Err.field-0 c.requires none there)))
