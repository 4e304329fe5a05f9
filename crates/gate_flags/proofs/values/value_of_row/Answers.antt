use Rattle.std.proofs.Common.{rules}
use Rattle.std.specs.Ordering.{nat_cmp}
use Rattle.std.specs.Cmp.Lexicographic.{slice_cmp}
use Rattle.std.proofs.lemmas.Fn.{always_returns_same}
use Rattle.gate_flags.proofs.SearchLemmas.{none_by_name, value_found, none_valued}
use Rattle.gate_flags.proofs.values.value_of_row.Goals as goal

pub returns-in-Ok : goal.returns-in-Ok
returns-in-Ok c =
    value_found (λ y. y.name) (λ y. y.value) c.args.rows.now c.args.name.now c.in-Ok.at c.index-rows-at.result c.requires c.in-Ok.ensures.bound c.index-rows-at.is
    (c.in-Ok.ensures.position (λ y. slice_cmp nat_cmp y.name c.args.name.now) (always_returns_same _ _ _ (λ a r g called. (search rules, search rules))))

pub returns-in-Err : goal.returns-in-Err
returns-in-Err c =
    let none = c.in-Err.ensures.position (λ y. slice_cmp nat_cmp y.name c.args.name.now) (always_returns_same _ _ _ (λ a r g called. (search rules, search rules))) in
    none_valued (λ y. y.name) (λ y. y.value) c.args.rows.now c.args.name.now (none_by_name (λ y. y.name) c.args.name.now c.args.rows.now c.in-Err.field-0 c.requires none)
