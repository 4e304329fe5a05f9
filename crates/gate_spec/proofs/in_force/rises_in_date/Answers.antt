use Rattle.std.proofs.Common.{◌≡◌, ◌≤◌, length, true, false, rules, sym, subst, ◌∙◌}
use Rattle.std.proofs.lemmas.List.{take_all}
use Rattle.gate_spec.specs.Gates.{RisesInDate}
use Rattle.gate_spec.proofs.GateLemmas.{rises_later, rises_more}
use Rattle.gate_spec.proofs.in_force.rises_in_date.Goals as goal

pub returns-then-not-is_later : goal.returns-then-not-is_later
returns-then-not-is_later c =
    let no : c.is_later.result ≡ false = search rules in (
      λ wrong. absurd (let e : false ≡ true = wrong in cc),
      λ up. absurd (let yes = c.is_later.ensures.1 (rises_later c.args.entries.now c.loop-index.index c.index-entries-index.result c.split_at.result.0.now c.loop-index-test.true c.index-entries-index.is c.split_at.ensures.front up) in let e : false ≡ true = sym no ∙ yes in cc),
    )

pub loop-index-preserved : goal.loop-index-preserved
loop-index-preserved c =
    let yes : c.is_later.result ≡ true = search rules in
    rises_more c.args.entries.now c.loop-index.index c.index-entries-index.result c.split_at.result.0.now c.loop-index-test.true c.index-entries-index.is c.split_at.ensures.front c.loop-index.invariant (c.is_later.ensures.0 yes)

pub returns : goal.returns
returns c =
    let whole : length c.args.entries.now ≤ c.loop-index.index = search rules in
    let up : RisesInDate c.args.entries.now = subst RisesInDate (take_all c.loop-index.index c.args.entries.now whole) c.loop-index.invariant in
    (λ _. up, λ _. search rules)
