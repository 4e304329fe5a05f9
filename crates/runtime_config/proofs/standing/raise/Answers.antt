use Rattle.std.proofs.Common.{◌≡◌, ◌∙◌, ap}
use Rattle.std.specs.BTreeMap.{get}
use Rattle.std.specs.Ordering.{nat_cmp}
use Rattle.std.specs.Cmp.Lexicographic.{slice_cmp}
use Rattle.runtime_config.specs.Merges.{merged}
use Rattle.runtime_config.proofs.StandingLemmas.{raised}
use Rattle.runtime_config.proofs.standing.raise.Goals as goal
use Rattle.runtime_config.proofs.standing.raise.Goals.{in-Some, in-None}

pub returns-in-Ok : goal.returns-in-Ok
returns-in-Ok c =
    let new : c.match-standing_in.standing ≡ merged (get (slice_cmp nat_cmp) c.args.known.now c.args.key.now) c.args.own =
    elim c.match-standing_in.branch [
      | in-Some w ↦ w.standing-is ∙ w.better-standing.ensures ∙ ap (λ o. merged o c.args.own) w.in-Some.ensures
      | in-None w ↦ w.standing-is ∙ ap (λ o. merged o c.args.own) w.in-None.ensures
    ] in
    raised c.args.known.now c.insert.new.self c.args.key.now c.args.own c.match-standing_in.standing new c.in-Ok.ensures.updates
