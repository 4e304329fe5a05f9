use Rattle.std.proofs.Common.{[], ◌∷◌, refl, codes, ◌∙◌}
use Rattle.http_front.specs.Paths.{IsNextSegment}
use Rattle.http_front.specs.Routes.{route_named}
use Rattle.http_front.proofs.PathLemmas.{next_once, not_word}
use Rattle.http_front.proofs.RouteLemmas.{behind_next, core_nowhere}
use Rattle.http_front.proofs.route.route_in_core.Goals as goal
use Rattle.http_front.proofs.route.route_in_core.Goals.{in_default-via-in-Some+else-eq, in_default-via-in_default}

pub returns-in-Some : goal.returns-in-Some
returns-in-Some c =
    let next : IsNextSegment c.args.rest.now c.in-Some.version.now c.in-Some.rest.now = c.in-Some.ensures.some in
    behind_next (codes "api" ∷ []) (codes "api" ∷ c.in-Some.version.now ∷ []) c.args.rest.now c.in-Some.version.now c.in-Some.rest.now (route_named c.route_in_version.result) refl next c.route_in_version.ensures

pub returns-in_default : goal.returns-in_default
returns-in_default c = core_nowhere c.args.rest.now (λ segment rest next is. elim c.in_default.branch [
  | in_default-via-in-Some+else-eq w ↦
      let other : IsNextSegment c.args.rest.now w.in-Some.version.now w.in-Some.rest.now = w.in-Some.ensures.some in
      let same = next_once c.args.rest.now w.in-Some.version.now w.in-Some.rest.now segment rest other next in
      not_word w.in-Some.version.now w.as_slice.result.now (codes "v1") w.eq.result w.eq.ensures w.as_slice.ensures w.if-eq.false (same.0 ∙ is)
  | in_default-via-in_default w ↦ w.in_default.ensures.none segment rest next
])
