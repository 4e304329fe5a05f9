use Rattle.lifecycle.specs.Entry.{named}
use Rattle.http_front.specs.Paths.{IsNextSegment}
use Rattle.http_front.specs.Routes.{route_named, segments_of, one_object, objects_inside}
use Rattle.http_front.proofs.RouteLemmas.{behind_next, inside_next, segments_next}
use Rattle.http_front.proofs.route.route_inside.Goals as goal

pub route_of_object-requires-clause-segments : goal.route_of_object-requires-clause-segments
route_of_object-requires-clause-segments c =
    let next : IsNextSegment c.args.rest.now c.in-Some.name.now c.in-Some.rest.now = c.in-Some.ensures.some in
    segments_next (segments_of (objects_inside (named c.args.of) c.args.namespace.now)) (segments_of (one_object (named c.args.of) c.args.namespace.now c.in-Some.name.now)) c.in-Some.name.now
    (inside_next (named c.args.of) c.args.namespace.now c.in-Some.name.now c.requires.namespace) c.requires.segments next.lawful

pub returns-in-Some : goal.returns-in-Some
returns-in-Some c =
    let next : IsNextSegment c.args.rest.now c.in-Some.name.now c.in-Some.rest.now = c.in-Some.ensures.some in
    behind_next (segments_of (objects_inside (named c.args.of) c.args.namespace.now)) (segments_of (one_object (named c.args.of) c.args.namespace.now c.in-Some.name.now)) c.args.rest.now c.in-Some.name.now c.in-Some.rest.now (route_named c.route_of_object.result)
    (inside_next (named c.args.of) c.args.namespace.now c.in-Some.name.now c.requires.namespace) next c.route_of_object.ensures
