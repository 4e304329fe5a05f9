use Rattle.std.proofs.Common.{rules}
use Rattle.std.proofs.Common.{[], ◌∷◌, ◌++◌, List, ℕ, ◌≡◌, codes, append_assoc, ap, ◌∙◌}
use Rattle.lifecycle.specs.Entry.{named}
use Rattle.http_front.specs.Paths.{IsNextSegment}
use Rattle.http_front.specs.Routes.{route_named, version_segments, object_segments, segments_of, one_object}
use Rattle.http_front.proofs.PathLemmas.{is_word}
use Rattle.http_front.proofs.RouteLemmas.{behind_next, behind_nothing}
use Rattle.http_front.proofs.route.route_of_resource.Goals as goal

pub returns-in-Some : goal.returns-in-Some
returns-in-Some c =
    let next : IsNextSegment c.args.rest.now c.in-Some.namespace.now c.in-Some.rest.now = c.in-Some.ensures.some in
    let version : List (List ℕ) = version_segments c.args.of.group.now c.args.of.version.now in
    let word : c.args.of.resource.now ≡ codes "namespaces" = is_word c.args.of.resource.now c.as_slice.result.now (codes "namespaces") c.eq.result c.eq.ensures c.as_slice.ensures c.if-eq.true in
    behind_next (object_segments (named c.args.of) (c.args.of.resource.now ∷ [])) (version ++ (codes "namespaces" ∷ c.in-Some.namespace.now ∷ [])) c.args.rest.now c.in-Some.namespace.now c.in-Some.rest.now (route_named c.route_in_namespace.result)
    (append_assoc version (c.args.of.resource.now ∷ []) (c.in-Some.namespace.now ∷ []) ∙ ap (λ (w : List ℕ). version ++ (w ∷ c.in-Some.namespace.now ∷ [])) word) next c.route_in_namespace.ensures

pub returns-in-Some-2 : goal.returns-in-Some-2
returns-in-Some-2 c =
    let next : IsNextSegment c.args.rest.now c.in-Some.namespace.now c.in-Some.rest.now = c.in-Some.ensures.some in
    let version : List (List ℕ) = version_segments c.args.of.group.now c.args.of.version.now in
    behind_next (object_segments (named c.args.of) (c.args.of.resource.now ∷ [])) (segments_of (one_object (named c.args.of) [] c.in-Some.namespace.now)) c.args.rest.now c.in-Some.namespace.now c.in-Some.rest.now (route_named c.route_of_object.result)
    (append_assoc version (c.args.of.resource.now ∷ []) (c.in-Some.namespace.now ∷ [])) next c.route_of_object.ensures

pub returns-in-None : goal.returns-in-None
returns-in-None c = behind_nothing (object_segments (named c.args.of) (c.args.of.resource.now ∷ [])) c.args.rest.now (search rules) c.in-None.ensures.none
