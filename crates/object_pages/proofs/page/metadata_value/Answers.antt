use Rattle.std.proofs.Common.{◌≡◌, ◌∙◌, IfOk, sym, subst}
use Rattle.object_pages.specs.Documents.{metadata_tree}
use Rattle.object_pages.proofs.PageLemmas.{inside_alike, outside_alike}
use Rattle.serde_json.specs.View.{view}
use Rattle.object_pages.proofs.page.metadata_value.Goals as goal

pub returns-then-namespaced : goal.returns-then-namespaced
returns-then-namespaced c =
    subst (λ b. IfOk c.inside_value.result (λ v. view v ≡ metadata_tree b c.args.key.now c.args.object.now)) (sym c.if-namespaced.true)
    (inside_alike c.inside_value.result c.as_str-name.result.now c.as_str.result.now c.as_str-then-namespaced.result.now c.as_str-then-namespaced-2.result.now c.args.key.now c.args.object.now
    c.as_str-name.ensures c.as_str.ensures (c.as_str-then-namespaced.ensures.value ∙ c.in_ok-revision.ensures) (c.as_str-then-namespaced-2.ensures.value ∙ c.in_ok-uid.ensures) c.inside_value.ensures)

pub returns : goal.returns
returns c =
    subst (λ b. IfOk c.outside_value.result (λ v. view v ≡ metadata_tree b c.args.key.now c.args.object.now)) (sym c.if-namespaced.false)
    (outside_alike c.outside_value.result c.as_str-name.result.now c.as_str-else-namespaced.result.now c.as_str-else-namespaced-2.result.now c.args.key.now c.args.object.now
    c.as_str-name.ensures (c.as_str-else-namespaced.ensures.value ∙ c.in_ok-revision.ensures) (c.as_str-else-namespaced-2.ensures.value ∙ c.in_ok-uid.ensures) c.outside_value.ensures)
