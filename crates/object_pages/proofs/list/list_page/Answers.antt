use Rattle.std.proofs.Common.{◌++◌, codes, map, ◌∙◌, ap}
use Rattle.object_pages.proofs.PageLemmas.{listed_as, list_plain}
use Rattle.request_target.specs.Targets.{resource_seen}
use Rattle.serde_json.specs.View.{view}
use Rattle.serde_json.specs.Written.{has_float}
use Rattle.object_pages.proofs.list.list_page.Goals as goal

pub returns-clause-list : goal.returns-clause-list
returns-clause-list c =
    listed_as (resource_seen c.args.of) c.args.revision c.args.objects.now (map view c.in_ok-items.items.items) c.as_str-2.result.now c.as_str-3.result.now c.as_str-4.result.now (view c.in_ok-value.value)
    c.in_ok-items.ensures.shown (c.as_str-2.ensures.value ∙ c.in_ok-version.ensures) (c.as_str-3.ensures.value ∙ c.in_ok-kind.ensures ∙ ap (λ k. k ++ codes "List") c.as_str.ensures)
    (c.as_str-4.ensures.value ∙ c.in_ok-revision.ensures) c.in_ok-value.ensures

pub returns-clause-no_float : goal.returns-clause-no_float
returns-clause-no_float c =
    ap has_float c.in_ok-value.ensures
    ∙ list_plain c.as_str-2.result.now (map view c.in_ok-items.items.items) c.as_str-3.result.now c.as_str-4.result.now c.in_ok-items.ensures.no_float
