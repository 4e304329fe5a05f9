use Rattle.std.proofs.Common.{ℕ, ◌≡◌, List, Some, length, take, refl, sym, ap, subst, ◌∙◌, ◌+◌}
use Rattle.std.specs.Prelude.{slice_get, ◌&&◌}
use Rattle.std.specs.Option.{option_copied}
use Rattle.std.specs.Str.{bytes_eq}
use Rattle.std.proofs.lemmas.Option.{slice_get_read}
use Rattle.schemas.specs.Places.{last_passing}
use Rattle.basis.specs.NameMap.{value_at, is_same_name}
use Rattle.history_rules.specs.Previous.{AreLinked}
use Rattle.schemas.specs.ApiRules.{previous_of_version}
use Rattle.basis.proofs.NameLemmas.{three_parts}
use Rattle.history_rules.proofs.LinkLemmas.{linked_none, linked_more, latest_more}
use Rattle.history_rules.proofs.previous.link_versions.Goals as goal

pub loop-entry-init : goal.loop-entry-init
loop-entry-init c = record {
  latest = λ group version resource. (let e = c.new-latest.ensures.empty in rw e refl);
  links = subst (AreLinked previous_of_version c.args.entries.now 0) (sym c.new-links.ensures.items) (linked_none previous_of_version c.args.entries.now);
}

pub loop-entry-preserved : goal.loop-entry-preserved
loop-entry-preserved c =
    let stands : slice_get c.args.entries.now c.loop-entry.entry-index ≡ Some c.entry-item.result = slice_get_read c.args.entries.now (length c.args.entries.now) c.loop-entry.entry-index c.entry-item.result refl c.loop-entry-test.true c.entry-item.is in
    let here : option_copied c.value_of.result ≡ previous_of_version (take c.loop-entry.entry-index c.args.entries.now) c.entry-item.result = ap option_copied c.value_of.ensures ∙ subst (λ (a : List ℕ). option_copied (value_at c.loop-entry.latest c.bytes-group.result.now c.bytes-version.result.now c.bytes-resource.result.now) ≡ last_passing (λ y. bytes_eq a y.group && bytes_eq c.entry-item.result.version y.version && bytes_eq c.entry-item.result.resource y.resource) (take c.loop-entry.entry-index c.args.entries.now)) c.bytes-group.ensures
    (subst (λ (a : List ℕ). option_copied (value_at c.loop-entry.latest c.bytes-group.result.now c.bytes-version.result.now c.bytes-resource.result.now) ≡ last_passing (λ y. bytes_eq c.bytes-group.result.now y.group && bytes_eq a y.version && bytes_eq c.entry-item.result.resource y.resource) (take c.loop-entry.entry-index c.args.entries.now)) c.bytes-version.ensures
    (subst (λ (a : List ℕ). option_copied (value_at c.loop-entry.latest c.bytes-group.result.now c.bytes-version.result.now c.bytes-resource.result.now) ≡ last_passing (λ y. bytes_eq c.bytes-group.result.now y.group && bytes_eq c.bytes-version.result.now y.version && bytes_eq a y.resource) (take c.loop-entry.entry-index c.args.entries.now)) c.bytes-resource.ensures
    (c.loop-entry.invariant.latest c.bytes-group.result.now c.bytes-version.result.now c.bytes-resource.result.now))) in
    record {
      latest = λ group version resource. latest_more (λ y. bytes_eq group y.group && bytes_eq version y.version && bytes_eq resource y.resource) c.args.entries.now c.loop-entry.entry-index c.entry-item.result _ (is_same_name c.bytes-group.result.now c.bytes-version.result.now c.bytes-resource.result.now group version resource) _ _ stands refl (three_parts c.bytes-group.result.now c.bytes-version.result.now c.bytes-resource.result.now c.entry-item.result.group c.entry-item.result.version c.entry-item.result.resource group version resource c.bytes-group.ensures c.bytes-version.ensures c.bytes-resource.ensures) (c.in_ok-put.ensures.ok group version resource) (c.loop-entry.invariant.latest group version resource);
      links = subst (AreLinked previous_of_version c.args.entries.now (c.loop-entry.entry-index + 1)) (sym c.in-Ok.ensures.items) (linked_more previous_of_version c.args.entries.now c.loop-entry.entry-index c.loop-entry.links.items c.entry-item.result c.value_of.result stands here c.loop-entry.invariant.links);
    }
