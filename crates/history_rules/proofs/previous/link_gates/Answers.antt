use Rattle.std.proofs.Common.{ℕ, ◌≡◌, List, [], Some, length, take, refl, sym, ap, subst, ◌∙◌, ◌+◌}
use Rattle.std.specs.Prelude.{slice_get}
use Rattle.std.specs.Option.{option_copied}
use Rattle.std.specs.Str.{bytes_eq}
use Rattle.std.proofs.lemmas.Option.{slice_get_read}
use Rattle.schemas.specs.Places.{last_passing}
use Rattle.basis.specs.NameMap.{value_at, is_same_name}
use Rattle.history_rules.specs.Previous.{AreLinked}
use Rattle.schemas.specs.GateRules.{previous_of_gate}
use Rattle.basis.proofs.NameLemmas.{one_part}
use Rattle.history_rules.proofs.LinkLemmas.{linked_none, linked_more, latest_more}
use Rattle.history_rules.proofs.previous.link_gates.Goals as goal

pub loop-entry-init : goal.loop-entry-init
loop-entry-init c = record {
  latest = λ q. (let e = c.new-latest.ensures.empty in rw e refl);
  links = subst (AreLinked previous_of_gate c.args.entries.now 0) (sym c.new-links.ensures.items) (linked_none previous_of_gate c.args.entries.now);
}

pub loop-entry-preserved : goal.loop-entry-preserved
loop-entry-preserved c =
    let stands : slice_get c.args.entries.now c.loop-entry.entry-index ≡ Some c.entry-item.result = slice_get_read c.args.entries.now (length c.args.entries.now) c.loop-entry.entry-index c.entry-item.result refl c.loop-entry-test.true c.entry-item.is in
    let here : option_copied c.value_of.result ≡ previous_of_gate (take c.loop-entry.entry-index c.args.entries.now) c.entry-item.result = ap option_copied c.value_of.ensures ∙ subst (λ (q : List ℕ). option_copied (value_at c.loop-entry.latest c.bytes-name.result.now [] []) ≡ last_passing (λ y. bytes_eq q y.name) (take c.loop-entry.entry-index c.args.entries.now)) c.bytes-name.ensures (c.loop-entry.invariant.latest c.bytes-name.result.now) in
    record {
      latest = λ q. latest_more (λ y. bytes_eq q y.name) c.args.entries.now c.loop-entry.entry-index c.entry-item.result _ (is_same_name c.bytes-name.result.now [] [] q [] []) _ _ stands refl (one_part c.bytes-name.result.now c.entry-item.result.name q c.bytes-name.ensures) (c.in_ok-put.ensures.ok q [] []) (c.loop-entry.invariant.latest q);
      links = subst (AreLinked previous_of_gate c.args.entries.now (c.loop-entry.entry-index + 1)) (sym c.in-Ok.ensures.items) (linked_more previous_of_gate c.args.entries.now c.loop-entry.entry-index c.loop-entry.links.items c.entry-item.result c.value_of.result stands here c.loop-entry.invariant.links);
    }
