use Rattle.std.proofs.Common.{◌≡◌, ◌<◌, ◌∷◌, [], ◌++◌, map, length, true, false, sym, ◌∙◌, ap, arith}
use Rattle.std.proofs.lemmas.List.{map-append, append_assoc}
use Rattle.serde_json.specs.View.{view as tree_of}
use Rattle.discovery.specs.Groups.{is_core, group_trees}
use Rattle.discovery.proofs.GroupLemmas.{begins, step}
use Rattle.discovery.proofs.groups.group_values.Goals as goal

pub loop-rest-preserved-then-is_empty : goal.loop-rest-preserved-then-is_empty
loop-rest-preserved-then-is_empty c =
    let long = c.in-len1-up.len_at_least in
    let some : 0 < length c.loop-rest.rest.now = omega arith in
    let s = step c.loop-rest.rest.now c.first-item.result c.split_group.result.0.now c.split_group.result.1.now c.loop-rest.invariant.0
    (record { some = begins c.loop-rest.rest.now c.first-item.result some c.first-item.is; joined = c.split_group.ensures.joined; all_in = c.split_group.ensures.own; next = c.split_group.ensures.next }) in
    let core : is_core c.first-item.result.group ≡ true = ap is_core (sym c.bytes.ensures) ∙ sym c.if-is_empty.ensures in
    (s.rises, ap (λ ts. map tree_of c.loop-rest.values.items ++ ts) (sym (s.core core)) ∙ c.loop-rest.invariant.1)

pub loop-rest-preserved : goal.loop-rest-preserved
loop-rest-preserved c =
    let long = c.in-len1-up.len_at_least in
    let some : 0 < length c.loop-rest.rest.now = omega arith in
    let s = step c.loop-rest.rest.now c.first-item.result c.split_group.result.0.now c.split_group.result.1.now c.loop-rest.invariant.0
    (record { some = begins c.loop-rest.rest.now c.first-item.result some c.first-item.is; joined = c.split_group.ensures.joined; all_in = c.split_group.ensures.own; next = c.split_group.ensures.next }) in
    let named : is_core c.first-item.result.group ≡ false = ap is_core (sym c.bytes.ensures) ∙ sym c.if-is_empty.ensures in
    let others = group_trees c.split_group.result.1.now in
    let pushed : map tree_of c.push.new.self.items ≡ map tree_of c.loop-rest.values.items ++ tree_of c.in_ok-value.value ∷ [] =
    ap (map tree_of) c.in_ok-push.ensures.items ∙ map-append tree_of c.loop-rest.values.items (c.in_ok-value.value ∷ []) in (
      s.rises,
      ap (λ ts. ts ++ others) pushed
          ∙ append_assoc (map tree_of c.loop-rest.values.items) (tree_of c.in_ok-value.value ∷ []) others
          ∙ ap (λ ts. map tree_of c.loop-rest.values.items ++ ts) (ap (λ t. t ∷ others) c.in_ok-value.ensures ∙ sym (s.listed named))
          ∙ c.loop-rest.invariant.1,
    )
