use Rattle.std.proofs.Common.{◌≡◌, ◌<◌, ◌-◌, ◌∷◌, length, take, drop, option_map, sym, ◌∙◌, ap, subst, arith}
use Rattle.serde_json.specs.Data.{put}
use Rattle.serde_json.specs.View.{view, members_view}
use Rattle.serde_json.proofs.Views.{view-Object}
use Rattle.conversion.specs.Code.{IsPlaced, KeepsOrder}
use Rattle.conversion.proofs.StepLemmas.{rest_of, path_parts, shorter, step_members, step_inner, placed_step, order_step}
use Rattle.conversion.proofs.show.+placed.Goals as goal

pub placed-requires : goal.placed-requires
placed-requires t c = (let less : length (take (length c.args.path.now - 1) (drop 1 c.args.path.now)) < length c.args.path.now = shorter c.args.path.now (omega arith) in omega arith, tt)

pub returns-in_ok-put-in-len1-up-clause-placed : goal.returns-in_ok-put-in-len1-up-clause-placed
returns-in_ok-put-in-len1-up-clause-placed t c =
    let path = c.args.path.now in
    let old = option_map view c.args.old in
    let inner = view c.in_ok-inner-in-len1-up.inner in
    let name : c.as_str.result.now ≡ c.name-item.result = c.as_str.ensures in
    let again : c.as_str-in-len1-up.result.now ≡ c.as_str.result.now = c.as_str-in-len1-up.ensures ∙ sym name in
    let parts : path ≡ c.as_str.result.now ∷ take (length path - 1) (drop 1 path) =
    path_parts path c.name-item.result (omega arith) c.name-item.is ∙ ap (λ n. n ∷ drop 1 path) (sym name) ∙ ap (λ p. c.as_str.result.now ∷ p) (sym (rest_of path (omega arith))) in
    let to = step_members c.as_str.result.now old inner c.members_of-members.result.entries c.remove-inner.new.self.entries c.put.new.map.entries c.members_of-members.ensures c.remove-inner.ensures.entries
    (c.in_ok-put-in-len1-up.ensures.ok ∙ ap (λ n. put n inner (members_view c.remove-inner.new.self.entries)) again) in
    subst (IsPlaced path (view c.args.value) old) (sym (view-Object c.put.new.map))
    (placed_step path (take (length path - 1) (drop 1 path)) c.as_str.result.now (view c.args.value) old (option_map view c.remove-inner.result) inner (members_view c.put.new.map.entries) parts
    (step_inner c.as_str.result.now old c.members_of-members.result.entries c.remove-inner.result c.members_of-members.ensures c.remove-inner.ensures.value) c.in_ok-inner-in-len1-up.ensures.placed to)

pub returns-in_ok-put-in-len1-up-clause-order : goal.returns-in_ok-put-in-len1-up-clause-order
returns-in_ok-put-in-len1-up-clause-order t c =
    let old = option_map view c.args.old in
    let inner = view c.in_ok-inner-in-len1-up.inner in
    let again : c.as_str-in-len1-up.result.now ≡ c.as_str.result.now = c.as_str-in-len1-up.ensures ∙ sym c.as_str.ensures in
    let to = step_members c.as_str.result.now old inner c.members_of-members.result.entries c.remove-inner.new.self.entries c.put.new.map.entries c.members_of-members.ensures c.remove-inner.ensures.entries
    (c.in_ok-put-in-len1-up.ensures.ok ∙ ap (λ n. put n inner (members_view c.remove-inner.new.self.entries)) again) in
    subst (KeepsOrder old (view c.args.value)) (sym (view-Object c.put.new.map))
    (order_step c.as_str.result.now (view c.args.value) old (option_map view c.remove-inner.result) inner (members_view c.put.new.map.entries)
    (step_inner c.as_str.result.now old c.members_of-members.result.entries c.remove-inner.result c.members_of-members.ensures c.remove-inner.ensures.value) c.in_ok-inner-in-len1-up.ensures.order to)
