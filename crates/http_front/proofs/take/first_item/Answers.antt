use Rattle.std.proofs.Common.{◌≡◌, ◌++◌, List, ℕ, ap, sym, ◌∙◌, arith, length, drop}
use Rattle.std.proofs.lemmas.List.{take-append-drop, length-take}
use Rattle.http_front.proofs.TakeLemmas.{front_in_all, front_short}
use Rattle.http_front.proofs.take.first_item.Goals as goal

pub take_with_head-requires-clause-front : goal.take_with_head-requires-clause-front
take_with_head-requires-clause-front c =
    let far : List ℕ = drop 16384 c.args.buf.now in
    let whole : c.args.buf.now ≡ c.near_part-near.result.now ++ far = sym (take-append-drop 16384 c.args.buf.now) ∙ ap (λ (z : List ℕ). z ++ far) (sym c.near_part-near.ensures) in
    front_in_all c.args.buf.now c.near_part-near.result.now far c.in-Some.front.now c.in-Some.head.now whole c.in-Some.ensures.some

pub take_with_head-requires-clause-short : goal.take_with_head-requires-clause-short
take_with_head-requires-clause-short c =
    omega (arith, front_short c.near_part-near.result.now c.in-Some.front.now c.in-Some.head.now c.in-Some.ensures.some, ap length c.near_part-near.ensures, length-take 16384 c.args.buf.now)
