use Rattle.std.proofs.Common.{◌<◌, length, sym, subst, arith}
use Rattle.std.specs.Str.{bytes_eq}
use Rattle.std.proofs.lemmas.Bool.{not-true, both_ways}
use Rattle.std.proofs.lemmas.List.{take_more}
use Rattle.std.proofs.lemmas.Slice.Eq.{bytes_eq-Decides}
use Rattle.discovery.specs.Order.{IsOfAnother}
use Rattle.discovery.proofs.PageLemmas.{unnot, in-push, another}
use Rattle.discovery.proofs.groups.split_group.Goals as goal

pub returns-then-ne-clause-next : goal.returns-then-ne-clause-next
returns-then-ne-clause-next c =
    let x = c.index-served-i.result in
    let test = c.loop-i-test.true in
    let below : c.loop-i.i < length c.args.served.now = omega arith in
    let apart = not-true (bytes_eq x.group c.args.group.now) (sym c.if-ne.ensures) in
    subst (IsOfAnother c.args.group.now) (sym c.split_at.ensures.back)
    (another c.args.group.now c.args.served.now c.loop-i.i x below c.index-served-i.is (λ e. both_ways (bytes_eq x.group c.args.group.now) apart ((bytes_eq-Decides x.group c.args.group.now).1 e)))

pub loop-i-preserved : goal.loop-i-preserved
loop-i-preserved c =
    let x = c.index-served-i.result in
    let test = c.loop-i-test.true in
    let below : c.loop-i.i < length c.args.served.now = omega arith in
    let same = unnot (bytes_eq x.group c.args.group.now) c.if-ne.ensures in
    rw (take_more c.args.served.now c.loop-i.i x below, ← c.index-served-i.is) (in-push c.args.group.now _ x c.loop-i.invariant ((bytes_eq-Decides x.group c.args.group.now).0 same))
