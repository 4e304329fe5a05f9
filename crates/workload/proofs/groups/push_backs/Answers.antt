use Rattle.std.proofs.Common.{◌≡◌, ◌<◌, ◌+◌, [], ◌∷◌, ◌++◌, length, take, sym, ◌∙◌, ap, arith}
use Rattle.std.proofs.lemmas.List.{take_more, length-take-le}
use Rattle.workload.specs.Parts.{pieces}
use Rattle.workload.specs.declared.request.Request.{Request}
use Rattle.workload.proofs.EventLemmas.{backs_more}
use Rattle.workload.proofs.groups.push_backs.Goals as goal

pub loop-c-preserved : goal.loop-c-preserved
loop-c-preserved c =
    let group = c.args.group.now in
    let k = c.loop-c.c in
    let request = c.index-group-c.result in
    let within : k < length group = omega arith in
    let next : take (k + 1) group ≡ take k group ++ request ∷ [] = take_more group k request within ∙ ap (λ (r : Request). take k group ++ r ∷ []) (sym c.index-group-c.is) in
    record {
      ready = c.in_ok-push_pieces.ensures.ready;
      so_far = backs_more c.args.script.now c.loop-c.script c.push_pieces.new.script k (take k group) (take (k + 1) group) request c.loop-c.invariant.so_far (length-take-le k group (omega arith)) next
          (c.in_ok-push_pieces.ensures.pieces ∙ ap (λ bytes. c.loop-c.script ++ pieces k bytes) c.back.ensures);
    }
