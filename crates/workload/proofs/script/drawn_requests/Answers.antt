use Rattle.std.proofs.Common.{◌≡◌, ◌≤◌, List, [], ◌∷◌, ◌++◌, length, All, sym, ap, subst, length-append, arith}
use Rattle.std.proofs.lemmas.List.Elements.{All-append, All-from_recursion}
use Rattle.workload.specs.Workload.{AreDrawn}
use Rattle.workload.specs.declared.request.Request.{Request}
use Rattle.workload.proofs.OneLemmas.{drawn_push}
use Rattle.workload.proofs.script.drawn_requests.Goals as goal

abbrev IsWithin : Request → Type 0
IsWithin r = r.cut ≤ length r.bytes

pub loop-i-preserved : goal.loop-i-preserved
loop-i-preserved c =
    let old = c.loop-i.requests.items in
    let request = c.in_ok-request.request in
    let items : c.push.new.self.items ≡ old ++ request ∷ [] = c.in_ok-push.ensures.items in
    let one : All IsWithin (request ∷ []) = All-from_recursion IsWithin (request ∷ []) (c.in_ok-request.ensures.within, tt) in
    record {
      drawn = subst (λ (rs : List Request). AreDrawn c.args.view.now c.args.seed rs c.drawn_request.new.draws.x) (sym items)
          (drawn_push c.args.view.now c.args.seed old c.loop-i.draws.x request c.drawn_request.new.draws.x c.loop-i.invariant.drawn c.in_ok-request.ensures.drawn);
      count = omega (arith, ap length items, length-append old (request ∷ []));
      within = subst (λ (rs : List Request). All IsWithin rs) (sym items) (All-append IsWithin old (request ∷ []) c.loop-i.invariant.within one);
    }
