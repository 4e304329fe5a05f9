use Rattle.std.proofs.Common.{[], ◌∷◌, ◌≡◌, List, ℕ, codes, ap, sym}
use Rattle.http_front.specs.Routes.{version_page, metrics_page}
use Rattle.http_front.proofs.PathLemmas.{is_empty_list, is_word}
use Rattle.http_front.proofs.RouteLemmas.{page_end}
use Rattle.http_front.proofs.route.route_from.Goals as goal

pub returns-then-eq-3 : goal.returns-then-eq-3
returns-then-eq-3 c =
    let word : c.args.first.now ≡ codes "version" = is_word c.args.first.now c.as_slice-then-is_empty.result.now (codes "version") c.eq-then-is_empty.result c.eq-then-is_empty.ensures c.as_slice-then-is_empty.ensures c.if-eq-3.true in
    let end : c.args.rest.now ≡ [] = is_empty_list c.args.rest.now c.is_empty.result c.is_empty.ensures c.if-is_empty.true in
    page_end version_page c.args.first.now c.args.rest.now (ap (λ (w : List ℕ). w ∷ []) (sym word)) tt c.requires end

pub returns-then-eq-4 : goal.returns-then-eq-4
returns-then-eq-4 c =
    let word : c.args.first.now ≡ codes "metrics" = is_word c.args.first.now c.as_slice-then-is_empty-2.result.now (codes "metrics") c.eq-then-is_empty-2.result c.eq-then-is_empty-2.ensures c.as_slice-then-is_empty-2.ensures c.if-eq-4.true in
    let end : c.args.rest.now ≡ [] = is_empty_list c.args.rest.now c.is_empty-else-is_empty.result c.is_empty-else-is_empty.ensures c.if-is_empty-2.true in
    page_end metrics_page c.args.first.now c.args.rest.now (ap (λ (w : List ℕ). w ∷ []) (sym word)) tt c.requires end
