use Rattle.std.proofs.Common.{Bor, List, ℕ, ◌==◌, not, length, ap, sym, ◌∙◌}
use Rattle.std.proofs.lemmas.List.{length-map}
use Rattle.http_front.proofs.parts.is_chunked.Goals as goal

pub returns : goal.returns
returns c =
    ap not c.is_empty.ensures
    ∙ ap (λ (n : ℕ). not (n == 0)) (ap length c.as_slice.ensures.value ∙ sym (length-map c.in_ok-values.values.items (λ (r : Bor (List ℕ)). r.now)) ∙ ap length c.in_ok-values.ensures)
