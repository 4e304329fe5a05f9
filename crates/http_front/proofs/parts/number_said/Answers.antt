use Rattle.std.proofs.Common.{Bor, List, ℕ, map, ap, ◌∙◌}
use Rattle.http_front.specs.Said.{lawful_length}
use Rattle.http_front.proofs.parts.number_said.Goals as goal

pub returns : goal.returns
returns c =
    c.lawful_length.ensures ∙ ap lawful_length (ap (map (λ (r : Bor (List ℕ)). r.now)) c.as_slice.ensures.value ∙ c.in_ok-values.ensures)
