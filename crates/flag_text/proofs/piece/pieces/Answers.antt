use Rattle.std.proofs.Common.{◌≡◌, ◌+◌, ◌<◌, ℕ, take, List, [], ◌∷◌, ◌++◌, Bor, ◌==◌, not, true, false, length, map, get_or, rules, arith, ap, refl, sym, ◌∙◌}
use Rattle.std.proofs.lemmas.List.{length-map}
use Rattle.flag_text.specs.Pieces.{trimmed, pieces_of}
use Rattle.flag_text.proofs.PieceLemmas.{read_at, read_some, read_empty}
use Rattle.flag_text.proofs.piece.pieces.Goals as goal
use Rattle.flag_text.proofs.piece.pieces.Goals.{then-not-is_empty+in_ok-push, else-not-is_empty}

pub loop-index-preserved : goal.loop-index-preserved
loop-index-preserved c =
    let items : List (Bor (List ℕ)) = c.deref-part-items.result.now in
    let parts : List (List ℕ) = map (λ (r : Bor (List ℕ)). r.now) items in
    let i : ℕ = c.loop-index.index in
    let text : List ℕ = c.trimmed-part.result.now in
    let at : i < length items = c.loop-index-test.true in
    let below : i < length parts = omega (arith, length-map items (λ (r : Bor (List ℕ)). r.now)) in
    let same : trimmed (get_or parts i []) ≡ text = read_at items i (record { ref_ptr = (0, 0); now = [] }) text at c.trimmed-part.ensures in
    elim c.if-not-is_empty.branch [
      | then-not-is_empty+in_ok-push w ↦
          let some : not (length text == 0) ≡ true = search rules in
          record {
            read = ap (λ v. v.items) w.pieces-is ∙ w.in_ok-push.ensures.items ∙ ap (λ ps. ps ++ w.cut.result ∷ []) c.loop-index.invariant.read
                ∙ ap (λ p. pieces_of (map trimmed (take i parts)) ++ p ∷ []) w.cut.ensures ∙ sym (read_some parts i [] text (i + 1) below same some refl);
            whole = c.loop-index.invariant.whole;
          }
      | else-not-is_empty w ↦
          let none : not (length text == 0) ≡ false = search rules in
          record {
            read = ap (λ v. v.items) w.pieces-is ∙ c.loop-index.invariant.read ∙ sym (read_empty parts i [] text below same none);
            whole = c.loop-index.invariant.whole;
          }
    ]
