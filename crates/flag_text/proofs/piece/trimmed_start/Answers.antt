use Rattle.std.proofs.Common.{◌≡◌, ◌+◌, ◌<◌, ℕ, Bool, true, false, List, length, drop, get_or, rules, arith, ap, sym, ◌∙◌}
use Rattle.std.specs.List.{prefix_len}
use Rattle.std.proofs.lemmas.Bool.{cond-true, cond-false}
use Rattle.std.proofs.lemmas.List.{drop_more, drop_all}
use Rattle.flag_text.specs.Pieces.{is_blank}
use Rattle.flag_text.proofs.piece.trimmed_start.Goals as goal
use Rattle.flag_text.proofs.piece.trimmed_start.Goals.{then-loop-from-test+else-is_blank, else-loop-from-test}

prefix_len-drop_yes : {X : Type 0} (p : X → Bool) (xs : List X) (i : ℕ) (d : X) → i < length xs → p (get_or xs i d) ≡ true → prefix_len p (drop i xs) ≡ 1 + prefix_len p (drop (i + 1) xs)
prefix_len-drop_yes p xs i d below e = ap (prefix_len p) (drop_more xs i d below) ∙ cond-true (p (get_or xs i d)) (1 + prefix_len p (drop (i + 1) xs)) 0 e

prefix_len-drop_no : {X : Type 0} (p : X → Bool) (xs : List X) (i : ℕ) (d : X) → i < length xs → p (get_or xs i d) ≡ false → prefix_len p (drop i xs) ≡ 0
prefix_len-drop_no p xs i d below e = ap (prefix_len p) (drop_more xs i d below) ∙ cond-false (p (get_or xs i d)) (1 + prefix_len p (drop (i + 1) xs)) 0 e

pub loop-from-preserved : goal.loop-from-preserved
loop-from-preserved c =
    let more = prefix_len-drop_yes is_blank c.args.text.now c.loop-from.from 0 c.loop-from-test.true (sym c.is_blank.ensures ∙ c.if-is_blank.true) in
    (omega arith, omega (arith, more, c.loop-from.invariant.1))

pub returns : goal.returns
returns c =
    let text = c.args.text.now in
    let none : prefix_len is_blank (drop c.loop-from.from text) ≡ 0 =
    elim c.loop-from-test.branch [
      | then-loop-from-test+else-is_blank w ↦ prefix_len-drop_no is_blank text c.loop-from.from 0 w.loop-from-test.true (sym w.is_blank.ensures ∙ w.if-is_blank.false)
      | else-loop-from-test w ↦ ap (prefix_len is_blank) (drop_all c.loop-from.from text (search rules))
    ] in
    let at : c.loop-from.from ≡ prefix_len is_blank text = omega (arith, none, c.loop-from.invariant.1) in
    c.split_at.ensures.back ∙ ap (λ n. drop n text) at
