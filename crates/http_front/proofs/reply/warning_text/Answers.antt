use Rattle.std.proofs.Common.{◌≡◌, ◌++◌, ◌∙◌, ap, sym, Option, List, ℕ, codes, string_bytes}
use Rattle.std.proofs.lemmas.Result.{IfOk-weaker}
use Rattle.http_front.specs.Replies.{warning_lines, line_end, lines_text}
use Rattle.http_front.proofs.ReplyLemmas.{warning_shape}
use Rattle.http_front.proofs.reply.warning_text.Goals as goal

pub returns-in-Some : goal.returns-in-Some
returns-in-Some c =
    IfOk-weaker c.line_text.result (λ s. string_bytes s ≡ codes "Warning: " ++ (c.as_str.result.now ++ line_end)) (λ s. string_bytes s ≡ lines_text (warning_lines c.args.warning.now))
    (λ s h. warning_shape _ (string_bytes s) (h ∙ ap (λ (w : List ℕ). codes "Warning: " ++ (w ++ line_end)) c.as_str.ensures) ∙ ap (λ (w : Option (List ℕ)). lines_text (warning_lines w)) (sym c.in-Some.is)) c.line_text.ensures
