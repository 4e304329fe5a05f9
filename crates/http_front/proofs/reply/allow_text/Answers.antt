use Rattle.std.proofs.Common.{rules, ◌≡◌, ◌++◌, codes, string_bytes, ◌<◌, length}
use Rattle.std.proofs.lemmas.Result.{IfOk-weaker}
use Rattle.http_front.specs.Replies.{allow_lines, line_end, lines_text}
use Rattle.http_front.proofs.ReplyLemmas.{allow_shape}
use Rattle.http_front.proofs.reply.allow_text.Goals as goal

pub returns-else-is_empty : goal.returns-else-is_empty
returns-else-is_empty c =
    let some : 0 < length c.args.allow.now = search rules in
    IfOk-weaker c.line_text.result (λ s. string_bytes s ≡ codes "Allow: " ++ (c.args.allow.now ++ line_end)) (λ s. string_bytes s ≡ lines_text (allow_lines c.args.allow.now))
    (λ s h. allow_shape c.args.allow.now (string_bytes s) some h) c.line_text.ensures
