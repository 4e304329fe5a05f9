use Rattle.std.proofs.Common.{◌≡◌, ◌++◌, ◌∙◌, ap, List, ℕ, string_bytes}
use Rattle.http_front.specs.Replies.{first_lines, further_lines, lines_text, line_end}
use Rattle.http_front.proofs.ReplyLemmas.{head_shape}
use Rattle.http_front.proofs.reply.head_text.Goals as goal

pub returns : goal.returns
returns c =
    let a : List ℕ = string_bytes c.in_ok-text.text in
    let b : List ℕ = string_bytes c.in_ok-further.further in
    let text : List ℕ = string_bytes c.push_str-2.new.self in
    let one : string_bytes c.push_str.new.self ≡ a ++ c.as_str.result.now = c.in_ok-push_str.ensures.bytes in
    let two : text ≡ string_bytes c.push_str.new.self ++ line_end = c.in_ok-push_str-2.ensures.bytes in
    head_shape (first_lines c.args.reply.now.code c.args.reply.now.page c.args.reply.now.body) (further_lines c.args.reply.now) a b text
    (c.in_ok-text.ensures ∙ ap (λ (body : List ℕ). lines_text (first_lines c.args.reply.now.code c.args.reply.now.page body)) c.bytes.ensures)
    c.in_ok-further.ensures
    (two ∙ ap (λ (x : List ℕ). x ++ line_end) (one ∙ ap (λ (y : List ℕ). a ++ y) c.as_str.ensures.value))
