use Rattle.std.proofs.Common.{◌≡◌, ◌++◌, ◌∙◌, ap, List, ℕ, codes, decimal, string_bytes}
use Rattle.http_front.specs.Replies.{line_end}
use Rattle.http_front.proofs.ReplyLemmas.{first_shape}
use Rattle.http_front.proofs.reply.first_text.Goals as goal

pub returns : goal.returns
returns c =
    let s : List ℕ = string_bytes c.in_ok-text.text in
    let t : List ℕ = string_bytes c.in_ok-kind.kind in
    let u : List ℕ = string_bytes c.in_ok-length.length in
    let w : List ℕ = string_bytes c.push_str-2.new.self in
    let one : string_bytes c.push_str.new.self ≡ s ++ c.as_str.result.now = c.in_ok-push_str.ensures.bytes in
    let two : w ≡ string_bytes c.push_str.new.self ++ c.as_str-2.result.now = c.in_ok-push_str-2.ensures.bytes in
    first_shape c.args.code c.args.page c.args.body.now s t u w c.phrase_of.result.now c.content_type.result.now c.phrase_of.ensures.value c.content_type.ensures
    c.in_ok-text.ensures c.in_ok-kind.ensures
    (c.in_ok-length.ensures ∙ ap (λ (n : ℕ). codes "Content-Length: " ++ (decimal n ++ line_end)) c.length_of.ensures.value)
    (two ∙ ap (λ (x : List ℕ). x ++ c.as_str-2.result.now) (one ∙ ap (λ (y : List ℕ). s ++ y) c.as_str.ensures.value) ∙ ap (λ (z : List ℕ). (s ++ t) ++ z) c.as_str-2.ensures.value)
