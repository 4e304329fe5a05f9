use Rattle.std.proofs.Common.{◌≡◌, ◌++◌, ◌∙◌, ap, List, ℕ, string_bytes}
use Rattle.std.proofs.lemmas.Result.{IfOk-weaker}
use Rattle.http_front.specs.Replies.{reply_text}
use Rattle.http_front.proofs.ReplyLemmas.{reply_shape}
use Rattle.http_front.proofs.reply.reply_bytes.Goals as goal

pub returns : goal.returns
returns c =
    let head : List ℕ = string_bytes c.in_ok-head.head in
    let joined : c.as_slice.result.now ≡ head ++ c.args.reply.now.body =
    c.as_slice.ensures.value ∙ c.in_ok-bytes.ensures ∙ ap (λ (h : List ℕ). h ++ c.bytes.result.now) c.as_bytes-2.ensures.value ∙ ap (λ (b : List ℕ). head ++ b) c.bytes.ensures in
    IfOk-weaker c.copy-2.result (λ b. b ≡ c.as_slice.result.now) (λ b. b ≡ reply_text c.args.reply.now)
    (λ b h. h ∙ reply_shape c.args.reply.now head c.as_slice.result.now c.if-reply.false c.in_ok-head.ensures joined) c.copy-2.ensures
