use Rattle.std.proofs.Common.{rules, tests, ◌≡◌, ◌==◌, ℕ, true}
use Rattle.std.proofs.lemmas.Bool.Decides.{Decides-eqb}
use Rattle.std.proofs.lemmas.List.Elements.{contains_decides}
use Rattle.http_front.specs.Replies.{reply_codes}
use Rattle.http_cases.proofs.sent.Goals as goal

pub reply_bytes-requires : goal.reply_bytes-requires
reply_bytes-requires c =
    let code : ℕ = c.args.reply.now.code in
    let found : c.contains.result ≡ true = search (rules, tests) in
    let at = (contains_decides (λ a b. a == b) (λ a b. Decides-eqb a b) reply_codes code c.contains.result c.contains.ensures.cases).0 found in
    (at.0, at.1, at.2 code)
