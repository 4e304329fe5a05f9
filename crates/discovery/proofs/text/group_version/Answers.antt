use Rattle.std.proofs.Common.{◌≡◌, ◌++◌, codes, string_bytes, sym, ◌∙◌}
use Rattle.std.proofs.lemmas.Result.{IfOk-weaker}
use Rattle.lifecycle.specs.Names.{group_version}
use Rattle.discovery.proofs.PageLemmas.{text_joined}
use Rattle.discovery.proofs.text.group_version.Goals as goal

pub returns : goal.returns
returns c =
    IfOk-weaker c.joined.result (λ s. string_bytes s ≡ c.as_str-group.result.now ++ codes "/" ++ c.as_str-version.result.now) (λ s. string_bytes s ≡ group_version c.args.group.now c.args.version.now)
    (λ s h. h ∙ text_joined c.args.group.now c.args.version.now c.as_str-group.result.now c.as_str-version.result.now c.as_str-group.ensures c.as_str-version.ensures (sym c.if-is_empty.ensures)) c.joined.ensures
