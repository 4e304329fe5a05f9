use Rattle.std.proofs.Common.{◌≡◌, ◌∙◌, ap}
use Rattle.std.proofs.lemmas.Result.{IfOk-weaker}
use Rattle.lifecycle.specs.Names.{group_version}
use Rattle.lifecycle.specs.Warnings.{told}
use Rattle.request_target.specs.Warnings.{warning_line}
use Rattle.request_target.proofs.WarningLemmas.{line_is}
use Rattle.request_target.proofs.warning.warning_line.Goals as goal

pub returns : goal.returns
returns c =
    let line = line_is c.as_str-5.result.now c.as_str-6.result.now c.as_str.result.now c.as_str-kind.result.now c.as_str-2.result.now c.as_str-3.result.now c.as_str-4.result.now c.args.served.now (told c.args.warning.now)
    (c.as_str-5.ensures.value ∙ c.in_ok-front.ensures) (c.as_str-6.ensures.value ∙ c.in_ok-back.ensures) (c.as_str.ensures.value ∙ c.in_ok-version.ensures) c.as_str-kind.ensures
    (c.as_str-2.ensures ∙ c.in_ok-since.ensures) (c.as_str-3.ensures ∙ c.in_ok-removal.ensures) (c.as_str-4.ensures.value ∙ c.in_ok-other-2.ensures ∙ ap (group_version c.args.served.now.group) c.in_ok-other.ensures) in
    IfOk-weaker c.from_str.result (λ t. t ≡ c.as_str-7.result.now) (λ t. t ≡ warning_line c.args.served.now (told c.args.warning.now))
    (λ t h. h ∙ c.as_str-7.ensures.value ∙ c.in_ok-text.ensures ∙ line) c.from_str.ensures
