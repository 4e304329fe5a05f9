use Rattle.std.proofs.Common.{◌++◌, ◌∷◌, [], ap, ◌∙◌}
use lib.Utf8
use Rattle.serde_json.specs.Written.{compact_text}
use Rattle.commands.proofs.discover.group_list_line.Goals as goal

pub returns : goal.returns
unfolding lib.Utf8.encode
returns c =
    c.in_ok-push.ensures.bytes ∙ ap (λ t. t ++ 10 ∷ []) (c.in_ok-text.ensures.text c.in_ok-value.ensures.no_float ∙ ap compact_text c.in_ok-value.ensures.page)
