use Rattle.std.proofs.Common.{Bool, ap, ◌∙◌}
use Rattle.http_front.specs.Said.{verb_of, path_part, query_part, length_said, is_last}
use Rattle.http_front.proofs.parts.said_of.Goals as goal

pub returns : goal.returns
returns c = record {
  verb = c.verb_of.ensures ∙ ap verb_of c.of-method.ensures;
  path = c.cut_at_question-parts.ensures.path ∙ ap path_part c.of-target.ensures;
  query = c.cut_at_question-parts.ensures.query ∙ ap query_part c.of-target.ensures;
  size = c.length_said-length.ensures ∙ ap (λ (b : Bool). length_said b c.args.number) c.in_ok-chunked.ensures;
  last = c.is_last.ensures ∙ ap (is_last c.length_said-length.result c.args.found.version) c.says_close-close.ensures;
}
