use Rattle.std.proofs.Common.{ap}
use Rattle.http1.specs.Fields.{known_fields}
use Rattle.http1.specs.declared.fields.KnownFields.{KnownFields}
use Rattle.http_front.proofs.parts.says_close.Goals as goal

pub returns : goal.returns
unfolding known_fields
returns c = ap (λ (k : KnownFields). k.close) c.from_spans.ensures
