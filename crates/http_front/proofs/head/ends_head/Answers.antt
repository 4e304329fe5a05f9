use Rattle.std.proofs.Common.{refl}
use Rattle.http_front.proofs.FrontLemmas.{ends_lf, ends_crlf}
use Rattle.http_front.proofs.head.ends_head.Goals as goal

pub returns-then-ends_with : goal.returns-then-ends_with
returns-then-ends_with c = ((λ _. ends_lf c.args.bytes.now c.ends_with.result c.ends_with.ensures.value c.if-ends_with.true), (λ _. refl))

pub returns : goal.returns
returns c = ends_crlf c.args.bytes.now c.ends_with.result c.ends_with-2.result c.ends_with.ensures.value c.ends_with-2.ensures.value c.if-ends_with.false
