use Rattle.httparse.specs.Grammar.{lf, crlf}
use Rattle.http_front.proofs.FrontLemmas.{no_line, some_line, some_crlf_line}
use Rattle.http_front.proofs.head.empty_line.Goals as goal

pub returns-then-starts_with-clause-some : goal.returns-then-starts_with-clause-some
returns-then-starts_with-clause-some c = (lf, some_line c.args.bytes.now c.starts_with.result c.starts_with.ensures.value c.if-starts_with.true)

pub returns-then-starts_with-2-clause-some : goal.returns-then-starts_with-2-clause-some
returns-then-starts_with-2-clause-some c = (crlf, some_crlf_line c.args.bytes.now c.starts_with-2.result c.starts_with-2.ensures.value c.if-starts_with-2.true)

pub returns-clause-none : goal.returns-clause-none
returns-clause-none c = λ b. no_line c.args.bytes.now c.starts_with.result c.starts_with-2.result c.starts_with.ensures.value c.starts_with-2.ensures.value c.if-starts_with.false c.if-starts_with-2.false b.0 b.1 b.2
