use Rattle.std.proofs.Common.{[]}
use Rattle.object_journal.proofs.ReaderLemmas.{header_alone}
use Rattle.object_journal.proofs.reader.read_journal.Goals as goal

pub returns-then-bytes-eq17-clause-ok : goal.returns-then-bytes-eq17-clause-ok
returns-then-bytes-eq17-clause-ok g c = record {
  entries = [];
  whole = header_alone c.begun-then-bytes-eq17.result c.args.bytes.now c.in-Some.base c.begun-then-bytes-eq17.ensures c.in-Some.ensures.some c.if-bytes-eq17.true;
  made = c.none-then-bytes-eq17.ensures;
}
