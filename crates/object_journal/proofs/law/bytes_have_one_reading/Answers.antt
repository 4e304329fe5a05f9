use Rattle.object_journal.proofs.Readings.{one_reading}
use Rattle.object_journal.proofs.Refusals.{reads_or_breaks, one_place}
use Rattle.object_journal.proofs.SomeReadings.{some_reading}
use Rattle.object_journal.proofs.law.bytes_have_one_reading.Goals as goal

pub returns-clause-base : goal.returns-clause-base
returns-clause-base c = λ a b xs ys p q. (one_reading c.args.bytes.now a b xs ys p q).base

pub returns-clause-entries : goal.returns-clause-entries
returns-clause-entries c = λ a b xs ys p q. (one_reading c.args.bytes.now a b xs ys p q).entries

pub returns-clause-either : goal.returns-clause-either
returns-clause-either c = λ base place entries j r. reads_or_breaks c.args.bytes.now base place entries j r

pub returns-clause-place : goal.returns-clause-place
returns-clause-place c = λ p q r s. one_place c.args.bytes.now p q r s

pub returns-clause-some : goal.returns-clause-some
returns-clause-some c = λ none whole. some_reading c.args.bytes.now none whole
