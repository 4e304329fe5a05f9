use Rattle.std.proofs.Common.{◌≡◌, [], ◌∷◌, ◌++◌, ap, subst}
use Rattle.std.specs.Prelude.{Err}
use Rattle.object_journal.specs.Journal.{HasNoNext, IsBrokenAt}
use Rattle.object_journal.specs.Readings.{Advances}
use Rattle.object_journal.proofs.ReaderLemmas.{goes_on, ends, breaks}
use Rattle.object_journal.proofs.reader.read_behind.Goals as goal

pub loop-place-preserved : goal.loop-place-preserved
loop-place-preserved g c =
    let l = c.loop-place in
    let entries = l.invariant.entries in
    let entry = c.in-Ok.record.0 in
    let next = c.in-Ok.record.1 in
    let advances = subst (λ rest. Advances l.reading c.advance.new.self entries rest entry next) c.split_at.ensures.back (c.in-Ok.ensures.ok entries l.invariant.read.state) in
    record {
      entries = entries ++ entry ∷ [];
      read = goes_on l.reading c.advance.new.self entries entry c.args.bytes.now l.place next l.invariant.read c.loop-place-test.true advances;
      made = c.in-Ok-take_in.ensures entries l.invariant.made;
    }

pub returns-in-Err-Unlawful-clause-broken : goal.returns-in-Err-Unlawful-clause-broken
returns-in-Err-Unlawful-clause-broken g c = λ place is.
    let l = c.loop-place in
    let there : l.place ≡ place = cc in
    let entries = l.invariant.entries in
    let none = subst (λ rest. HasNoNext l.reading.base entries rest) c.split_at.ensures.back (c.in-Err-Unlawful.ensures.unlawful (ap Err c.in-Err-Unlawful.field-0-is) entries l.invariant.read.state) in
    subst (λ n. IsBrokenAt c.args.bytes.now n) there (breaks l.reading entries c.args.bytes.now l.place l.invariant.read c.loop-place-test.true none)

pub returns-clause-ok : goal.returns-clause-ok
returns-clause-ok g c =
    let l = c.loop-place in
    record {
      entries = l.invariant.entries;
      whole = ends l.reading l.invariant.entries c.args.bytes.now l.place l.invariant.read c.loop-place-test.false;
      made = l.invariant.made;
    }
