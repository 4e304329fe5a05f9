use Rattle.std.proofs.Common.{sym}
use Rattle.lifecycle.specs.Entry.{named}
use Rattle.release_view.proofs.KnownLemmas.{introduces}
use Rattle.release_view.proofs.build.known_version.Goals as goal

pub returns-in_default-change : goal.returns-in_default-change
returns-in_default-change c = absurd (introduces c.args.index.now (named c.name-name.result) c.in-Some-introduction.first.now (sym c.in-Some-introduction.ensures) c.in_default-change.not-Introduced)
