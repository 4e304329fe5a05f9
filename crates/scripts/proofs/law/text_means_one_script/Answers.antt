use Rattle.scripts.specs.Lines.{lines}
use Rattle.scripts.proofs.ReadingLemmas.{of_once, bad_once, good_or_bad}
use Rattle.scripts.proofs.law.text_means_one_script.Goals as goal

pub returns : goal.returns
returns c = record {
  script = of_once (lines c.args.text.now);
  bad = bad_once (lines c.args.text.now);
  apart = good_or_bad (lines c.args.text.now);
}
