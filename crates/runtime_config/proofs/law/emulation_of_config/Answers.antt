use Rattle.lifecycle.proofs.CutLemmas.{cut_tables}
use Rattle.runtime_config.proofs.CutLemmas.{taken_within, faults_of_cut, unforeseen_faults}
use Rattle.runtime_config.proofs.law.emulation_of_config.Goals as goal

pub returns : goal.returns
returns c =
    let entries = c.args.entries.now in
    let cut = c.args.cut.now in
    record {
      taken = λ e within. taken_within entries cut c.args.text.now e (cut_tables entries cut c.args.o e c.requires within);
      at_cut = λ led. unforeseen_faults entries cut c.args.o c.requires led c.args.text.now;
      faults = λ e within. faults_of_cut entries cut c.args.o e c.requires within c.args.text.now;
    }
