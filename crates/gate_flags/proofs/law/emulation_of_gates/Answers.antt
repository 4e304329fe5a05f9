use Rattle.std.proofs.Common.{sym, subst}
use Rattle.gate_spec.specs.Gates.{RisesInDate}
use Rattle.gate_spec.proofs.CutLemmas.{rises_cut}
use Rattle.gate_flags.proofs.CutLemmas.{tables_within, taken_within, faults_of_cut, unforeseen_faults}
use Rattle.gate_flags.proofs.law.emulation_of_gates.Goals as goal

pub returns : goal.returns
returns c =
    let entries = c.args.entries.now in
    let cut = c.args.cut.now in
    record {
      rises = subst RisesInDate (sym c.requires.cut) (rises_cut entries c.args.o c.requires.rises);
      taken = λ e within. taken_within entries cut c.args.text.now e (tables_within entries cut c.args.o e c.requires.cut within);
      at_cut = unforeseen_faults entries cut c.args.o c.requires.cut c.args.text.now;
      faults = λ e within. faults_of_cut entries cut c.args.o e c.requires.cut within c.args.text.now;
    }
