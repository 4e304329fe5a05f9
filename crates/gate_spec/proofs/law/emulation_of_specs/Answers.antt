use Rattle.std.proofs.Common.{sym, ◌∙◌, ap, subst}
use Rattle.gate_spec.specs.Gates.{RisesInDate, cutoff}
use Rattle.gate_spec.proofs.CutLemmas.{cutoff_within, rises_cut, known_within}
use Rattle.gate_spec.proofs.law.emulation_of_specs.Goals as goal

pub returns : goal.returns
returns c =
    let entries = c.args.entries.now in
    record {
      tables = λ e within. ap (λ xs. cutoff xs e) c.requires ∙ cutoff_within entries c.args.o e within;
      rises = λ up. subst RisesInDate (sym c.requires) (rises_cut entries c.args.o up);
      known = λ e. known_within entries c.args.cut.now c.args.name.now c.args.o e c.requires;
    }
