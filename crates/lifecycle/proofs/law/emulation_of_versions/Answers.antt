use Rattle.std.proofs.Common.{ap}
use Rattle.lifecycle.specs.Tables.{live, decodable, warning}
use Rattle.lifecycle.proofs.CutLemmas.{cut_tables}
use Rattle.lifecycle.proofs.law.emulation_of_versions.Goals as goal

pub returns : goal.returns
returns c = λ e within.
    let same = cut_tables c.args.entries.now c.args.cut.now c.args.o e c.requires within in
    record {
      tables = same;
      live = λ name. ap (λ tables. live tables name) same;
      decodable = λ name. ap (λ tables. decodable tables name) same;
      warning = λ name. ap (λ tables. warning tables name) same;
    }
