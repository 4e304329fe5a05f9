use Rattle.conversion.proofs.DepthLemmas.{shown_depth}
use Rattle.conversion.proofs.ExistLemmas.{some_shown}
use Rattle.conversion.proofs.ReadLemmas.{read_fits}
use Rattle.conversion.proofs.RoundLemmas.{reads_back}
use Rattle.conversion.proofs.SameLemmas.{shows_as_one}
use Rattle.conversion.proofs.law.what_is_shown_is_read.Goals as goal

pub returns : goal.returns
returns c =
    let rows = c.args.table.now.rows in
    record {
      round = record {
        shown = λ held fits. some_shown rows held c.requires fits;
        once = λ held. shows_as_one rows held;
        back = λ held fits tree shows. reads_back rows held tree c.requires fits shows;
        fits = λ mode tree held reads. read_fits mode rows tree held c.requires reads;
      };
      shallow = λ held tree shows. shown_depth rows held tree c.requires shows;
    }
