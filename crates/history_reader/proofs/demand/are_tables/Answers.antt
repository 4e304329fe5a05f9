use Rattle.history_reader.proofs.DemandLemmas.{all_tables}
use Rattle.history_reader.proofs.demand.are_tables.Goals as goal

pub returns : goal.returns
returns c =
    let same = all_tables c.args.array.now.items in
    let is = c.as_slice.ensures.value in
    (λ t. same.0 (rw is at (c.all_tables.ensures.0 t)), λ h. c.all_tables.ensures.1 (rw is (same.1 h)))
