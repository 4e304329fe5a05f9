use Rattle.stored_state.proofs.ReadingLemmas.{fault_in}
use Rattle.stored_state.proofs.record.fields_in.Goals as goal

pub returns-in_ok-key-in-Err-Undecodable-clause-err : goal.returns-in_ok-key-in-Err-Undecodable-clause-err
returns-in_ok-key-in-Err-Undecodable-clause-err c =
    let e = c.in-Err-Undecodable in
    fault_in c.args.view.now c.args.item.now c.bytes-group.result.now c.bytes-resource.result.now c.bytes.result.now e.field-0 c.in_ok-key-in-Err-Undecodable.key e.version c.minor-minor.result
    c.bytes-group.ensures c.bytes-resource.ensures c.bytes.ensures e.field-0-is e.ensures.not_live e.ensures.err c.in_ok-key-in-Err-Undecodable.ensures c.minor-minor.ensures
