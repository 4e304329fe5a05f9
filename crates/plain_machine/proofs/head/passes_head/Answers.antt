use Rattle.std.proofs.lemmas.Result.{err_from_is_err_and}
use Rattle.request_target.specs.Targets.{asked}
use Rattle.plain_machine.proofs.OrderLemmas.{length_stop, method_stop, query_stop, size_stop}
use Rattle.plain_machine.proofs.head.passes_head.Goals as goal

pub returns-in_err-allowed-clause-refused : goal.returns-in_err-allowed-clause-refused
returns-in_err-allowed-clause-refused c =
    let p = err_from_is_err_and c.from_residual.result c.from_residual.ensures.1 in
    rw (p.1, p.2) (method_stop c.args.request.now (asked c.args.target) _ c.in_err-allowed.ensures.refused)

pub returns-in_err-supported-clause-refused : goal.returns-in_err-supported-clause-refused
returns-in_err-supported-clause-refused c =
    let p = err_from_is_err_and c.from_residual-in_err-supported.result c.from_residual-in_err-supported.ensures.1 in
    rw (p.1, p.2) (query_stop c.args.request.now (asked c.args.target) _ c.in_ok-allowed.ensures.ok c.in_err-supported.ensures.refused)

pub returns-in_err-counted-clause-refused : goal.returns-in_err-counted-clause-refused
returns-in_err-counted-clause-refused c =
    let p = err_from_is_err_and c.from_residual-in_err-counted.result c.from_residual-in_err-counted.ensures.1 in
    rw (p.1, p.2)
    (length_stop c.args.request.now (asked c.args.target) _ c.in_ok-allowed.ensures.ok c.in_ok-supported.ensures.ok c.in_err-counted.ensures.refused)

pub returns-in_err-short-clause-refused : goal.returns-in_err-short-clause-refused
returns-in_err-short-clause-refused c =
    let p = err_from_is_err_and c.from_residual-in_err-short.result c.from_residual-in_err-short.ensures.1 in
    rw (p.1, p.2)
    (size_stop c.args.request.now (asked c.args.target) _ c.in_ok-allowed.ensures.ok c.in_ok-supported.ensures.ok c.in_ok-counted.ensures.ok
    c.in_err-short.ensures.refused)
