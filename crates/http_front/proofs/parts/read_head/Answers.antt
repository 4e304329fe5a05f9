use Rattle.std.proofs.Common.{◌++◌, List, ℕ, [], subst, sym, arith}
use Rattle.std.proofs.lemmas.List.{append-nil}
use Rattle.httparse.specs.Grammar.{ReadsRequest}
use Rattle.httparse.specs.Spans.{IsRequestOf}
use Rattle.http_front.proofs.TakeLemmas.{reads_feeds, whole_len}
use Rattle.http_front.proofs.parts.read_head.Goals as goal

pub returns-else-found-head-clause-none : goal.returns-else-found-head-clause-none
returns-else-found-head-clause-none c = λ tree reads.
    let x : IsRequestOf c.args.head.now c.parse_request.new.headers c.in-Ok-Complete.found = (rw c.in-Ok-Complete.field-0-is at c.in-Ok-Complete.ensures.complete) in
    c.if-found-head.false (whole_len c.args.head.now x.0 tree c.in-Ok-Complete.found.len x.1.reads x.1.len reads)

pub returns-in-Err-clause-none : goal.returns-in-Err-clause-none
returns-in-Err-clause-none c = λ tree reads.
    let more : ReadsRequest (c.args.head.now ++ []) tree [] = subst (λ (z : List ℕ). ReadsRequest z tree []) (sym (append-nil c.args.head.now)) reads in
    omega (arith, c.in-Err.ensures.no_room [] tree [] more, reads_feeds c.args.head.now tree reads, c.requires)
