use Rattle.http_front.proofs.FrontLemmas.{front_found_at, none_found_at}
use Rattle.http_front.proofs.head.front_of.Goals as goal

pub returns-in-Some-clause-some : goal.returns-in-Some-clause-some
returns-in-Some-clause-some c =
    front_found_at c.args.bytes.now c.split_at.result.1.now c.split_at-in-Some.result.0.now c.split_at-in-Some-2.result.0.now c.skipped_len-start.result c.in-Some.len c.skipped_len-start.ensures.blank.0
    c.split_at.ensures.back c.split_at-in-Some.ensures.front c.split_at-in-Some-2.ensures.front c.skipped_len-start.ensures.within c.skipped_len-start.ensures.blank.1 c.skipped_len-start.ensures.done
    c.in-Some.ensures.some.0 c.in-Some.ensures.some.1

pub returns-in-None-clause-none : goal.returns-in-None-clause-none
returns-in-None-clause-none c =
    none_found_at c.args.bytes.now c.split_at.result.1.now c.skipped_len-start.result c.skipped_len-start.ensures.blank.0 c.split_at.ensures.back c.skipped_len-start.ensures.blank.1
    c.skipped_len-start.ensures.done c.in-None.ensures.none
