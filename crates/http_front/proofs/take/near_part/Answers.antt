use Rattle.std.proofs.Common.{sym, arith}
use Rattle.std.proofs.lemmas.List.{take_all}
use Rattle.http_front.proofs.take.near_part.Goals as goal

pub returns-then-buf-le-LONGEST_HEAD : goal.returns-then-buf-le-LONGEST_HEAD
returns-then-buf-le-LONGEST_HEAD c = sym (take_all 16384 c.args.buf.now (omega arith))
