use Rattle.std.proofs.Common.{arith}
use Rattle.fields.proofs.lawful.rows_are_lawful.Goals as goal

pub returns-then-each_is_lawful : goal.returns-then-each_is_lawful
returns-then-each_is_lawful c = (
  λ apart. record { few = omega arith; each = c.each_is_lawful.ensures.0 c.if-each_is_lawful.true; apart = c.stand_apart.ensures.0 apart },
  λ h. c.stand_apart.ensures.1 h.apart,
)
