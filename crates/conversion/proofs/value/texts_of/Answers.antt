use Rattle.std.proofs.Common.{arith}
use Rattle.conversion.proofs.ValueLemmas.{no_texts}
use Rattle.conversion.proofs.value.texts_of.Goals as goal

pub returns-in-Ok-None : goal.returns-in-Ok-None
returns-in-Ok-None c = λ texts. no_texts c.args.items.now c.loop-item.item-index c.item-item.result texts (omega arith) c.item-item.is (rw c.in-Ok-None.field-0-is at c.in-Ok-None.ensures.none)
