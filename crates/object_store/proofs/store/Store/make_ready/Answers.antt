use Rattle.std.proofs.Common.{sym, subst, arith}
use Rattle.object_store.specs.Records.{AreInKeyOrder}
use Rattle.object_store.specs.Stores.{HaveLawfulTexts}
use Rattle.object_store.proofs.store.Store.make_ready.Goals as goal

pub invariant_of-self : goal.invariant_of-self
invariant_of-self c = record {
  ordered = subst AreInKeyOrder (sym c.reserve.ensures.items) c.self.invariant.ordered;
  texts = subst HaveLawfulTexts (sym c.reserve.ensures.items) c.self.invariant.texts;
  room = λ some. let room = c.self.invariant.room some in omega (arith, room, c.reserve.ensures.len, c.reserve.ensures.capacity);
}

pub invariant_of-self-2 : goal.invariant_of-self-2
invariant_of-self-2 c = record {
  ordered = subst AreInKeyOrder (sym c.reserve.ensures.items) c.self.invariant.ordered;
  texts = subst HaveLawfulTexts (sym c.reserve.ensures.items) c.self.invariant.texts;
  room = λ _. c.in-Ok.ensures.ok;
}
