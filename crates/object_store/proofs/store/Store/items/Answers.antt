use Rattle.std.proofs.Common.{subst}
use Rattle.object_store.specs.Stores.{StoreRecord, HaveLawfulTexts}
use Rattle.object_store.proofs.store.Store.items.Goals as goal

pub returns-clause-texts : goal.returns-clause-texts
returns-clause-texts c = subst (λ (s : StoreRecord). HaveLawfulTexts s.items) c.self.view_is c.self.invariant.texts
