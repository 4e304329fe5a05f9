use Rattle.std.proofs.Common.{subst}
use Rattle.storage_version.specs.Kept.{AreKept}
use Rattle.stored_state.specs.Laws.{HoldsWithin}
use Rattle.api_requests.specs.Serving.{Serving}
use Rattle.api_requests.proofs.law.service_is_kept.Goals as goal

pub returns-clause-within : goal.returns-clause-within
returns-clause-within c = subst (λ (s : Serving). HoldsWithin s.store) c.service.view_is c.store_holds_within.ensures

pub returns-clause-kept : goal.returns-clause-kept
returns-clause-kept c =
    let inside = c.service.inside in
    subst (λ (s : Serving). AreKept s.back.versions s.machine.view.versions s.store.items s.state s.store.items s.store.journal.revision) c.service.view_is
    (c.records_are_kept.ensures.unchanged inside.store.items inside.store.journal.revision inside.state.state c.items-items.ensures.ordered c.service.invariant.serves.stand.later)
