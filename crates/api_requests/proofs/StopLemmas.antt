-- What a stop during a request leaves, and a request that makes no call of the disk.
use Rattle.std.proofs.Common.{inl, inr, ⊎_elim, ℕ, List, refl, sym, subst, ◌∙◌, arith}
use Rattle.std.specs.Prelude.{Some}
use Rattle.disk.specs.Beside.{Beside}
use Rattle.disk.specs.Calls.{Spares}
use Rattle.disk.specs.Images.{Pending, Images, Each}
use Rattle.disk.specs.declared.file.File.{File}
use Rattle.disk.proofs.ImageLemmas.{image_now}
use Rattle.http_front.specs.declared.request.Request.{Request}
use Rattle.object_journal.specs.Journal.{IsGated}
use Rattle.object_journal.specs.Standing.{chosen}
use Rattle.object_journal.specs.declared.entry.Entry.{Entry}
use Rattle.object_state.specs.State.{State, IsNext}
use Rattle.object_store.specs.Records.{AreInKeyOrder as AreRecordsInOrder, RecoversTo}
use Rattle.object_store.specs.Stores.{StoreRecord, HasEntries, LeavesRecords}
use Rattle.plain_machine.specs.Deciding.{IsDecided}
use Rattle.plain_machine.specs.Steps.{Step}
use Rattle.plain_machine.specs.declared.decision.Decided.{Decided}
use Rattle.plain_machine.specs.declared.machine.Machine.{Machine}
use Rattle.release_view.specs.Views.{Viewed}
use Rattle.storage_version.specs.Laws.{GoesOnStanding, KeepsRecords}
use Rattle.stored_state.specs.Both.{GoOnKept}
use Rattle.api_requests.proofs.ChangeLemmas.{can_apply, stand_after, kept_after}
use Rattle.api_requests.specs.Finishing.{GoesOn, RestoresState, RestoresNow, LeavesState, LeavesStep}
use Rattle.api_requests.specs.Prepared.{IsWriteOf}
use Rattle.api_requests.specs.Serving.{Serving, IsServing}
use Rattle.api_requests.specs.declared.prepared.Write.{Write}

-- ---- a stop

restores_same : (s : Serving) (bytes : List ℕ) → IsServing s → RecoversTo bytes s.store.items s.store.journal.revision → RestoresState s bytes s.state
restores_same s bytes serves recovers = record {
  records = s.store.items;
  at_revision = s.store.journal.revision;
  recovers = recovers;
  stand = serves.stand;
  kept = λ old within kept. kept;
}

-- records before the entry or after it restore the state before the change or after it
pub leaves_state : (pending : File → Pending) (s : Serving) (w : Write) (images : Images) → GoesOnStanding s.back s.machine.view → KeepsRecords s.back s.machine.view → IsServing s → IsWriteOf s w → AreRecordsInOrder s.store.items
    → LeavesRecords pending s.store w.ready images → LeavesState pending s (Some w.change) images
leaves_state pending s w images go keeps serves write ordered l = record {
  file = ⊎_elim
      (λ before. inl (restores_same s (images chosen) serves before))
      (λ after.
      let next = can_apply s.state w.change serves.stand.later.order in
      inr (
        next.0,
        next.1,
        record {
          records = after.0;
          at_revision = w.ready.revision;
          recovers = after.2;
          stand = stand_after s w serves write ordered after.0 next.0 after.1 next.1 w.ready.revision refl go;
          kept = kept_after s w serves write ordered after.0 next.0 after.1 next.1 w.ready.revision refl keeps;
        },
      ))
      l.file;
  others = l.others;
}

-- what becomes of a request, and the state after its change, are the request's step
pub step_of : (m : Machine) (s : State) (q : Request) (d : Decided) (after : State) → IsDecided m s q d → IsNext s d.change after → Step m s q d.reply after
step_of m s q d after decided next = record {
  asked = decided.asked;
  asks = decided.asks;
  answer = decided.answer;
  change = d.change;
  decides = decided.decides;
  told = decided.told;
  next = next;
}

pub leaves_step : (pending : File → Pending) (s : Serving) (q : Request) (d : Decided) (images : Images) → IsDecided s.machine s.state q d → LeavesState pending s d.change images → LeavesStep pending s q images
leaves_step pending s q d images decided l = record {
  file = ⊎_elim
      (λ before. inl before)
      (λ after. inr (d.reply, after.0, step_of s.machine s.state q d after.0 decided after.1, after.2))
      l.file;
  others = l.others;
}

-- ---- no call of the disk

pub spares_none : {D : Type 0} (beside : D → Beside) (faults : D → ℕ) (d : D) (failed : Type 0) → (failed → ⊥) → Spares beside faults d d failed
spares_none beside faults d failed none = record {
  same = refl;
  later = omega arith;
  cause = λ f. absurd (none f);
  fine = λ _. refl;
}

-- ---- the present moment

-- where nothing is pending of the store's file, what a stop leaves gives the store's records
pub recovers_now : (tells : Type 0) (held : Images) (pending : File → Pending) (s : StoreRecord) (entries : List Entry) (images : Images) → HasEntries tells held pending s entries → tells → Each pending images → RecoversTo (images chosen) s.items s.journal.revision
recovers_now tells held pending s entries images h told each = record {
  base = s.journal.base;
  entries = entries;
  means = inr (inr (subst (λ (bytes : List ℕ). IsGated bytes s.journal.base entries) (sym (image_now held pending chosen images (h.stands.still told) each)) (h.stands.gated told)));
  records = h.records;
  revision_is = h.stands.revision;
}

pub restores_now : (tells : Type 0) (held : Images) (pending : File → Pending) (s : Serving) → IsServing s → RestoresNow tells held pending s
restores_now tells held pending s serves stands told images each = restores_same s (images chosen) serves (recovers_now tells held pending s.store stands.0 images stands.1 told each)

-- ---- one change after another

pub goes_on_twice : (a b c : Serving) → GoesOn a b → GoesOn b c → GoesOn a c
goes_on_twice a b c first second = record {
  machine = second.machine ∙ first.machine;
  back = second.back ∙ first.back;
  later = omega (arith, first.later, second.later);
  kept = λ old within kept.
      let go = subst (λ (p : Viewed × Viewed). GoOnKept p.0 p.1 b.store.items b.store.journal.revision b.state c.store.items c.store.journal.revision c.state) (λ i. (first.back i, (first.machine i).view)) second.kept in
      go old (λ item there. let low = within item there in omega (arith, low, first.later)) (first.kept old within kept);
}
