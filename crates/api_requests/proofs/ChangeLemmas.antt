-- A change of a state can be made; and what it leaves of the records, once its entry is made.
use Rattle.std.proofs.Common.{◌≡◌, ⊎_elim, ℕ, ◌+◌, ◌-◌, List, refl, sym, subst, ◌∙◌}
use Rattle.std.specs.Prelude.{Option, Some, None}
use Rattle.key_order.proofs.OutcomeLemmas.{can_put, can_remove}
use Rattle.object_state.proofs.StateLemmas.{key_of, has_or_not, put_change, removal_change}
use Rattle.object_state.specs.Objects.{AreInKeyOrder}
use Rattle.object_state.specs.State.{State, IsApplied}
use Rattle.object_state.specs.declared.object.Change.{Change}
use Rattle.object_state.specs.declared.object.Object.{Object}
use Rattle.object_state.specs.declared.object.Stored.{Stored}
use Rattle.object_store.specs.Records.{AreInKeyOrder as AreRecordsInOrder, IsChanged}
use Rattle.object_store.specs.declared.item.Item.{Item}
use Rattle.storage_version.specs.Kept.{AreKept}
use Rattle.storage_version.specs.Laws.{IsStep, GoesOnStanding, KeepsRecords}
use Rattle.stored_state.specs.Both.{StandForBoth, GoOnKept}
use Rattle.api_requests.specs.Prepared.{IsWriteOf}
use Rattle.api_requests.specs.Serving.{Serving, IsServing}
use Rattle.api_requests.specs.declared.prepared.Write.{Write}

-- ---- the state after a change

none_some : (object : Object) → None ≡ Some object → ⊥
none_some object e = cc

pub can_apply : (old : State) (change : Change) → AreInKeyOrder old.objects → (next : State) × IsApplied old change next
can_apply old change order = kinds change.object refl
  where
    kinds : (o : Option Object) → change.object ≡ o → (next : State) × IsApplied old change next
    kinds None is =
        let made = can_remove key_of old.objects change.key order in (
          record { objects = made.0; revision = old.revision + 1; records = old.records - 1 },
          record {
            revision = refl;
            objects = removal_change old.objects made.0 change is made.1;
            records = record {
              comes = λ object some _. absurd (none_some object (sym is ∙ some));
              stays = λ object some _. absurd (none_some object (sym is ∙ some));
              goes = λ _. refl;
            };
          },
        )
    kinds (Some object) is =
        let stored : Stored = record { key = change.key; object = object } in
        let made = can_put key_of old.objects stored order in
        let objects = put_change old.objects made.0 change object is made.1 in
        ⊎_elim
        (λ has. (
          record { objects = made.0; revision = old.revision + 1; records = old.records },
          record {
            revision = refl;
            objects = objects;
            records = record {
              comes = λ _ _ new. absurd (new has);
              stays = λ _ _ _. refl;
              goes = λ none. absurd (none_some object (sym none ∙ is));
            };
          },
        ))
        (λ new. (
          record { objects = made.0; revision = old.revision + 1; records = old.records + 1 },
          record {
            revision = refl;
            objects = objects;
            records = record {
              comes = λ _ _ _. refl;
              stays = λ _ _ has. absurd (new has);
              goes = λ none. absurd (none_some object (sym none ∙ is));
            };
          },
        ))
        (has_or_not old.objects change.key)

-- ---- the records after it

module _ (s : Serving) (w : Write) (serves : IsServing s) (write : IsWriteOf s w) (ordered : AreRecordsInOrder s.store.items) (after : List Item) (next : State) (changed : IsChanged s.store.items w.ready after) (applied : IsApplied s.state w.change next) where
  step : IsStep s.back s.machine.view s.store.items s.store.journal.revision s.state w.change w.ready after next
  step = record { order = ordered; of_server = write.storable.of_server; applied = applied; entry = write.entry; changed = changed }

  pub stand_after : (revision : ℕ) → revision ≡ w.ready.revision → GoesOnStanding s.back s.machine.view → StandForBoth s.back s.machine.view after revision next
  stand_after revision at go =
      let on = go serves.history serves.one s.store.items after s.store.journal.revision s.state next w.change w.ready step serves.stand.later in
      subst (λ n. StandForBoth s.back s.machine.view after n next) (sym at) (record { later = on.0; earlier = on.1 serves.stand.earlier })

  pub kept_after : (revision : ℕ) → revision ≡ w.ready.revision → KeepsRecords s.back s.machine.view → GoOnKept s.back s.machine.view s.store.items s.store.journal.revision s.state after revision next
  kept_after revision at keeps = λ old within kept. subst (AreKept s.back.versions s.machine.view.versions old next after) (sym at) (keeps.stepped old s.store.items after s.store.journal.revision s.state next w.change w.ready within step kept)
