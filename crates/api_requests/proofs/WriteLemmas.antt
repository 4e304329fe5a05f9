-- What is ready to be stored.
use Rattle.std.proofs.Common.{◌≡◌, List, refl, sym, subst}
use Rattle.std.specs.Prelude.{Some, None}
use Rattle.disk.specs.Images.{Pending, Images}
use Rattle.disk.specs.declared.file.File.{File}
use Rattle.http_front.specs.declared.reply.Reply.{Reply}
use Rattle.http_front.specs.declared.request.Request.{Request}
use Rattle.object_journal.specs.declared.entry.Entry.{Entry}
use Rattle.object_store.specs.Stores.{StoreRecord, Recalls, MayCommit, HasEntries}
use Rattle.plain_machine.specs.Deciding.{IsDecided}
use Rattle.storage_version.specs.Kept.{IsEntryOf}
use Rattle.stored_change.specs.Changes.{IsStorable}
use Rattle.api_requests.specs.Prepared.{IsReadyIn, IsWriteOf}
use Rattle.api_requests.specs.Serving.{Serving, IsAsBefore}
use Rattle.api_requests.specs.declared.prepared.Write.{Write}

-- entries that stand on a disk are those that the store recalls
pub recalls_of : (tells : Type 0) (held : Images) (pending : File → Pending) (s : StoreRecord) (entries : List Entry) → HasEntries tells held pending s entries → Recalls s entries
recalls_of tells held pending s entries h = record {
  base_fits = h.stands.base_fits;
  lawful = h.stands.lawful;
  revision = h.stands.revision;
  records = h.records;
}

may_with_room : (s : StoreRecord) (e : Entry) → ((entries : List Entry) → Recalls s entries → MayCommit s entries e) → (entries : List Entry) → Recalls (record s { spare = 1 }) entries → MayCommit (record s { spare = 1 }) entries e
may_with_room s e may entries r =
    let m = may entries (record { base_fits = r.base_fits; lawful = r.lawful; revision = r.revision; records = r.records }) in
    record { follows = m.follows; next = m.next; keeps = m.keeps }

-- an entry of a change that can be stored is ready once there is room
pub write_ready : (old new : Serving) (w : Write) → IsStorable old.back old.machine.view old.state w.change → IsEntryOf old.back.versions old.machine.view.versions old.store.journal.revision w.change w.ready
    → ((entries : List Entry) → Recalls old.store entries → MayCommit old.store entries w.ready) → new.machine ≡ old.machine → new.back ≡ old.back → new.state ≡ old.state → new.store ≡ record old.store { spare = 1 } → IsWriteOf new w
write_ready old new w storable entry may machine back state store =
    let whole : new ≡ record { machine = old.machine; back = old.back; state = old.state; store = record old.store { spare = 1 } } = λ i. record { machine = machine i; back = back i; state = state i; store = store i } in
    subst (λ (s : Serving). IsWriteOf s w) (sym whole) (record { storable = storable; entry = entry; may = may_with_room old.store w.ready may; room = refl })

-- ---- what is prepared

some_same : (w v : Write) → Some w ≡ Some v → w ≡ v
some_same w v e = cc

none_some : (w : Write) → None ≡ Some w → ⊥
none_some w e = cc

-- a request that changes nothing is ready
pub ready_without : (s : Serving) (q : Request) (reply : Reply) → IsDecided s.machine s.state q (record { reply = reply; change = None }) → IsReadyIn s (record { reply = reply; write = None })
ready_without s q reply decided = record {
  request = q;
  decided = decided;
  write = λ w is. absurd (none_some w is);
}

-- and so is one whose change is
pub ready_written : (old new : Serving) (q : Request) (reply : Reply) (w : Write) → IsAsBefore old new → IsDecided old.machine old.state q (record { reply = reply; change = Some w.change }) → IsWriteOf new w
    → IsReadyIn new (record { reply = reply; write = Some w })
ready_written old new q reply w is decided write = record {
  request = q;
  decided = subst (λ (s : Serving). IsDecided s.machine s.state q (record { reply = reply; change = Some w.change })) (sym is) decided;
  write = λ v same. subst (IsWriteOf new) (some_same w v same) write;
}
