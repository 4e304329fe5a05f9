-- A server that differs from what it was by the room that its store took.
use Rattle.std.proofs.Common.{◌≡◌, ℕ, refl, sym, ap, subst, ◌∙◌}
use Rattle.std.specs.Prelude.{Some}
use Rattle.disk.specs.Images.{Pending, Images, IsStill}
use Rattle.disk.specs.declared.file.File.{File}
use Rattle.http_front.specs.declared.request.Request.{Request}
use Rattle.object_journal.specs.Journal.{IsGated}
use Rattle.object_journal.specs.Standing.{chosen}
use Rattle.object_store.specs.Stores.{StoreRecord}
use Rattle.plain_machine.specs.Deciding.{IsDecided}
use Rattle.api_requests.specs.Finishing.{GoesOn, LeavesStep, StandsOnDisk}
use Rattle.api_requests.specs.Prepared.{IsReadyIn, IsWriteOf, decided_of}
use Rattle.api_requests.specs.Serving.{Serving, IsServing, IsAsBefore, ended}
use Rattle.api_requests.specs.declared.prepared.Prepared.{Prepared}
use Rattle.api_requests.specs.declared.prepared.Write.{Write}

pub room_taken : (old new : Serving) (n : ℕ) → new.machine ≡ old.machine → new.back ≡ old.back → new.state ≡ old.state → new.store ≡ record old.store { spare = n } → IsAsBefore old new
room_taken old new n machine back state store =
    let spare : n ≡ new.store.spare = ap (λ (s : StoreRecord). s.spare) (sym store) in
    let whole = store ∙ ap (λ k. record old.store { spare = k }) spare in
    λ i. record { machine = machine i; back = back i; state = state i; store = whole i }

pub serves_with_room : (old new : Serving) → IsAsBefore old new → IsServing old → IsServing new
serves_with_room old new is h = subst IsServing (sym is) (record { history = h.history; one = h.one; least = h.least; stand = h.stand })

-- the records go on standing through calls that leave the disk, and where the store took room
pub stands_through : (tells : Type 0) (held held' : Images) (pending pending' : File → Pending) (old new : Serving) → (tells → held' ≡ held) → (tells → pending' ≡ pending) → IsAsBefore old new
    → StandsOnDisk tells held pending old → StandsOnDisk tells held' pending' new
stands_through tells held held' pending pending' old new same_held same_pending is h =
    let entries = h.0 in
    let stands = h.1.stands in
    subst (StandsOnDisk tells held' pending') (sym is) (
      entries,
      record {
        stands = record {
          going = stands.going;
          base_fits = stands.base_fits;
          lawful = stands.lawful;
          revision = stands.revision;
          end_is = stands.end_is;
          short = stands.short;
          still = λ t. subst (λ (p : Images × (File → Pending)). IsStill p.0 p.1 chosen) (λ i. (sym (same_held t) i, sym (same_pending t) i)) (stands.still t);
          gated = λ t. subst (λ (p : Images). IsGated (p chosen) old.store.journal.base entries) (sym (same_held t)) (stands.gated t);
        };
        records = h.1.records;
      },
    )

pub stands_with_room : (tells : Type 0) (held : Images) (pending : File → Pending) (old new : Serving) → IsAsBefore old new → StandsOnDisk tells held pending old → StandsOnDisk tells held pending new
stands_with_room tells held pending old new is h = stands_through tells held held pending pending old new (λ _. refl) (λ _. refl) is h

pub ready_with_room : (old new : Serving) (q : Request) (p : Prepared) → IsAsBefore old new → IsDecided old.machine old.state q (decided_of p) → ((w : Write) → p.write ≡ Some w → IsWriteOf new w) → IsReadyIn new p
ready_with_room old new q p is decided write = record {
  request = q;
  decided = subst (λ (s : Serving). IsDecided s.machine s.state q (decided_of p)) (sym is) decided;
  write = write;
}

-- what follows of the server with that room follows of the one before

pub goes_on_before : (old mid new : Serving) → IsAsBefore old mid → GoesOn mid new → GoesOn old new
goes_on_before old mid new is on =
    let h = subst (λ (s : Serving). GoesOn s new) is on in
    record { machine = h.machine; back = h.back; later = h.later; kept = h.kept }

pub leaves_before : (pending : File → Pending) (old mid : Serving) (q : Request) (images : Images) → IsAsBefore old mid → LeavesStep pending mid q images → LeavesStep pending old q images
leaves_before pending old mid q images is l =
    let h = subst (λ (s : Serving). LeavesStep pending s q images) is l in
    record { file = h.file; others = h.others }

pub ended_before : (old mid : Serving) → IsAsBefore old mid → ended mid ≡ ended old
ended_before old mid is = ap ended is
