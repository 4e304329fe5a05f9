-- A request whose reply is made and whose change, if it makes one, can be stored.
use Rattle.std.specs.Prelude.{◌≡◌, List, Option, Some, option_map}
use Rattle.http_front.specs.declared.request.Request.{Request}
use Rattle.object_journal.specs.declared.entry.Entry.{Entry}
use Rattle.object_state.specs.declared.object.Change.{Change}
use Rattle.object_store.specs.Stores.{Recalls, MayCommit}
use Rattle.plain_machine.specs.Deciding.{IsDecided}
use Rattle.plain_machine.specs.declared.decision.Decided.{Decided}
use Rattle.storage_version.specs.Kept.{IsEntryOf}
use Rattle.stored_change.specs.Changes.{IsStorable}
use Rattle.api_requests.specs.Serving.{Serving}
use Rattle.api_requests.specs.declared.prepared.Prepared.{Prepared}
use Rattle.api_requests.specs.declared.prepared.Write.{Write}

-- the change that is prepared, if there is one
abbrev pub change_of : Prepared → Option Change
change_of p = option_map (λ w. w.change) p.write

-- what is prepared, as what becomes of a request
abbrev pub decided_of : Prepared → Decided
decided_of p = record { reply = p.reply; change = change_of p }

-- the change can be stored, and this is its entry, for which the store took room
pub record IsWriteOf (s : Serving) (w : Write) : Type 0 where
  pub storable : IsStorable s.back s.machine.view s.state w.change
  pub entry : IsEntryOf s.back.versions s.machine.view.versions s.store.journal.revision
      w.change w.ready
  pub may : (entries : List Entry) → Recalls s.store entries → MayCommit s.store entries w.ready
  pub room : s.store.spare ≡ 1

-- what is prepared is what becomes of some request in the present state, and can be stored
pub record IsReadyIn (s : Serving) (p : Prepared) : Type 0 where
  pub request : Request
  pub decided : IsDecided s.machine s.state request (decided_of p)
  pub write : (w : Write) → p.write ≡ Some w → IsWriteOf s w
