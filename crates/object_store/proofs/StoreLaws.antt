-- What a ready call leaves of what is known of a store, for its callers.
use Rattle.std.specs.Prelude.{◌≡◌, List}
use Rattle.std.proofs.Common.{sym, subst}
use Rattle.disk.specs.declared.file.File.{File}
use Rattle.disk.specs.Images.{Pending, Images}
use Rattle.object_journal.specs.declared.entry.Entry.{Entry}
use Rattle.object_store.specs.Stores.{StoreRecord, Recalls, HasEntries, MayCommit}

pub recalled : (tells : Type 0) (held : Images) (pending : File → Pending) (s : StoreRecord) (entries : List Entry) → HasEntries tells held pending s entries → Recalls s entries
recalled tells held pending s entries h = record { base_fits = h.stands.base_fits; lawful = h.stands.lawful; revision = h.stands.revision; records = h.records }

-- the room for one more record
pub with_room : (tells : Type 0) (held : Images) (pending : File → Pending) (old new : StoreRecord) (entries : List Entry) → new ≡ record old { spare = 1 } → HasEntries tells held pending old entries → HasEntries tells held pending new entries
with_room tells held pending old new entries is h = subst (λ (s : StoreRecord). HasEntries tells held pending s entries) (sym is) (record { stands = h.stands; records = h.records })

pub may_with_room : (old new : StoreRecord) (entries : List Entry) (e : Entry) → new ≡ record old { spare = 1 } → MayCommit old entries e → MayCommit new entries e
may_with_room old new entries e is may = subst (λ (s : StoreRecord). MayCommit s entries e) (sym is) (record { follows = may.follows; next = may.next; keeps = may.keeps })
