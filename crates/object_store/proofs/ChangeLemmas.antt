-- What an entry's change leaves of records in key order.
use Rattle.std.proofs.Common.{◌≡◌, ◌≢◌, inl, inr, ⊎_elim, List, sym, ap, ◌∙◌}
use Rattle.std.specs.Prelude.{Some, None}
use Rattle.object_journal.specs.declared.key.Key.{Key}
use Rattle.object_journal.specs.declared.entry.Entry.{Entry}
use Rattle.object_journal.specs.declared.entry.Change.TheVariants.{Put, Removal}
use Rattle.object_journal.specs.Payload.{created_of, body_of}
use Rattle.key_order.specs.Order as keyed
use Rattle.object_store.specs.declared.item.Item.{Item}
use Rattle.object_store.specs.Records.{IsChanged, put_of}

abbrev pub key_of : Item → Key
key_of r = r.key

same_record : (q r : Item) → Some q ≡ Some r → q ≡ r
same_record q r e = cc

no_record : (r : Item) → None ≡ Some r → ⊥
no_record r e = cc

record_of_put : (q r : Item) → put_of q ≡ put_of r → q ≡ r
record_of_put q r e = λ i. record { key = (e i).key; revision = (e i).revision; created = created_of (e i).change; body = body_of (e i).change }

no_put_is_removal : (r : Item) (e : Entry) → e.change ≡ Removal → put_of r ≢ e
no_put_is_removal r e removal is = let both : Put r.created r.body ≡ Removal = ap (λ (x : Entry). x.change) is ∙ removal in cc

pub put_changes : (old new : List Item) (r : Item) → keyed.IsChanged key_of old r.key (Some r) new → IsChanged old (put_of r) new
put_changes old new r c = record {
  ordered = c.order;
  exact = λ q. (
    (λ there. ⊎_elim (λ both. inl (ap put_of (sym (same_record r q both.1)))) (λ other. inr (other.1, other.0)) ((c.exact q).0 there)),
    ⊎_elim
        (λ is. let same = record_of_put q r is in (c.exact q).1 (inl (ap key_of same, ap Some (sym same))))
        (λ other. (c.exact q).1 (inr (other.1, other.0))),
  );
}

pub removal_changes : (old new : List Item) (e : Entry) → e.change ≡ Removal → keyed.IsChanged key_of old e.key None new → IsChanged old e new
removal_changes old new e removal c = record {
  ordered = c.order;
  exact = λ q. (
    (λ there. ⊎_elim (λ both. absurd (no_record q both.1)) (λ other. inr (other.1, other.0)) ((c.exact q).0 there)),
    ⊎_elim
        (λ is. absurd (no_put_is_removal q e removal is))
        (λ other. (c.exact q).1 (inr (other.1, other.0))),
  );
}
