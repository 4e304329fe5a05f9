-- Records that are kept go on standing through steps of a server.
use Rattle.std.proofs.Common.{◌≡◌, ◌≤◌, inl, inr, ⊎_elim, ℕ, ◌+◌, List, [], ◌∷◌, true, Option, Some, None, IsSome, Contains, refl, sym, ◌∙◌, ap, subst, arith}
use Rattle.std.specs.Prelude.{if◌then◌else◌, option_map, option_and_then}
use Rattle.std.proofs.lemmas.List.Elements.{All-contains}
use Rattle.fields.specs.Table.{AreLawful}
use Rattle.fields.specs.declared.table.VersionTable.{VersionTable}
use Rattle.http_front.specs.Items.{Item as StreamItem, taken_request, refused}
use Rattle.http_front.specs.declared.reply.Reply.{Reply}
use Rattle.http_front.specs.declared.request.Request.{Request}
use Rattle.key_order.proofs.OutcomeLemmas.{can_put, can_remove}
use Rattle.object_journal.specs.declared.entry.Change.TheVariants.{Removal}
use Rattle.object_journal.specs.declared.entry.Entry.{Entry}
use Rattle.object_journal.specs.declared.key.Key.{Key}
use Rattle.object_state.specs.State.{State, IsApplied, IsNext}
use Rattle.object_state.specs.declared.object.Change.{Change}
use Rattle.object_state.specs.declared.object.Object.{Object}
use Rattle.key_order.specs.Order as keyed
use Rattle.object_store.specs.Records.{AreInKeyOrder, IsChanged, put_of}
use Rattle.object_store.specs.declared.item.Item.{Item}
use Rattle.plain_machine.specs.Steps.{Decides}
use Rattle.plain_machine.specs.declared.machine.Machine.{Machine}
use Rattle.release_view.proofs.ListLemmas.{gives}
use Rattle.release_view.specs.Kept.{IsKept}
use Rattle.release_view.specs.Known.{name_of, table_name}
use Rattle.release_view.specs.Later.{AreOfOneHistory, ReadsLiveOf}
use Rattle.release_view.specs.Laws.{FindsEach}
use Rattle.release_view.specs.Served.{served_as, served_of, shown}
use Rattle.release_view.specs.Views.{Viewed, best_table_in, has_live, is_live_of, table_in}
use Rattle.release_view.specs.declared.known.KnownVersion.{KnownVersion}
use Rattle.request_target.specs.Targets.{Asked, AsksFor}
use Rattle.schemas.specs.Dated.{Dated}
use Rattle.storage_version.proofs.KnownLemmas.{best_of_live}
use Rattle.storage_version.proofs.ReadLemmas.{known_by}
use Rattle.storage_version.proofs.StandingLemmas.{stored_version, record_of_put, no_put_is_removal}
use Rattle.storage_version.specs.Kept.{AreKept, IsChangeOf, IsEntryOf, IsStoredAs}
use Rattle.storage_version.specs.Laws.{GoesOnStanding, IsStep, KeepsRecords}
use Rattle.storage_version.specs.Storage.{or_else, storage_table_in}
use Rattle.stored_state.specs.Both.{StandForBoth, AreWithin}
use Rattle.served_steps.proofs.ChangeLemmas.{IsMadeAt, decides_made, storable_made}
use Rattle.served_steps.proofs.FieldLemmas.{given_textual}
use Rattle.served_steps.proofs.KeepLemmas.{answered_later}
use Rattle.served_steps.proofs.ShownLemmas.{HoldsTexts, some_body}
use Rattle.served_steps.specs.Laws.{KeptGoOnStanding, AreKeptAfterSteps}
use Rattle.served_steps.specs.Steps.{Exchange, IsAnswered, Steps}
use Rattle.served_steps.specs.Texts.{HasTexts, HaveTextDefaults, IsTextTable, ServedHaveTexts}

some_there : (o : Option VersionTable) → IsSome o → (t : VersionTable) × (o ≡ Some t)
some_there (Some t) h = (t, refl)
some_there None h = absurd cc

same_object : (a b : Object) → Some a ≡ Some b → a ≡ b
same_object a b e = cc

object_or_none : (a : Object) → Some a ≡ None → ⊥
object_or_none a e = cc

none_or_object : (a : Object) → None ≡ Some a → ⊥
none_or_object a e = cc

-- ---- records of an entry

abbrev item_key : Item → Key
item_key r = r.key

same_record : (q r : Item) → Some q ≡ Some r → q ≡ r
same_record q r e = cc

no_record : (r : Item) → None ≡ Some r → ⊥
no_record r e = cc

put_changes : (old new : List Item) (r : Item) → keyed.IsChanged item_key old r.key (Some r) new → IsChanged old (put_of r) new
put_changes old new r c = record {
  ordered = c.order;
  exact = λ q. (
    (λ there. ⊎_elim (λ both. inl (ap put_of (sym (same_record r q both.1)))) (λ other. inr (other.1, other.0)) ((c.exact q).0 there)),
    ⊎_elim
        (λ is. let same = record_of_put q r is in (c.exact q).1 (inl (ap item_key same, ap Some (sym same))))
        (λ other. (c.exact q).1 (inr (other.1, other.0))),
  );
}

removal_changes : (old new : List Item) (e : Entry) → e.change ≡ Removal → keyed.IsChanged item_key old e.key None new → IsChanged old e new
removal_changes old new e removal c = record {
  ordered = c.order;
  exact = λ q. (
    (λ there. ⊎_elim (λ both. absurd (no_record q both.1)) (λ other. inr (other.1, other.0)) ((c.exact q).0 there)),
    ⊎_elim
        (λ is. absurd (no_put_is_removal q e removal is))
        (λ other. (c.exact q).1 (inr (other.1, other.0))),
  );
}

-- ---- what is kept through steps

-- the records that are kept of the old ones, standing for the state
pub record AreGoing (back view : Viewed) (old records : List Item) (s : State) : Type 0 where
  pub order : AreInKeyOrder records
  pub stand : StandForBoth back view records s.revision s
  pub kept : AreKept back.versions view.versions old s records s.revision

-- an entry, and what it leaves of the records
record HasEntry (back versions : List KnownVersion) (records : List Item) (s : State) (change : Change) : Type 0 where
  entry : Entry
  new : List Item
  is : IsEntryOf back versions s.revision change entry
  changed : IsChanged records entry new

module _ (back : Viewed) (m : Machine) (history : Dated) (one : AreOfOneHistory history back m.view) (finds : FindsEach m.view.versions) (kept : IsKept m.view) (live_read : ReadsLiveOf back m.view)
    (texts : ServedHaveTexts back.versions m.view.versions) (goes : GoesOnStanding back m.view) (keeps : KeepsRecords back m.view) where
  -- ---- the storage version

  own_table : (v : KnownVersion) (t : VersionTable) → Contains m.view.versions v → v.table ≡ t → table_in m.view.versions (table_name t) ≡ Some t
  own_table v t there is =
      subst (λ (u : VersionTable). table_in m.view.versions (table_name u) ≡ Some u) is (ap (option_map (λ (w : KnownVersion). w.table)) (finds.by_name v there))

  stored_at : (group resource : List ℕ) → has_live m.view.versions group resource ≡ true → (o : Option VersionTable) → best_table_in back.versions group resource ≡ o
      → (t : VersionTable) × (option_and_then (table_in m.view.versions) (option_map table_name (or_else o (best_table_in m.view.versions group resource))) ≡ Some t)
  stored_at group resource live (Some b) is = some_there (table_in m.view.versions (table_name b)) ((live_read history one).best group resource b is)
  stored_at group resource live None is =
      let best = best_of_live m.view.versions group resource live in
      let (v, there, passes, of) = known_by (is_live_of group resource) m.view.versions best.0 best.1 in
      (best.0, ap (λ (o : Option VersionTable). option_and_then (table_in m.view.versions) (option_map table_name o)) best.1 ∙ own_table v best.0 there of)

  some_stored : (key : Key) → has_live m.view.versions key.group key.resource ≡ true → (t : VersionTable) × (storage_table_in back.versions m.view.versions key.group key.resource ≡ Some t)
  some_stored key live = stored_at key.group key.resource live (best_table_in back.versions key.group key.resource) refl

  table_lawful : (v : KnownVersion) (t : VersionTable) → Contains m.view.versions v → v.table ≡ t → AreLawful t.rows
  table_lawful v t there is = subst (λ (u : VersionTable). AreLawful u.rows) is (All-contains (λ (w : KnownVersion). AreLawful w.table.rows) m.view.versions v kept.lawful there)

  -- ---- one change

  module _ (s : State) (q : Request) (change : Change) (h : IsMadeAt m s q change) (of_server : IsChangeOf back.versions m.view.versions s change) where
    served_texts : HasTexts back.versions m.view.versions h.place.of.served
    served_texts =
        let v = h.known.version in
        let is : served_as v ≡ Some (shown v) = ap (λ b. if b then Some (shown v) else None) h.known.served in
        subst (HasTexts back.versions m.view.versions) h.known.named
        (All-contains (HasTexts back.versions m.view.versions) (served_of m.view.versions) (shown v) texts (gives served_as m.view.versions (shown v) v h.known.among is))

    -- the table of the place is the one that is found by the name of its version
    place_defaults : HaveTextDefaults h.place.of.table.rows
    place_defaults =
        let v = h.known.version in
        let found : table_in m.view.versions (name_of v) ≡ Some h.place.of.table = ap (option_map (λ (w : KnownVersion). w.table)) (finds.by_name v h.known.among) ∙ ap Some h.known.table in
        let is : served_as v ≡ Some (shown v) = ap (λ b. if b then Some (shown v) else None) h.known.served in
        let own = All-contains (HasTexts back.versions m.view.versions) (served_of m.view.versions) (shown v) texts (gives served_as m.view.versions (shown v) v h.known.among is) in
        own.defaults h.place.of.table found

    stored_texts : (t : VersionTable) → storage_table_in back.versions m.view.versions change.key.group change.key.resource ≡ Some t → IsTextTable t
    stored_texts t stored =
        served_texts.stored t (subst (λ (k : Key). storage_table_in back.versions m.view.versions k.group k.resource ≡ Some t) (sym h.made.at) stored)

    object_texts : (object : Object) → change.object ≡ Some object → HoldsTexts object.fields
    object_texts object is =
        given_textual s q h.place h.name object.fields (table_lawful h.known.version h.place.of.table h.known.among h.known.table) place_defaults (h.made.given object is)

    some_item : (object : Object) → change.object ≡ Some object → (item : Item) × (item.key ≡ change.key) × (item.revision ≡ object.revision) × IsStoredAs back.versions m.view.versions change.key object item
    some_item object is =
        let (t, stored) = some_stored change.key of_server.live in
        let v = stored_version back.versions m.view.versions change.key.group change.key.resource t stored in
        let (body, of) = some_body t object.fields (table_lawful v.version t v.among v.is) (of_server.fits object t is stored) (object_texts object is) (stored_texts t stored) in
        let item : Item = record { key = change.key; revision = object.revision; created = object.created; body = body } in
        (item, refl, refl, record { of_key = refl; created = refl; revision = refl; table = t; in_version = stored; body = of })

    entry_at : (records : List Item) → AreInKeyOrder records → (o : Option Object) → change.object ≡ o → HasEntry back.versions m.view.versions records s change
    entry_at records order (Some object) is =
        let (item, at, revision, stored) = some_item object is in
        let (new, changed) = can_put item_key records item order in
        record {
          entry = put_of item;
          new = new;
          is = record {
            of_key = at;
            next = revision ∙ of_server.next object is;
            put = λ other there. (item, refl, subst (λ (x : Object). IsStoredAs back.versions m.view.versions change.key x item) (same_object object other (sym is ∙ there)) stored);
            removal = λ none. absurd (object_or_none object (sym is ∙ none));
          };
          changed = put_changes records new item changed;
        }
    entry_at records order None is =
        let e : Entry = record { key = change.key; revision = s.revision + 1; change = Removal } in
        let (new, changed) = can_remove item_key records change.key order in
        record {
          entry = e;
          new = new;
          is = record {
            of_key = refl;
            next = refl;
            put = λ other there. absurd (none_or_object other (sym is ∙ there));
            removal = λ none. refl;
          };
          changed = removal_changes records new e refl changed;
        }

  -- ---- steps

  module _ (old : List Item) where
    changed_going : (s next : State) (q : Request) (change : Change) (records : List Item) → IsMadeAt m s q change → IsApplied s change next → ((item : Item) → Contains old item → item.revision ≤ s.revision)
        → AreGoing back m.view old records s → (new : List Item) × AreGoing back m.view old new next
    changed_going s next q change records h applied low going =
        let of_server = storable_made m finds kept s q going.stand.later.order back.versions change h in
        let made = entry_at s q change h of_server records going.order change.object refl in
        let step : IsStep back m.view records s.revision s change made.entry made.new next =
        record { order = going.order; of_server = of_server; applied = applied; entry = made.is; changed = made.changed } in
        let stand = goes history one records made.new s.revision s next change made.entry step going.stand.later in
        let is_kept = keeps.stepped old records made.new s.revision s next change made.entry low step going.kept in
        let both : StandForBoth back m.view made.new made.entry.revision next = record { later = stand.0; earlier = stand.1 going.stand.earlier } in (
          made.new,
          record {
            order = is_kept.order;
            stand = subst (λ (n : ℕ). StandForBoth back m.view made.new n next) is_kept.at_revision both;
            kept = subst (λ (n : ℕ). AreKept back.versions m.view.versions old next made.new n) is_kept.at_revision is_kept;
          },
        )

    next_going : (s next : State) (q : Request) (records : List Item) (asked : Option Asked) → AsksFor m.view q.path asked → (answer : _) (c : Option Change) → Decides m s q asked answer c → IsNext s c next
        → ((item : Item) → Contains old item → item.revision ≤ s.revision) → AreGoing back m.view old records s → (new : List Item) × AreGoing back m.view old new next
    next_going s next q records asked asks answer None decides after low going = (records, subst (AreGoing back m.view old records) (sym after) going)
    next_going s next q records asked asks answer (Some change) decides after low going =
        changed_going s next q change records (decides_made m finds kept s q going.stand.later.order asked asks answer (Some change) change decides refl) after low going

    answered_going : (s next : State) (item : StreamItem) (reply : Reply) (records : List Item) → IsAnswered m s item reply next → ((item : Item) → Contains old item → item.revision ≤ s.revision)
        → AreGoing back m.view old records s → (new : List Item) × AreGoing back m.view old new next
    answered_going s next (taken_request q) reply records h low going = next_going s next q records h.asked h.asks h.answer h.change h.decides h.next low going
    answered_going s next refused reply records h low going = (records, subst (AreGoing back m.view old records) (sym h.1) going)

    steps_going : (s : State) (xs : List Exchange) (after : State) (records : List Item) → Steps m s xs after → ((item : Item) → Contains old item → item.revision ≤ s.revision) → AreGoing back m.view old records s
        → (new : List Item) × AreGoing back m.view old new after
    steps_going s [] after records h low going = (records, subst (AreGoing back m.view old records) (sym h) going)
    steps_going s (x ∷ xs) after records h low going =
        let first = answered_going s h.0 x.item x.reply records h.1 low going in
        let rises = answered_later m s h.0 x.item x.reply h.1 in
        steps_going h.0 xs after first.0 h.2 (λ item there. let below = low item there in omega (arith, below, rises)) first.1

    from_start : (revision : ℕ) (s : State) → AreInKeyOrder old → StandForBoth back m.view old revision s → AreGoing back m.view old old s
    from_start revision s order both =
        let at : revision ≡ s.revision = sym both.later.at_revision in
        record {
          order = order;
          stand = subst (λ (n : ℕ). StandForBoth back m.view old n s) at both;
          kept = subst (λ (n : ℕ). AreKept back.versions m.view.versions old s old n) at (keeps.unchanged old revision s order both.later);
        }

    low_start : (revision : ℕ) (s : State) → AreWithin old revision → StandForBoth back m.view old revision s → (item : Item) → Contains old item → item.revision ≤ s.revision
    low_start revision s within both item there = let low = within item there in let at = both.later.at_revision in omega (arith, low, at)

    pub going_after : (revision : ℕ) (s after : State) (xs : List Exchange) → AreInKeyOrder old → AreWithin old revision → StandForBoth back m.view old revision s → Steps m s xs after
        → (new : List Item) × AreGoing back m.view old new after
    going_after revision s after xs order within both h = steps_going s xs after old h (low_start revision s within both) (from_start revision s order both)

module _ (back : Viewed) (m : Machine) (finds : FindsEach m.view.versions) (kept : IsKept m.view) (live_read : ReadsLiveOf back m.view) (texts : ServedHaveTexts back.versions m.view.versions) (goes : GoesOnStanding back m.view)
    (keeps : KeepsRecords back m.view) where
  pub kept_after_steps : AreKeptAfterSteps back m
  kept_after_steps = λ history one old revision s after xs order within both h.
      let going = going_after back m history one finds kept live_read texts goes keeps old revision s after xs order within both h in
      (going.0, going.1.kept)

  pub kept_go_on_standing : KeptGoOnStanding back m
  kept_go_on_standing = λ history one old new revision later s after xs order within both h is_kept.
      let going = going_after back m history one finds kept live_read texts goes keeps old revision s after xs order within both h in
      let same = keeps.once old going.0 new after after.revision later going.1.kept is_kept in
      subst (λ (n : ℕ). StandForBoth back m.view new n after) same.1 (subst (λ (items : List Item). StandForBoth back m.view items after.revision after) same.0 going.1.stand)
