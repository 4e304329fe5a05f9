-- Records that an earlier release reads stand under it for what it knows of a state.
use Rattle.std.proofs.Common.{◌≡◌, ◌↔◌, ℕ, true, List, [], ◌∷◌, ◌++◌, map, Some, Contains, refl, sym, ◌∙◌, ap, subst, bytes_eq, ◌+◌, ◌≤◌, arith}
use Rattle.std.specs.Prelude.{option_map, codes, filter}
use Rattle.std.specs.List.{list_any}
use Rattle.std.proofs.lemmas.List.{append_cancel_left}
use Rattle.conversion.proofs.FaultLemmas.{fits_alike}
use Rattle.conversion.proofs.LessLemmas.{reads_less}
use Rattle.conversion.proofs.ReadLemmas.{reads_as_one}
use Rattle.conversion.specs.Reading.{Reads}
use Rattle.conversion.specs.declared.mode.Mode.TheVariants.{Stored}
use Rattle.fields.specs.Fits.{Fits, has_id, restricted, AreOfSameFields}
use Rattle.fields.specs.declared.map.FieldPair.{FieldPair}
use Rattle.fields.specs.declared.table.FieldRow.{FieldRow}
use Rattle.fields.specs.declared.table.VersionTable.{VersionTable}
use Rattle.lifecycle.specs.Entry.{GroupVersionResource}
use Rattle.lifecycle.specs.Names.{group_version}
use Rattle.object_journal.specs.declared.key.Key.{Key}
use Rattle.object_state.specs.Objects.{Holds}
use Rattle.object_state.specs.State.{State}
use Rattle.object_state.specs.declared.object.Object.{Object}
use Rattle.object_store.specs.declared.item.Item.{Item}
use Rattle.release_view.specs.Known.{name_of, table_name}
use Rattle.release_view.specs.Later.{AreOfOneHistory, ReadsLive, ReadsLiveOf}
use Rattle.release_view.specs.Laws.{FindsEach}
use Rattle.release_view.specs.Spelling.{SpellAlike}
use Rattle.release_view.specs.Views.{Viewed, IsViewOf, IsViewByTexts, table_in, best_table_in, is_live_of, is_of_resource, IsOfResource}
use Rattle.release_view.specs.declared.known.KnownVersion.{KnownVersion}
use Rattle.release_view.proofs.ListLemmas.{some_is}
use Rattle.release_view.proofs.LookupLemmas.{of_resource}
use Rattle.schemas.specs.Dated.{Dated}
use Rattle.schemas.specs.Rules.{IsAccepted}
use Rattle.serde_json.specs.Data.{Data}
use Rattle.storage_version.specs.Bodies.{IsNamed, IsObjectRead, IsBodyRead}
use Rattle.storage_version.specs.Laws.{FitsStorage, MakeOneHistory, ReadsFitting, ReadsFittingStorage, StandsWhereReadable}
use Rattle.storage_version.specs.Standing.{IsLive, IsReadAs, HasRecord, StandsFor, AreReadable, known_object, known_of, known_part}
use Rattle.storage_version.proofs.KnownLemmas.{IsKnownAs, known_holds, known_order, known_objects, best_of_live, live_of_best}
use Rattle.storage_version.proofs.ReadLemmas.{known_by, named_version, named_text, one_tree}
use Rattle.storage_version.proofs.StandingLemmas.{stored_version}

-- ---- the storage version

pub fits_storage : (back versions : List KnownVersion) → SpellAlike versions → FitsStorage back versions
fits_storage back versions alike = λ v held table there fits stored.
    let w = stored_version back versions v.table.group v.table.resource table stored in
    subst (λ (t : VersionTable). Fits t.rows held) w.is
    (fits_alike v.table.rows w.version.table.rows held (alike v w.version there w.among (sym w.of_group) (sym w.of_resource)) fits)

pub reads_fitting_storage : (back versions : List KnownVersion) → ReadsFitting versions → ReadsFittingStorage back versions
reads_fitting_storage back versions fitting = λ group resource body held table read stored.
    let w = stored_version back versions group resource table stored in
    let of_group = subst (λ g. IsBodyRead versions g resource body held) (sym w.of_group) read in
    let of_both = subst (λ r. IsBodyRead versions w.version.table.group r body held) (sym w.of_resource) of_group in
    subst (λ (t : VersionTable). Fits t.rows held) w.is (fitting w.version body held w.among of_both)

-- ---- views that texts make

view_of : (h : Dated) (e : ℕ) (features config : List ℕ) (v : Viewed) → (by : IsViewByTexts h e features config v) → IsViewOf h v.minor v.gates by.on v
view_of h e features config v by = subst (λ n. IsViewOf h n v.gates by.on v) (sym by.viewed.of_minor) by.viewed

pub make_one_history : (h : Dated) → IsAccepted h → (back view : Viewed) → MakeOneHistory h back view
make_one_history h accepted back view = λ m e features config later_features later_config was is le near.
    let first : back.minor ≡ m = was.viewed.of_minor in
    let second : view.minor ≡ e = is.viewed.of_minor in
    record {
      accepted = accepted;
      back_on = was.on;
      of_back = view_of h m features config back was;
      on = is.on;
      of_view = view_of h e later_features later_config view is;
      not_above = omega (arith, first, second, le);
      near = omega (arith, first, second, near);
    }

-- ---- versions by their texts

same_text : (group version other : List ℕ) → group_version group version ≡ group_version group other → version ≡ other
same_text [] version other h = h
same_text (c ∷ cs) version other h = append_cancel_left ((c ∷ cs) ++ codes "/") version other h

-- a table of the resource by its version's text has one name in both releases
one_name : (group resource text : List ℕ) (a b : VersionTable) → IsOfResource text group resource a → IsOfResource text group resource b → table_name a ≡ table_name b
one_name group resource text a b p q =
    let groups = p.of_group ∙ sym q.of_group in
    let resources = p.of_resource ∙ sym q.of_resource in
    let texts : group_version a.group a.version ≡ group_version a.group b.version = p.of_text ∙ sym q.of_text ∙ ap (λ g. group_version g b.version) (sym groups) in
    let versions = same_text a.group a.version b.version texts in
    λ i. record { group = groups i; version = versions i; resource = resources i }

-- ---- rows of the same fields

has_id-ids : (rows : List FieldRow) (id : List ℕ) → has_id rows id ≡ list_any (λ (i : List ℕ). bytes_eq i id) (map (λ (row : FieldRow). row.id) rows)
has_id-ids [] id = refl
has_id-ids (row ∷ rows) id = rw (has_id-ids rows id) refl

same_restricted : (rows others : List FieldRow) (held : List FieldPair) → AreOfSameFields rows others → restricted rows held ≡ restricted others held
same_restricted rows others held same =
    let each : (id : List ℕ) → has_id rows id ≡ has_id others id = λ id. has_id-ids rows id ∙ ap (list_any (λ (i : List ℕ). bytes_eq i id)) same.ids ∙ sym (has_id-ids others id) in
    λ i. filter (λ (pair : FieldPair). each pair.id i) held

-- ---- what both read

module _ (back view : Viewed) (history : Dated) (one : AreOfOneHistory history back view) (finds_back : FindsEach back.versions) (finds_view : FindsEach view.versions) (alike : SpellAlike back.versions) (later : ReadsLive history back view) where
  table_at : (versions : List KnownVersion) → FindsEach versions → (v : KnownVersion) (t : VersionTable) → Contains versions v → v.table ≡ t → table_in versions (table_name t) ≡ Some t
  table_at versions finds v t there is =
      subst (λ (u : VersionTable). table_in versions (table_name u) ≡ Some u) is (ap (option_map (λ (w : KnownVersion). w.table)) (finds.by_name v there))

  -- the earlier release reads of a body what it knows of that which the later one reads
  less_read : (group resource body : List ℕ) (held less : List FieldPair) (best : VersionTable) → best_table_in back.versions group resource ≡ Some best
      → IsBodyRead view.versions group resource body held → IsBodyRead back.versions group resource body less → restricted best.rows held ≡ less
  less_read group resource body held less best is a b =
      let x : IsObjectRead view.versions group resource b.tree held = subst (λ (d : Data). IsObjectRead view.versions group resource d held) (one_tree body a.tree b.tree a.text b.text) a.object in
      let y = b.object in
      let (v, v_there, v_is, v_group, v_resource) = named_version view.versions group resource b.tree x.table x.named in
      let (w, w_there, w_is, w_group, w_resource) = named_version back.versions group resource b.tree y.table y.named in
      let text : x.named.version ≡ y.named.version = some_is x.named.version y.named.version (sym x.named.versioned ∙ y.named.versioned) in
      let newer = named_text view.versions group resource b.tree x.table x.named in
      let older = named_text back.versions group resource b.tree y.table y.named in
      let names : table_name x.table ≡ table_name y.table = one_name group resource y.named.version x.table y.table (subst (λ t. IsOfResource t group resource x.table) text newer) older in
      let found : table_in view.versions (table_name y.table) ≡ Some x.table = subst (λ (n : GroupVersionResource). table_in view.versions n ≡ Some x.table) names (table_at view.versions finds_view v x.table v_there v_is) in
      let rows = later.rows (table_name y.table) y.table x.table (table_at back.versions finds_back w y.table w_there w_is) found in
      let read = reads_less y.table.rows x.table.rows rows.less b.tree held x.reads in
      let (u, u_there, u_passes, u_is) = known_by (is_live_of group resource) back.versions best is in
      let of = of_resource group resource u u_passes in
      let same : AreOfSameFields best.rows y.table.rows = subst (λ (t : VersionTable). AreOfSameFields t.rows y.table.rows) u_is (subst (λ (t : VersionTable). AreOfSameFields u.table.rows t.rows) w_is
      (alike u w u_there w_there (of.0 ∙ sym w_group) (of.1 ∙ sym w_resource))) in
      same_restricted best.rows y.table.rows held same ∙ reads_as_one Stored y.table.rows b.tree (restricted y.table.rows held) less read y.reads

  module _ (items : List Item) (revision : ℕ) (state : State) (stands : StandsFor items revision view.versions state) (readable : AreReadable back.versions items) where
    -- what is read of a record under both
    both_read : (item : Item) (t : VersionTable) (whole object : Object) → best_table_in back.versions item.key.group item.key.resource ≡ Some t → IsReadAs view.versions item whole → IsReadAs back.versions item object → known_object t whole ≡ object
    both_read item t whole object best p q =
        let created = p.created ∙ sym q.created in
        let at = p.revision ∙ sym q.revision in
        let fields = less_read item.key.group item.key.resource item.body whole.fields object.fields t best p.fields q.fields in
        λ i. record { created = created i; revision = at i; fields = fields i }

    record_known : (key : Key) (object : Object) → Holds (known_objects back.versions state.objects) key object → HasRecord items back.versions key object
    record_known key object there =
        let (whole, holds, known) = (known_holds back.versions state.objects key object).0 there in
        let t : VersionTable = known.0 in
        let r = (stands.exact key whole).0 holds in
        let live : IsLive back.versions key = live_of_best back.versions key.group key.resource t known.1 in
        let read = readable r.item r.among (subst (IsLive back.versions) (sym r.of_key) live) in
        let less : Object = record { created = r.item.created; revision = r.item.revision; fields = read.0 } in
        let is : IsReadAs back.versions r.item less = record { created = refl; revision = refl; fields = read.1 } in
        let best = subst (λ (k : Key). best_table_in back.versions k.group k.resource ≡ Some t) (sym r.of_key) known.1 in
        record {
          item = r.item;
          among = r.among;
          of_key = r.of_key;
          live = live;
          read = subst (IsReadAs back.versions r.item) (sym (both_read r.item t whole less best r.read is) ∙ known.2) is;
        }

    known_record : (key : Key) (object : Object) → HasRecord items back.versions key object → Holds (known_objects back.versions state.objects) key object
    known_record key object r =
        let live : IsLive view.versions key = later.kinds key.group key.resource r.live in
        let read = stands.readable r.item r.among (subst (IsLive view.versions) (sym r.of_key) live) in
        let whole : Object = record { created = r.item.created; revision = r.item.revision; fields = read.0 } in
        let is : IsReadAs view.versions r.item whole = record { created = refl; revision = refl; fields = read.1 } in
        let holds = (stands.exact key whole).1 (record { item = r.item; among = r.among; of_key = r.of_key; live = live; read = is }) in
        let best = best_of_live back.versions key.group key.resource r.live in
        let at = subst (λ (k : Key). best_table_in back.versions k.group k.resource ≡ Some best.0) (sym r.of_key) best.1 in
        (known_holds back.versions state.objects key object).1 (whole, holds, (best.0, best.1, both_read r.item best.0 whole object at is r.read))

    pub known_stands : StandsFor items revision back.versions (known_part back.versions state)
    known_stands = record {
      order = known_order back.versions state.objects stands.order;
      readable = readable;
      exact = λ key object. (record_known key object, known_record key object);
      counted = stands.counted;
      at_revision = stands.at_revision;
    }

pub stands_where_readable : (back view : Viewed) → FindsEach back.versions → FindsEach view.versions → SpellAlike back.versions → ReadsLiveOf back view → StandsWhereReadable back view
stands_where_readable back view finds_back finds_view alike later = λ history one items revision state stands readable.
    known_stands back view history one finds_back finds_view alike (later history one) items revision state stands readable
