-- What is looked up among known versions.
use Rattle.std.proofs.Common.{◌≡◌, ◌↔◌, ℕ, ◌&&◌, Bool, true, false, IsTrue, Option, Some, None, List, [], ◌∷◌, get_or, Less, Equal, Greater, Ordering, All, Contains, refl, sym, ◌∙◌, ap, subst, cond}
use Rattle.std.specs.Prelude.{find, IsSome, option_map, option_and_then}
use Rattle.std.specs.Option.{is_some}
use Rattle.std.specs.Str.{bytes_eq}
use Rattle.std.specs.Cmp.Lexicographic.{slice_cmp}
use Rattle.std.specs.Ordering.{nat_cmp, ordering_then}
use Rattle.std.proofs.lemmas.Bool.{and_parts, and_from, both_ways, false≢true, false_from_ne_true}
use Rattle.std.proofs.lemmas.Cmp.{tied_itself, nat_list_cmp_total}
use Rattle.std.proofs.lemmas.List.Elements.{All-cons, All-contains, All-from_recursion}
use Rattle.std.proofs.lemmas.Map.Keys.{sorted_head, sorted_tail}
use Rattle.std.proofs.lemmas.Slice.Eq.{bytes_eq-Decides}
use Rattle.basis.proofs.NameLemmas.{same_bytes}
use Rattle.fields.specs.declared.table.VersionTable.{VersionTable}
use Rattle.lifecycle.specs.Entry.{GroupVersionResource}
use Rattle.lifecycle.specs.Names.{group_version}
use Rattle.lifecycle.specs.Stability.{by_stability}
use Rattle.lifecycle.specs.Tables.{decodable, live, warning}
use Rattle.lifecycle.proofs.WordLemmas.{word_text_injective}
use Rattle.row_index.specs.Laws.{AreRowsOf}
use Rattle.release_view.specs.Known.{Tables, Naming, name_of, naming, naming_in, deprecation, IsKnown, AreInPlace, AreKnown, Has, by_place}
use Rattle.release_view.specs.Order.{by_stability_total}
use Rattle.release_view.specs.Served.{shown, served_as, served_of}
use Rattle.release_view.specs.Views.{Viewed, has_name, is_shown_as, version_in, table_in, served_in, warning_in, is_live_of, has_live, has_version_text, is_of_kind, is_of_resource, IsBest, AreLive, IsOfKind, IsOfResource}
use Rattle.release_view.specs.Laws.{Tells, IsKindLive, IsTableIn, IsShownIn, IsBestIn}
use Rattle.release_view.specs.declared.known.KnownVersion.{KnownVersion}
use Rattle.release_view.specs.declared.served.ServedVersion.{ServedVersion}
use Rattle.release_view.proofs.ListLemmas.{found, finds, witness, some_is, some_from, some-find, given_of, gives}

equal_bytes : (a b : List ℕ) → bytes_eq a b ≡ true → a ≡ b
equal_bytes a b h = (bytes_eq-Decides a b).0 h

module _ (name : GroupVersionResource) (group version resource : List ℕ) where
  abbrev given : GroupVersionResource
  given = record { group = group; version = version; resource = resource }

  abbrev agrees : Bool
  agrees = bytes_eq group name.group && bytes_eq version name.version && bytes_eq resource name.resource

  named_so : agrees ≡ true → given ≡ name
  named_so h =
      let (front, r) = and_parts (bytes_eq group name.group && bytes_eq version name.version) (bytes_eq resource name.resource) h in
      let (g, v) = and_parts (bytes_eq group name.group) (bytes_eq version name.version) front in
      let p = equal_bytes group name.group g in
      let q = equal_bytes version name.version v in
      let s = equal_bytes resource name.resource r in
      λ i. record { group = p i; version = q i; resource = s i }

  so_named : given ≡ name → agrees ≡ true
  so_named h =
      and_from (bytes_eq group name.group && bytes_eq version name.version) (bytes_eq resource name.resource)
      (and_from (bytes_eq group name.group) (bytes_eq version name.version) (same_bytes group name.group (ap (λ n. n.group) h)) (same_bytes version name.version (ap (λ n. n.version) h)))
      (same_bytes resource name.resource (ap (λ n. n.resource) h))

pub named_of : (name : GroupVersionResource) (v : KnownVersion) → has_name name v ≡ true → name_of v ≡ name
named_of name v h = named_so name v.table.group v.table.version v.table.resource h

pub of_named : (name : GroupVersionResource) (v : KnownVersion) → name_of v ≡ name → has_name name v ≡ true
of_named name v h = so_named name v.table.group v.table.version v.table.resource h

-- ---- by name

module _ (versions : List KnownVersion) (name : GroupVersionResource) where
  pub version_there : Has versions name → (v : KnownVersion) × (version_in versions name ≡ Some v)
  version_there h = let (v, there, named) = witness (λ w. name_of w ≡ name) versions h in some_from (version_in versions name) (finds (has_name name) versions v there (of_named name v named))

  pub there_version : (v : KnownVersion) → version_in versions name ≡ Some v → Contains versions v × (name_of v ≡ name)
  there_version v h = let r = found (has_name name) versions v h in (r.0, named_of name v r.1)

-- what is found by its texts is of them
module _ (versions : List KnownVersion) (text : List ℕ) where
  pub found_kind : (kind : List ℕ) (v : KnownVersion) → find (is_of_kind text kind) versions ≡ Some v → IsOfKind text kind v.table
  found_kind kind v h =
      let (of, k) = and_parts (has_version_text text v) (bytes_eq v.table.kind kind) (found (is_of_kind text kind) versions v h).1 in
      record { of_text = equal_bytes (group_version v.table.group v.table.version) text of; of_kind = equal_bytes v.table.kind kind k }

  pub found_resource : (group resource : List ℕ) (v : KnownVersion) → find (is_of_resource text group resource) versions ≡ Some v → IsOfResource text group resource v.table
  found_resource group resource v h =
      let (front, r) = and_parts (has_version_text text v && bytes_eq v.table.group group) (bytes_eq v.table.resource resource) (found (is_of_resource text group resource) versions v h).1 in
      let (of, g) = and_parts (has_version_text text v) (bytes_eq v.table.group group) front in
      record {
        of_text = equal_bytes (group_version v.table.group v.table.version) text of;
        of_group = equal_bytes v.table.group group g;
        of_resource = equal_bytes v.table.resource resource r;
      }

some_option : {X Y : Type 0} (f : X → Y) (o : Option X) → IsSome (option_map f o) → (x : X) × (o ≡ Some x)
some_option f None h = absurd (false≢true h)
some_option f (Some x) h = (x, refl)

option_some : {X Y : Type 0} (f : X → Y) (o : Option X) (x : X) → o ≡ Some x → IsSome (option_map f o)
option_some f o x e = ap (λ o. is_some (option_map f o)) e

-- ---- served versions

served_one : (v : KnownVersion) (b : Bool) (s : ServedVersion) → v.served ≡ b → cond b (Some (shown v)) None ≡ Some s → IsTrue v.served × (shown v ≡ s)
served_one v true s e h = (e, (let f : Option ServedVersion → ServedVersion = λ o. elim o [ None ↦ s | Some z ↦ z ] in ap f h))
served_one v false s e h = absurd (let clash : None ≡ Some s = h in cc)

module _ (tables : Tables) (on_names : List GroupVersionResource) (versions : List KnownVersion) (known : AreKnown tables on_names versions) where
  is_known : (v : KnownVersion) → Contains versions v → IsKnown tables on_names v
  is_known v there = (known.exact v).0 there

  table_tells : (name : GroupVersionResource) → IsSome (table_in versions name) ↔ (decodable tables.apis name ≡ true)
  table_tells name = (
    λ h.
        let (v, e) = some_option (λ (v : KnownVersion). v.table) (version_in versions name) h in
        let (there, named) = there_version versions name v e in
        subst (λ n. decodable tables.apis n ≡ true) named (is_known v there).decodes,
    λ h. let (v, e) = version_there versions name (known.each_decodable name h) in option_some (λ (v : KnownVersion). v.table) (version_in versions name) v e,
  )

  served_tells : ((name : GroupVersionResource) → Contains on_names name → live tables.apis name ≡ true) → (name : GroupVersionResource) → IsSome (served_in versions name) ↔ Contains on_names name
  served_tells lives name = (
    λ h.
        let (s, e) = some_from (served_in versions name) h in
        let (there, passes) = found (is_shown_as name) (served_of versions) s e in
        let (v, among, as_shown) = given_of served_as versions s there in
        let (serves, is_shown) = served_one v v.served s refl as_shown in
        let named : name_of v ≡ name = (λ i. record { group = (is_shown i).group; version = (is_shown i).version; resource = (is_shown i).resource }) ∙ named_so name s.group s.version s.resource passes in
        subst (Contains on_names) named ((is_known v among).is_served.0 serves),
    λ h.
        let (v, e) = version_there versions name (known.each_live name (lives name h)) in
        let (among, named) = there_version versions name v e in
        let serves : v.served ≡ true = (is_known v among).is_served.1 (subst (Contains on_names) (sym named) h) in
        let listed = gives served_as versions (shown v) v among (ap (λ b. cond b (Some (shown v)) None) serves) in
        finds (is_shown_as name) (served_of versions) (shown v) listed (so_named name v.table.group v.table.version v.table.resource named),
  )

  warned_by : (name : GroupVersionResource) (o : Option KnownVersion) → version_in versions name ≡ o → option_and_then (λ v. option_map deprecation v.warning) o ≡ warning tables.apis name
  warned_by name (Some v) e = let (among, named) = there_version versions name v e in (is_known v among).warned ∙ ap (warning tables.apis) named
  warned_by name None e =
      let not_live : live tables.apis name ≡ false = false_from_ne_true (live tables.apis name) (λ h. let (v, there) = version_there versions name (known.each_live name h) in let clash : None ≡ Some v = sym e ∙ there in cc) in
      rw not_live refl

  warning_tells : (name : GroupVersionResource) → warning_in versions name ≡ warning tables.apis name
  warning_tells name = warned_by name (version_in versions name) refl

  kind_tells : (group resource : List ℕ) → (has_live versions group resource ≡ true) ↔ IsKindLive tables.apis group resource
  kind_tells group resource = (
    λ h.
        let (v, e) = some_from (find (is_live_of group resource) versions) (some-find (is_live_of group resource) versions ∙ h) in
        let (among, passes) = found (is_live_of group resource) versions v e in
        let (front, r) = and_parts (v.live && bytes_eq v.table.group group) (bytes_eq v.table.resource resource) passes in
        let (is_live, g) = and_parts v.live (bytes_eq v.table.group group) front in
        let p = equal_bytes v.table.group group g in
        let q = equal_bytes v.table.resource resource r in
        let named : name_of v ≡ record { group = group; version = v.table.version; resource = resource } = λ i. record { group = p i; version = v.table.version; resource = q i } in
        (v.table.version, ap (live tables.apis) (sym named) ∙ sym (is_known v among).is_live ∙ is_live),
    λ h.
        let name : GroupVersionResource = record { group = group; version = h.0; resource = resource } in
        let (v, e) = version_there versions name (known.each_live name h.1) in
        let (among, named) = there_version versions name v e in
        let is_live : v.live ≡ true = (is_known v among).is_live ∙ ap (live tables.apis) named ∙ h.1 in
        let passes : is_live_of group resource v ≡ true =
        and_from (v.live && bytes_eq v.table.group group) (bytes_eq v.table.resource resource)
        (and_from v.live (bytes_eq v.table.group group) is_live (same_bytes v.table.group group (ap (λ n. n.group) named)))
        (same_bytes v.table.resource resource (ap (λ n. n.resource) named)) in
        sym (some-find (is_live_of group resource) versions) ∙ finds (is_live_of group resource) versions v among passes,
  )

  introduced_as : (name : GroupVersionResource) (v : KnownVersion) → version_in versions name ≡ Some v → naming tables.apis name ≡ Some (naming_in v)
  introduced_as name v e = let (among, named) = there_version versions name v e in sym (ap (naming tables.apis) named) ∙ (is_known v among).named_as

  is_table : (name : GroupVersionResource) (t : VersionTable) (v : KnownVersion) → version_in versions name ≡ Some v → v.table ≡ t → IsTableIn tables name t
  is_table name t v e same =
      let (among, named) = there_version versions name v e in
      subst (λ (u : VersionTable). IsTableIn tables name u) same (record {
        named = named;
        kind = ap (option_map (λ (n : Naming). n.kind)) (introduced_as name v e);
        rows = subst (λ n. AreRowsOf tables.source n v.table.rows) named (is_known v among).rows;
      })

  the_table : (name : GroupVersionResource) (t : VersionTable) (o : Option KnownVersion) → version_in versions name ≡ o → option_map (λ (v : KnownVersion). v.table) o ≡ Some t → IsTableIn tables name t
  the_table name t None e h = absurd (let clash : None ≡ Some t = h in cc)
  the_table name t (Some v) e h = is_table name t v e (some_is v.table t h)

  -- the version of which a served one is shown
  shown_of : (name : GroupVersionResource) (s : ServedVersion) → served_in versions name ≡ Some s → (v : KnownVersion) × Contains versions v × IsTrue v.served × (shown v ≡ s) × (name_of v ≡ name)
  shown_of name s e =
      let (there, passes) = found (is_shown_as name) (served_of versions) s e in
      let (v, among, as_shown) = given_of served_as versions s there in
      let (serves, is_shown) = served_one v v.served s refl as_shown in
      let named : name_of v ≡ name = (λ i. record { group = (is_shown i).group; version = (is_shown i).version; resource = (is_shown i).resource }) ∙ named_so name s.group s.version s.resource passes in
      (v, among, serves, is_shown, named)

  the_shown : (name : GroupVersionResource) (s : ServedVersion) → served_in versions name ≡ Some s → IsShownIn tables name s
  the_shown name s e =
      let (v, among, serves, is_shown, named) = shown_of name s e in
      subst (λ (u : ServedVersion). IsShownIn tables name u) is_shown (record {
        named = named;
        naming = sym (ap (naming tables.apis) named) ∙ (is_known v among).named_as;
      })

-- ---- the most stable

less_words : (o p q : Ordering) → o ≡ Equal → ordering_then (ordering_then o p) q ≡ Less → p ≡ Greater → ⊥
less_words Equal Less q tied less e = let clash : Less ≡ Greater = e in cc
less_words Equal Equal q tied less e = let clash : Equal ≡ Greater = e in cc
less_words Equal Greater q tied less e = let clash : Greater ≡ Less = less in cc
less_words Less p q tied less e = let clash : Less ≡ Equal = tied in cc
less_words Greater p q tied less e = let clash : Greater ≡ Equal = tied in cc

module _ (group resource : List ℕ) where
  pub of_resource : (v : KnownVersion) → is_live_of group resource v ≡ true → (v.table.group ≡ group) × (v.table.resource ≡ resource)
  of_resource v h =
      let (front, r) = and_parts (v.live && bytes_eq v.table.group group) (bytes_eq v.table.resource resource) h in
      (equal_bytes v.table.group group (and_parts v.live (bytes_eq v.table.group group) front).1, equal_bytes v.table.resource resource r)

  group_of : (v : KnownVersion) → is_live_of group resource v ≡ true → v.table.group ≡ group
  group_of v h =
      let (front, r) = and_parts (v.live && bytes_eq v.table.group group) (bytes_eq v.table.resource resource) h in
      let (is_live, g) = and_parts v.live (bytes_eq v.table.group group) front in
      equal_bytes v.table.group group g

  behind : (v w : KnownVersion) → is_live_of group resource v ≡ true → by_place v w ≡ Less → is_live_of group resource w ≡ true → by_stability v.word w.word ≡ Greater → ⊥
  behind v w p less q worse =
      let tied : slice_cmp nat_cmp v.table.group w.table.group ≡ Equal = ap (slice_cmp nat_cmp v.table.group) (group_of w q ∙ sym (group_of v p)) ∙ tied_itself nat_list_cmp_total v.table.group in
      less_words _ _ _ tied less worse

  first_best_at : (x : KnownVersion) (xs : List KnownVersion) (v : KnownVersion) (b : Bool) → is_live_of group resource x ≡ b → AreInPlace (x ∷ xs) → cond b (Some x) (find (is_live_of group resource) xs) ≡ Some v
      → (find (is_live_of group resource) xs ≡ Some v → All (λ w. is_live_of group resource w ≡ true → by_stability v.word w.word ≡ Greater → ⊥) xs) → All (λ w. is_live_of group resource w ≡ true → by_stability v.word w.word ≡ Greater → ⊥) (x ∷ xs)
  first_best_at x xs v true e rise h later =
      let same : x ≡ v = (let f : Option KnownVersion → KnownVersion = λ o. elim o [ None ↦ x | Some z ↦ z ] in ap f h) in
      let passes : is_live_of group resource v ≡ true = ap (is_live_of group resource) (sym same) ∙ e in
      All-cons (λ w. is_live_of group resource w ≡ true → by_stability v.word w.word ≡ Greater → ⊥) x xs
      (λ q worse. let tied : by_stability v.word x.word ≡ Equal = ap (λ (w : KnownVersion). by_stability v.word w.word) same ∙ tied_itself by_stability_total v.word in let clash : Equal ≡ Greater = sym tied ∙ worse in cc)
      (λ k d below. λ q worse.
      let w : KnownVersion = get_or xs k d in
      behind v w passes (ap (λ z. by_place z w) (sym same) ∙ All-from_recursion (λ y. by_place x y ≡ Less) xs (sorted_head by_place x xs rise) k d below) q worse)
  first_best_at x xs v false e rise h later =
      All-cons (λ w. is_live_of group resource w ≡ true → by_stability v.word w.word ≡ Greater → ⊥) x xs (λ q worse. both_ways (is_live_of group resource x) e q) (later h)

  first_best : (versions : List KnownVersion) (v : KnownVersion) → AreInPlace versions → find (is_live_of group resource) versions ≡ Some v → All (λ w. is_live_of group resource w ≡ true → by_stability v.word w.word ≡ Greater → ⊥) versions
  first_best [] v rise h = absurd (let clash : None ≡ Some v = h in cc)
  first_best (x ∷ xs) v rise h = first_best_at x xs v (is_live_of group resource x) refl rise h (λ later. first_best xs v (sorted_tail by_place x xs rise) later)

  -- the first of the live versions is the most stable
  pub best_first : (versions : List KnownVersion) (v : KnownVersion) → AreInPlace versions → find (is_live_of group resource) versions ≡ Some v → IsBest versions group resource v
  best_first versions v rise h = let r = found (is_live_of group resource) versions v h in record { among = r.0; is_live = r.1; best = first_best versions v rise h }

module _ (tables : Tables) (on_names : List GroupVersionResource) (versions : List KnownVersion) (known : AreKnown tables on_names versions) where
  lives_in : (name : GroupVersionResource) → live tables.apis name ≡ true → (v : KnownVersion) × Contains versions v × (name_of v ≡ name) × (v.live ≡ true)
  lives_in name h =
      let (v, e) = version_there versions name (known.each_live name h) in
      let (among, named) = there_version versions name v e in
      (v, among, named, ((known.exact v).0 among).is_live ∙ ap (live tables.apis) named ∙ h)

  is_best : (group resource : List ℕ) (v : KnownVersion) → find (is_live_of group resource) versions ≡ Some v → IsBestIn tables.apis group resource v.table
  is_best group resource v e =
      let best = best_first group resource versions v known.order e in
      let (g, r) = of_resource group resource v best.is_live in
      let is = (known.exact v).0 best.among in
      let is_live : v.live ≡ true = (and_parts v.live (bytes_eq v.table.group group) (and_parts (v.live && bytes_eq v.table.group group) (bytes_eq v.table.resource resource) best.is_live).0).0 in
      record {
        of_group = g;
        of_resource = r;
        best = record {
          is_live = sym is.is_live ∙ is_live;
          stable = λ other same_group same_resource lives word other_word text other_text.
              let (w, also, named, w_live) = lives_in other lives in
              let there = (known.exact w).0 also in
              let own : v.word ≡ word = word_text_injective v.word word is.lawful text.0 (sym is.spelled ∙ text.1) in
              let others : w.word ≡ other_word = word_text_injective w.word other_word there.lawful other_text.0 (sym there.spelled ∙ ap (λ n. n.version) named ∙ other_text.1) in
              let passes : is_live_of group resource w ≡ true =
              and_from (w.live && bytes_eq w.table.group group) (bytes_eq w.table.resource resource)
              (and_from w.live (bytes_eq w.table.group group) w_live (same_bytes w.table.group group (ap (λ n. n.group) named ∙ same_group ∙ g)))
              (same_bytes w.table.resource resource (ap (λ n. n.resource) named ∙ same_resource ∙ r)) in
              λ worse. All-contains (λ (u : KnownVersion). is_live_of group resource u ≡ true → by_stability v.word u.word ≡ Greater → ⊥) versions w best.best also passes (ap (λ a. by_stability a w.word) own ∙ ap (by_stability word) others ∙ worse);
        };
      }

  the_best : (group resource : List ℕ) (t : VersionTable) (o : Option KnownVersion) → find (is_live_of group resource) versions ≡ o → option_map (λ (v : KnownVersion). v.table) o ≡ Some t → IsBestIn tables.apis group resource t
  the_best group resource t None e h = absurd (let clash : None ≡ Some t = h in cc)
  the_best group resource t (Some v) e h = subst (λ (u : VersionTable). IsBestIn tables.apis group resource u) (some_is v.table t h) (is_best group resource v e)

pub tells : (tables : Tables) (on_names : List GroupVersionResource) (view : Viewed) → AreKnown tables on_names view.versions → AreLive tables.apis on_names → Tells tables on_names view
tells tables on_names view known lives = record {
  decodes = table_tells tables on_names view.versions known;
  tables = λ name t e. the_table tables on_names view.versions known name t (version_in view.versions name) refl e;
  serves = served_tells tables on_names view.versions known lives;
  shows = the_shown tables on_names view.versions known;
  warned = warning_tells tables on_names view.versions known;
  kinds = kind_tells tables on_names view.versions known;
  best = λ group resource t e. the_best tables on_names view.versions known group resource t (find (is_live_of group resource) view.versions) refl e;
}
