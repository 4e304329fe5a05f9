-- What the type of a view keeps, and that each of its versions is the one that is found.
use Rattle.std.proofs.Common.{◌≡◌, ◌≢◌, ℕ, Bool, true, Some, List, [], ◌∷◌, ◌++◌, ◌&&◌, Ordering, Less, Equal, Greater, Contains, refl, sym, ◌∙◌, ap}
use Rattle.std.specs.Prelude.{find, option_map, codes}
use Rattle.std.specs.Cmp.Lexicographic.{slice_cmp}
use Rattle.std.specs.Ordering.{nat_cmp, ordering_then, ordering_reverse}
use Rattle.std.specs.Str.{bytes_eq}
use Rattle.std.proofs.lemmas.Bool.{and_parts, and_from}
use Rattle.std.proofs.lemmas.Cmp.{tied_itself, nat_list_cmp_total}
use Rattle.std.proofs.lemmas.List.{append_cancel_left}
use Rattle.std.proofs.lemmas.List.Elements.{All-contains, All-contains_itself, All-weaker}
use Rattle.std.proofs.lemmas.Slice.Eq.{bytes_eq-Decides}
use Rattle.basis.proofs.NameLemmas.{same_bytes}
use Rattle.basis.proofs.OrderLemmas.{one_tied}
use Rattle.gate_flags.specs.Values.{AreInOrder}
use Rattle.lifecycle.specs.Entry.{GroupVersionResource}
use Rattle.lifecycle.specs.Names.{group_version}
use Rattle.lifecycle.specs.Stability.{by_stability}
use Rattle.lifecycle.proofs.WordLemmas.{word_text_injective}
use Rattle.release_view.specs.Kept.{IsKept, IsSpelled}
use Rattle.release_view.specs.Known.{Tables, name_of, by_place, IsKnown, AreKnown}
use Rattle.release_view.specs.Laws.{FindsEach}
use Rattle.release_view.specs.Order.{by_place_total, by_stability_total}
use Rattle.release_view.specs.Spelling.{HaveLawfulTables, SpellAlike}
use Rattle.release_view.specs.Views.{Viewed, AreLive, has_name, version_in, has_version_text, is_of_resource, is_live_of, IsBest}
use Rattle.release_view.specs.declared.known.KnownVersion.{KnownVersion}
use Rattle.release_view.proofs.ListLemmas.{found, finds, some_from}
use Rattle.release_view.proofs.LookupLemmas.{named_of, of_named, of_resource, best_first}

-- ---- what is kept

module _ (tables : Tables) (on_names : List GroupVersionResource) (view : Viewed) (known : AreKnown tables on_names view.versions) where
  is_known : (v : KnownVersion) → Contains view.versions v → IsKnown tables on_names v
  is_known v there = (known.exact v).0 there

  pub is_kept : AreLive tables.apis on_names → HaveLawfulTables view.versions → SpellAlike view.versions → AreInOrder view.gates → IsKept view
  is_kept lives lawful alike gates = record {
    order = known.order;
    spelled = All-weaker (Contains view.versions) IsSpelled (λ v there. let is = is_known v there in record { lawful = is.lawful; text = is.spelled }) view.versions (All-contains_itself view.versions);
    live = All-weaker (Contains view.versions) (λ v. v.served ≡ true → v.live ≡ true)
        (λ v there serves. let is = is_known v there in is.is_live ∙ lives (name_of v) (is.is_served.0 serves)) view.versions (All-contains_itself view.versions);
    lawful = lawful;
    alike = alike;
    gates = gates;
  }

-- ---- each version is found

three_tied : (o p q : Ordering) → o ≡ Equal → p ≡ Equal → q ≡ Equal → ordering_then (ordering_then o p) q ≡ Equal
three_tied o p q a b c = rw (a, b, c) refl

same_text : (group version other : List ℕ) → group_version group version ≡ group_version group other → version ≡ other
same_text [] version other h = h
same_text (c ∷ cs) version other h = append_cancel_left ((c ∷ cs) ++ codes "/") version other h

text_within : (group other_group version other : List ℕ) → group ≡ other_group → group_version group version ≡ group_version other_group other → version ≡ other
text_within group other_group version other same h = same_text group version other (h ∙ ap (λ g. group_version g other) (sym same))

equal_bytes : (a b : List ℕ) → bytes_eq a b ≡ true → a ≡ b
equal_bytes a b h = (bytes_eq-Decides a b).0 h

tied_by : (o p : Ordering) → o ≢ Greater → p ≢ Greater → p ≡ ordering_reverse o → o ≡ Equal
tied_by Less p a b e = absurd (b e)
tied_by Equal p a b e = refl
tied_by Greater p a b e = absurd (a refl)

module _ (view : Viewed) (kept : IsKept view) where
  abbrev versions : List KnownVersion
  versions = view.versions

  spelled : (v : KnownVersion) → Contains versions v → IsSpelled v
  spelled v there = All-contains IsSpelled versions v kept.spelled there

  same_at : (v w : KnownVersion) → Contains versions v → Contains versions w → v.table.group ≡ w.table.group → by_stability v.word w.word ≡ Equal → v.table.resource ≡ w.table.resource → v ≡ w
  same_at v w there also g words r =
      one_tied by_place by_place_total versions v w kept.order there also
      (three_tied (slice_cmp nat_cmp v.table.group w.table.group) (by_stability v.word w.word) (slice_cmp nat_cmp v.table.resource w.table.resource)
      (ap (slice_cmp nat_cmp v.table.group) (sym g) ∙ tied_itself nat_list_cmp_total v.table.group) words
      (ap (slice_cmp nat_cmp v.table.resource) (sym r) ∙ tied_itself nat_list_cmp_total v.table.resource))

  pub same_named : (v w : KnownVersion) → Contains versions v → Contains versions w → v.table.group ≡ w.table.group → v.table.version ≡ w.table.version → v.table.resource ≡ w.table.resource → v ≡ w
  same_named v w there also g t r =
      let p = spelled v there in
      let q = spelled w also in
      let word : v.word ≡ w.word = word_text_injective v.word w.word p.lawful q.lawful (sym p.text ∙ t ∙ q.text) in
      same_at v w there also g (ap (by_stability v.word) (sym word) ∙ tied_itself by_stability_total v.word) r

  found_by_name : (v : KnownVersion) → Contains versions v → version_in versions (name_of v) ≡ Some v
  found_by_name v there =
      let (w, is) = some_from (version_in versions (name_of v)) (finds (has_name (name_of v)) versions v there (of_named (name_of v) v refl)) in
      let (also, passes) = found (has_name (name_of v)) versions w is in
      let named = named_of (name_of v) w passes in
      is ∙ ap Some (same_named w v also there (ap (λ n. n.group) named) (ap (λ n. n.version) named) (ap (λ n. n.resource) named))

  abbrev of_text : KnownVersion → KnownVersion → Bool
  of_text v = is_of_resource (group_version v.table.group v.table.version) v.table.group v.table.resource

  parts : (v w : KnownVersion) → of_text v w ≡ true → (group_version w.table.group w.table.version ≡ group_version v.table.group v.table.version) × (w.table.group ≡ v.table.group) × (w.table.resource ≡ v.table.resource)
  parts v w h =
      let (front, r) = and_parts (has_version_text (group_version v.table.group v.table.version) w && bytes_eq w.table.group v.table.group) (bytes_eq w.table.resource v.table.resource) h in
      let (t, g) = and_parts (has_version_text (group_version v.table.group v.table.version) w) (bytes_eq w.table.group v.table.group) front in
      (equal_bytes _ _ t, equal_bytes w.table.group v.table.group g, equal_bytes w.table.resource v.table.resource r)

  own_text : (v : KnownVersion) → of_text v v ≡ true
  own_text v =
      and_from (has_version_text (group_version v.table.group v.table.version) v && bytes_eq v.table.group v.table.group) (bytes_eq v.table.resource v.table.resource)
      (and_from (has_version_text (group_version v.table.group v.table.version) v) (bytes_eq v.table.group v.table.group) (same_bytes (group_version v.table.group v.table.version) _ refl) (same_bytes v.table.group v.table.group refl))
      (same_bytes v.table.resource v.table.resource refl)

  found_by_text : (v : KnownVersion) → Contains versions v → find (of_text v) versions ≡ Some v
  found_by_text v there =
      let (w, is) = some_from (find (of_text v) versions) (finds (of_text v) versions v there (own_text v)) in
      let (also, passes) = found (of_text v) versions w is in
      let (t, g, r) = parts v w passes in
      is ∙ ap Some (same_named w v also there g (text_within w.table.group v.table.group w.table.version v.table.version g t) r)

  found_best : (group resource : List ℕ) (v : KnownVersion) → IsBest versions group resource v → find (is_live_of group resource) versions ≡ Some v
  found_best group resource v best =
      let (w, is) = some_from (find (is_live_of group resource) versions) (finds (is_live_of group resource) versions v best.among best.is_live) in
      let other = best_first group resource versions w kept.order is in
      let (gw, rs) = of_resource group resource w other.is_live in
      let (gv, rv) = of_resource group resource v best.is_live in
      let words : by_stability w.word v.word ≡ Equal =
      tied_by (by_stability w.word v.word) (by_stability v.word w.word) (All-contains (λ (u : KnownVersion). is_live_of group resource u ≡ true → by_stability w.word u.word ≢ Greater) versions v other.best best.among best.is_live)
      (All-contains (λ (u : KnownVersion). is_live_of group resource u ≡ true → by_stability v.word u.word ≢ Greater) versions w best.best other.among other.is_live)
      (by_stability_total.antisymm v.word w.word) in
      is ∙ ap Some (same_at w v other.among best.among (gw ∙ sym gv) words (rs ∙ sym rv))

  pub finds_each : FindsEach versions
  finds_each = record {
    by_name = found_by_name;
    by_text = λ v there. ap (option_map (λ (w : KnownVersion). w.table)) (found_by_text v there);
    best = λ group resource v best. ap (option_map (λ (w : KnownVersion). w.table)) (found_best group resource v best);
  }
