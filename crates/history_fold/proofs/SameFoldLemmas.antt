-- At a release from the floor on a folded history has the tables of the whole one.
use Rattle.std.proofs.Common.{ℕ, ◌≡◌, ◌↔◌, ◌≤◌, ◌&&◌, not, List, Bool, true, false, Option, None, Contains, refl, sym, ap, subst, ◌∙◌, arith, inl, inr}
use Rattle.std.specs.Prelude.{nat_le, Any, IfSome, IsTrue, cond}
use Rattle.std.specs.Option.{is_some, option_and_then}
use Rattle.std.proofs.lemmas.Bool.{cases_Bool, and_parts, not_from_true, false_from_ne_true, false≢true}
use Rattle.basis.proofs.ElementLemmas.{Any-from, Any-weaker}
use Rattle.basis.proofs.FilterLemmas.{Contains-filter, Contains-from_filter, passes_from_filter}
use Rattle.fields.specs.declared.field.Field.{Field}
use Rattle.fields.specs.declared.field.Spell.{Spell}
use Rattle.fields.specs.declared.table.FieldRow.{FieldRow}
use Rattle.gate_flags.specs.Values.{Gates, HasValue}
use Rattle.gate_spec.specs.Gates.{cutoff as gate_cutoff}
use Rattle.gate_spec.specs.Same.{AreSameGates}
use Rattle.lifecycle.specs.Entry.{GroupVersionResource, subject}
use Rattle.lifecycle.specs.Same.{introduction_of, introduced_as, AreSameVersions}
use Rattle.lifecycle.specs.Tables.{cutoff, is_of, is_introduction, is_deprecation, is_removal, is_forgetting, first_change, has_change, live, decodable, deprecation_of, warning}
use Rattle.lifecycle.specs.declared.entry.ApiChange.{ApiChange}
use Rattle.lifecycle.specs.declared.entry.ApiEntry.{ApiEntry}
use Rattle.lifecycle.proofs.TableLemmas.{first_change-cutoff, live_dated, subject_is}
use Rattle.release_view.specs.Same.{HaveSameTables, SpeaksOf}
use Rattle.release_view.proofs.SameViewLemmas.{same_views, same_texts}
use Rattle.row_index.specs.Laws.{AreRowsOf, source_at}
use Rattle.schemas.specs.ApiRules.{IsForgotten}
use Rattle.schemas.specs.Cutoff.{cutoff as history_cutoff, fields_by, spells_by}
use Rattle.schemas.specs.Dated.{Dated}
use Rattle.schemas.specs.Pairs.{IsOfVersion, IsSpelling}
use Rattle.schemas.specs.Rows.{IsSpelledAs, IsRow, AreRows}
use Rattle.schemas.specs.Rules.{IsAccepted, first_of, last_of}
use Rattle.schemas.proofs.DecodableLemmas.{decodable_dated}
use Rattle.history_cut.proofs.CutLemmas.{cut_once}
use Rattle.history_fold.specs.Folded.{is_forgotten, version_of, gates_from, apis_from, spells_from, floor_in, folded}
use Rattle.history_fold.specs.Laws.{HasTablesOfWhole, IsViewedAsWhole}
use Rattle.history_fold.proofs.ApiFoldLemmas.{forgotten_said, forgotten_later, entry_stays}
use Rattle.history_fold.proofs.FieldFoldLemmas.{live_stays, spell_stays}
use Rattle.history_fold.proofs.FoldLemmas.{first_below}
use Rattle.history_fold.proofs.GateFoldLemmas.{thinned_at, same_where_thinned}
use Rattle.history_fold.proofs.ListLemmas.{find_kept, find_left}

-- ---- a change in the tables

module _ (apis : List ApiEntry) (floor o : ℕ) (name : GroupVersionResource) where
  of_name : (test : ApiChange → Bool) (x : ApiEntry) → (nat_le x.since o && (is_of name x && test x.change)) ≡ true → subject x ≡ name
  of_name test x h =
      let rest = (and_parts (nat_le x.since o) (is_of name x && test x.change) h).1 in
      subject_is name x (and_parts (is_of name x) (test x.change) rest).0

  -- of a version that stays the same
  same_change : ¬ IsForgotten apis name floor → (test : ApiChange → Bool) → first_change test (cutoff apis o) name ≡ first_change test (cutoff (apis_from apis floor) o) name
  same_change none test =
      first_change-cutoff test apis o name
      ∙ sym (find_kept (λ x. nat_le x.since o && (is_of name x && test x.change)) (λ x. not (is_forgotten apis floor (subject x))) apis
      (λ (x : ApiEntry) (h : (nat_le x.since o && (is_of name x && test x.change)) ≡ true). entry_stays apis floor name x none (of_name test x h)))
      ∙ sym (first_change-cutoff test (apis_from apis floor) o name)

  -- and of one that is forgotten none
  no_change : IsForgotten apis name floor → (test : ApiChange → Bool) → first_change test (cutoff (apis_from apis floor) o) name ≡ None
  no_change gone test =
      first_change-cutoff test (apis_from apis floor) o name
      ∙ find_left (λ x. nat_le x.since o && (is_of name x && test x.change)) (λ x. not (is_forgotten apis floor (subject x))) apis
      (λ (x : ApiEntry) (h : (nat_le x.since o && (is_of name x && test x.change)) ≡ true).
      not_from_true (is_forgotten apis floor (subject x)) (ap (λ (n : GroupVersionResource). is_forgotten apis floor n) (of_name test x h) ∙ (forgotten_said apis floor name).1 gone))

-- ---- what two tables say, change by change

module _ (xs ys : List ApiEntry) (name : GroupVersionResource) where
  live_by : ((test : ApiChange → Bool) → first_change test xs name ≡ first_change test ys name) → live xs name ≡ live ys name
  live_by same = λ i. is_some (same is_introduction i) && not (is_some (same is_removal i))

  decodable_by : ((test : ApiChange → Bool) → first_change test xs name ≡ first_change test ys name) → decodable xs name ≡ decodable ys name
  decodable_by same = λ i. is_some (same is_introduction i) && not (is_some (same is_forgetting i))

  introduced_by : ((test : ApiChange → Bool) → first_change test xs name ≡ first_change test ys name) → introduced_as xs name ≡ introduced_as ys name
  introduced_by same = ap (λ (o : Option ApiEntry). option_and_then (λ (x : ApiEntry). introduction_of x.change) o) (same is_introduction)

  warning_by : ((test : ApiChange → Bool) → first_change test xs name ≡ first_change test ys name) → warning xs name ≡ warning ys name
  warning_by same = λ i. cond (is_some (same is_introduction i) && not (is_some (same is_removal i))) (option_and_then (λ (x : ApiEntry). deprecation_of x.since x.change) (same is_deprecation i)) None

module _ (ys : List ApiEntry) (name : GroupVersionResource) (none : (test : ApiChange → Bool) → first_change test ys name ≡ None) where
  not_live : live ys name ≡ false
  not_live = ap (λ (o : Option ApiEntry). is_some o && not (has_change is_removal ys name)) (none is_introduction)

  not_decodable : decodable ys name ≡ false
  not_decodable = ap (λ (o : Option ApiEntry). is_some o && not (has_change is_forgetting ys name)) (none is_introduction)

no_warning : (ys : List ApiEntry) (name : GroupVersionResource) → live ys name ≡ false → warning ys name ≡ None
no_warning ys name gone = rw gone refl

-- ---- versions

module _ (h : Dated) (accepted : IsAccepted h) (o : ℕ) (from : floor_in h ≤ o) where
  gone_before : (name : GroupVersionResource) → IsForgotten h.apis name (floor_in h) → live (cutoff h.apis o) name ≡ false
  gone_before name gone = false_from_ne_true (live (cutoff h.apis o) name) (λ is. live_stays h accepted name (floor_in h) o from ((live_dated h.apis name o).0 is) gone)

  unread_before : (name : GroupVersionResource) → IsForgotten h.apis name (floor_in h) → decodable (cutoff h.apis o) name ≡ false
  unread_before name gone = false_from_ne_true (decodable (cutoff h.apis o) name) (λ is. ((decodable_dated h.apis name o).0 is).1 (forgotten_later h.apis name (floor_in h) o from gone))

  by_name : (P : Type 0) (name : GroupVersionResource) → (IsForgotten h.apis name (floor_in h) → P) → ((¬ IsForgotten h.apis name (floor_in h)) → P) → P
  by_name P name gone stays = elim (cases_Bool (is_forgotten h.apis (floor_in h) name)) [
    | inl said ↦ gone ((forgotten_said h.apis (floor_in h) name).0 said)
    | inr other ↦ stays (λ is. false≢true (sym other ∙ (forgotten_said h.apis (floor_in h) name).1 is))
  ]

  pub same_versions : AreSameVersions (cutoff h.apis o) (cutoff (apis_from h.apis (floor_in h)) o)
  same_versions = record {
    live_as = λ (name : GroupVersionResource) (is : live (cutoff h.apis o) name ≡ true).
        by_name (introduced_as (cutoff h.apis o) name ≡ introduced_as (cutoff (apis_from h.apis (floor_in h)) o) name) name
        (λ gone. absurd (false≢true (sym (gone_before name gone) ∙ is)))
        (λ stays. introduced_by (cutoff h.apis o) (cutoff (apis_from h.apis (floor_in h)) o) name (same_change h.apis (floor_in h) o name stays));
    decodable_as = λ (name : GroupVersionResource) (is : decodable (cutoff h.apis o) name ≡ true).
        by_name (introduced_as (cutoff h.apis o) name ≡ introduced_as (cutoff (apis_from h.apis (floor_in h)) o) name) name
        (λ gone. absurd (false≢true (sym (unread_before name gone) ∙ is)))
        (λ stays. introduced_by (cutoff h.apis o) (cutoff (apis_from h.apis (floor_in h)) o) name (same_change h.apis (floor_in h) o name stays));
    live = λ (name : GroupVersionResource).
        by_name (live (cutoff h.apis o) name ≡ live (cutoff (apis_from h.apis (floor_in h)) o) name) name
        (λ gone. gone_before name gone ∙ sym (not_live (cutoff (apis_from h.apis (floor_in h)) o) name (no_change h.apis (floor_in h) o name gone)))
        (λ stays. live_by (cutoff h.apis o) (cutoff (apis_from h.apis (floor_in h)) o) name (same_change h.apis (floor_in h) o name stays));
    decodable = λ (name : GroupVersionResource).
        by_name (decodable (cutoff h.apis o) name ≡ decodable (cutoff (apis_from h.apis (floor_in h)) o) name) name
        (λ gone. unread_before name gone ∙ sym (not_decodable (cutoff (apis_from h.apis (floor_in h)) o) name (no_change h.apis (floor_in h) o name gone)))
        (λ stays. decodable_by (cutoff h.apis o) (cutoff (apis_from h.apis (floor_in h)) o) name (same_change h.apis (floor_in h) o name stays));
    warning = λ (name : GroupVersionResource).
        by_name (warning (cutoff h.apis o) name ≡ warning (cutoff (apis_from h.apis (floor_in h)) o) name) name
        (λ gone.
        no_warning (cutoff h.apis o) name (gone_before name gone)
        ∙ sym (no_warning (cutoff (apis_from h.apis (floor_in h)) o) name (not_live (cutoff (apis_from h.apis (floor_in h)) o) name (no_change h.apis (floor_in h) o name gone))))
        (λ stays. warning_by (cutoff h.apis o) (cutoff (apis_from h.apis (floor_in h)) o) name (same_change h.apis (floor_in h) o name stays));
  }

-- ---- rows

module _ (apis : List ApiEntry) (fields : List Field) (spells : List Spell) (floor o : ℕ) (name : GroupVersionResource) (none : ¬ IsForgotten apis name floor) where
  spell_in : (s : Spell) → IsOfVersion name s → Contains (spells_by spells o) s → Contains (spells_by (spells_from apis spells floor) o) s
  spell_in s of h =
      Contains-filter (λ t. nat_le t.since o) (spells_from apis spells floor) s
      (Contains-filter (λ t. not (is_forgotten apis floor (version_of t))) spells s (Contains-from_filter (λ t. nat_le t.since o) spells s h) (spell_stays apis fields spells floor name s none of))
      (passes_from_filter (λ t. nat_le t.since o) spells s h)

  spell_out : (s : Spell) → Contains (spells_by (spells_from apis spells floor) o) s → Contains (spells_by spells o) s
  spell_out s h =
      Contains-filter (λ t. nat_le t.since o) spells s
      (Contains-from_filter (λ t. not (is_forgotten apis floor (version_of t))) spells s (Contains-from_filter (λ t. nat_le t.since o) (spells_from apis spells floor) s h))
      (passes_from_filter (λ t. nat_le t.since o) (spells_from apis spells floor) s h)

  row_in : (IsOn : List ℕ → Type 0) (known : List Field) (row : FieldRow) → IsRow IsOn known (spells_by spells o) name row → IsRow IsOn known (spells_by (spells_from apis spells floor) o) name row
  row_in IsOn known row =
      Any-weaker (λ f. Any (λ s. IsSpelling f name s × IsSpelledAs f s row × (IsTrue row.on ↔ IfSome f.gate IsOn)) (spells_by spells o))
      (λ f. Any (λ s. IsSpelling f name s × IsSpelledAs f s row × (IsTrue row.on ↔ IfSome f.gate IsOn)) (spells_by (spells_from apis spells floor) o)) known
      (λ (f : Field) (some : Any (λ s. IsSpelling f name s × IsSpelledAs f s row × (IsTrue row.on ↔ IfSome f.gate IsOn)) (spells_by spells o)).
      Any-from (λ s. IsSpelling f name s × IsSpelledAs f s row × (IsTrue row.on ↔ IfSome f.gate IsOn)) (spells_by (spells_from apis spells floor) o) some.1
      (spell_in some.1 some.4.0.1 (some.0, some.2, some.3)) some.4)

  row_out : (IsOn : List ℕ → Type 0) (known : List Field) (row : FieldRow) → IsRow IsOn known (spells_by (spells_from apis spells floor) o) name row → IsRow IsOn known (spells_by spells o) name row
  row_out IsOn known row =
      Any-weaker (λ f. Any (λ s. IsSpelling f name s × IsSpelledAs f s row × (IsTrue row.on ↔ IfSome f.gate IsOn)) (spells_by (spells_from apis spells floor) o))
      (λ f. Any (λ s. IsSpelling f name s × IsSpelledAs f s row × (IsTrue row.on ↔ IfSome f.gate IsOn)) (spells_by spells o)) known
      (λ (f : Field) (some : Any (λ s. IsSpelling f name s × IsSpelledAs f s row × (IsTrue row.on ↔ IfSome f.gate IsOn)) (spells_by (spells_from apis spells floor) o)).
      Any-from (λ s. IsSpelling f name s × IsSpelledAs f s row × (IsTrue row.on ↔ IfSome f.gate IsOn)) (spells_by spells o) some.1
      (spell_out some.1 (some.0, some.2, some.3)) some.4)

  same_rows : (IsOn : List ℕ → Type 0) (known : List Field) (rows : List FieldRow) → AreRows IsOn known (spells_by spells o) name rows ↔ AreRows IsOn known (spells_by (spells_from apis spells floor) o) name rows
  same_rows IsOn known rows = (
    λ (are : AreRows IsOn known (spells_by spells o) name rows). record {
      order = are.order;
      exact = λ row. ((λ h. row_in IsOn known row ((are.exact row).0 h)), (λ is. (are.exact row).1 (row_out IsOn known row is)));
    },
    λ (are : AreRows IsOn known (spells_by (spells_from apis spells floor) o) name rows). record {
      order = are.order;
      exact = λ row. ((λ h. row_out IsOn known row ((are.exact row).0 h)), (λ is. (are.exact row).1 (row_in IsOn known row is)));
    },
  )

-- ---- tables and views

same_at : (h : Dated) → IsAccepted h → (o : ℕ) → floor_in h ≤ o → HaveSameTables h (folded h) o
same_at h accepted o from = record {
  gates = same_where_thinned (gate_cutoff h.gates o) (gate_cutoff (gates_from h.gates (floor_in h)) o) (thinned_at h.gates (floor_in h) o from);
  versions = same_versions h accepted o from;
  rows = λ (gates : Gates) (name : GroupVersionResource) (reads : decodable (cutoff h.apis o) name ≡ true) (rows : List FieldRow).
      same_rows h.apis h.fields h.spells (floor_in h) o name
      (λ gone. ((decodable_dated h.apis name o).0 reads).1 (forgotten_later h.apis name (floor_in h) o from gone))
      (λ gate. HasValue gates gate true) (fields_by h.fields o) rows;
}

-- tables cut twice are the tables cut once
same_where_cut : (h k : Dated) (o : ℕ) → HaveSameTables h k o → HaveSameTables (history_cutoff h o) (history_cutoff k o) o
same_where_cut h k o same =
    let of_h = cut_once h o in
    let of_k = cut_once k o in
    record {
      gates = subst (λ (d : Dated). AreSameGates d.gates (gate_cutoff (gate_cutoff k.gates o) o)) (sym of_h) (subst (λ (d : Dated). AreSameGates (gate_cutoff h.gates o) d.gates) (sym of_k) same.gates);
      versions = subst (λ (d : Dated). AreSameVersions d.apis (cutoff (cutoff k.apis o) o)) (sym of_h) (subst (λ (d : Dated). AreSameVersions (cutoff h.apis o) d.apis) (sym of_k) same.versions);
      rows = λ (gates : Gates) (name : GroupVersionResource) (reads : decodable (cutoff (cutoff h.apis o) o) name ≡ true) (rows : List FieldRow).
          let once : decodable (cutoff h.apis o) name ≡ true = subst (λ (d : Dated). decodable d.apis name ≡ true) of_h reads in
          subst (λ (d : Dated). AreRowsOf (record { fields = d.fields; spells = d.spells; gates = gates }) name rows ↔ AreRowsOf (source_at (history_cutoff k o) o gates) name rows) (sym of_h)
          (subst (λ (d : Dated). AreRowsOf (source_at h o gates) name rows ↔ AreRowsOf (record { fields = d.fields; spells = d.spells; gates = gates }) name rows) (sym of_k) (same.rows gates name once rows));
    }

pub tables_of_whole : (h : Dated) (o : ℕ) → HasTablesOfWhole h o
tables_of_whole h o accepted from =
    let same = same_at h accepted o from in
    record { known = same; cut = same_where_cut h (folded h) o same }

pub viewed_as_whole : (h : Dated) (o : ℕ) → IsViewedAsWhole h o
viewed_as_whole h o accepted within =
    let above : first_of h ≤ floor_in h = first_below (first_of h) (last_of h) in
    let at_floor : floor_in h ≤ o = within.from in
    let speaks : SpeaksOf h o = record { from = (omega arith); to = within.to } in
    let speaks_folded : SpeaksOf (folded h) o = record { from = within.from; to = within.to } in
    record {
      views = same_views h (folded h) o (same_at h accepted o within.from) speaks speaks_folded;
      texts = same_texts h (folded h) o (same_at h accepted o within.from) speaks speaks_folded;
    }
