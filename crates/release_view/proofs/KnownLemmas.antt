-- A known version is determined by its name, and its place by its name.
use Rattle.std.proofs.Common.{◌≡◌, ◌&&◌, ℕ, Bool, true, false, IsTrue, Option, Some, None, List, Equal, Contains, refl, sym, ◌∙◌, ap, subst}
use Rattle.std.specs.Option.{option_map}
use Rattle.std.proofs.lemmas.Bool.{false≢true, and_parts}
use Rattle.std.proofs.lemmas.Map.Lookups.{exact_bytes}
use Rattle.fields.specs.declared.table.FieldRow.{FieldRow}
use Rattle.gate_flags.specs.Values.{HasValue}
use Rattle.lifecycle.specs.Entry.{GroupVersionResource}
use Rattle.lifecycle.specs.Tables.{is_of, is_introduction, first_change, live, warning}
use Rattle.lifecycle.specs.Version.{word_text}
use Rattle.lifecycle.specs.declared.entry.ApiEntry.{ApiEntry}
use Rattle.lifecycle.specs.declared.entry.ApiChange.{ApiChange}
use Rattle.lifecycle.specs.declared.entry.ApiChange.TheVariants.{Introduced, Deprecated, Removed, Forgotten}
use Rattle.release_view.proofs.ListLemmas.{found}
use Rattle.lifecycle.proofs.WordLemmas.{word_text_injective, exact_words}
use Rattle.row_index.specs.Source.{RowSource}
use Rattle.schemas.specs.Rows.{AreRows}
use Rattle.basis.proofs.OrderLemmas.{then_tied, one_by_name}
use Rattle.release_view.specs.Known.{Tables, name_of, naming, deprecation, IsKnown, by_place}
use Rattle.release_view.specs.declared.known.KnownVersion.{KnownVersion}
use Rattle.release_view.specs.declared.known.Planned.{Planned}

some_same : {X : Type 0} (x y : X) → Some x ≡ Some y → x ≡ y
some_same x y e = let f : Option _ → _ = λ o. elim o [ None ↦ x | Some z ↦ z ] in ap f e

same_planned : (p q : Planned) → deprecation p ≡ deprecation q → p ≡ q
same_planned p q e = λ i. record { since = (e i).since; removal = (e i).removal; replacement = (e i).replacement }

same_warning : (o q : Option Planned) → option_map deprecation o ≡ option_map deprecation q → o ≡ q
same_warning None None e = refl
same_warning None (Some q) e = absurd (let h : None ≡ Some (deprecation q) = e in cc)
same_warning (Some p) None e = absurd (let h : Some (deprecation p) ≡ None = e in cc)
same_warning (Some p) (Some q) e = ap Some (same_planned p q (some_same (deprecation p) (deprecation q) e))

same_bool : (b d : Bool) → (IsTrue b → IsTrue d) → (IsTrue d → IsTrue b) → b ≡ d
same_bool true true f g = refl
same_bool true false f g = absurd (false≢true (f refl))
same_bool false true f g = absurd (false≢true (g refl))
same_bool false false f g = refl

one_table : (source : RowSource) (name : GroupVersionResource) (rows others : List FieldRow) → AreRows (λ gate. HasValue source.gates gate true) source.fields source.spells name rows → AreRows (λ gate. HasValue source.gates gate true) source.fields source.spells name others → rows ≡ others
one_table source name rows others a b = one_by_name (λ (r : FieldRow). r.id) rows others a.order b.order (λ row. ((λ there. (b.exact row).1 ((a.exact row).0 there)), (λ there. (a.exact row).1 ((b.exact row).0 there))))

module _ (tables : Tables) (on_names : List GroupVersionResource) where
  pub same_version : (v w : KnownVersion) → IsKnown tables on_names v → IsKnown tables on_names w → name_of v ≡ name_of w → v ≡ w
  same_version v w a b name =
      let words : v.word ≡ w.word = word_text_injective v.word w.word a.lawful b.lawful (sym a.spelled ∙ ap (λ n. n.version) name ∙ b.spelled) in
      let namings : record { kind = v.table.kind; singular = v.singular; namespaced = v.namespaced } ≡ record { kind = w.table.kind; singular = w.singular; namespaced = w.namespaced } =
      some_same _ _ (sym a.named_as ∙ ap (naming tables.apis) name ∙ b.named_as) in
      let lives : v.live ≡ w.live = a.is_live ∙ ap (live tables.apis) name ∙ sym b.is_live in
      let serves : v.served ≡ w.served = same_bool v.served w.served (λ t. b.is_served.1 (subst (Contains on_names) name (a.is_served.0 t))) (λ t. a.is_served.1 (subst (Contains on_names) (sym name) (b.is_served.0 t))) in
      let warnings : v.warning ≡ w.warning = same_warning v.warning w.warning (a.warned ∙ ap (warning tables.apis) name ∙ sym b.warned) in
      let same_rows : v.table.rows ≡ w.table.rows = one_table tables.source (name_of w) v.table.rows w.table.rows
      (subst (λ n. AreRows (λ gate. HasValue tables.source.gates gate true) tables.source.fields tables.source.spells n v.table.rows) name a.rows) b.rows in
      λ i. record {
        table = record { group = (name i).group; version = (name i).version; resource = (name i).resource; kind = (namings i).kind; rows = same_rows i };
        word = words i;
        singular = (namings i).singular;
        namespaced = (namings i).namespaced;
        live = lives i;
        served = serves i;
        warning = warnings i;
      }

  -- known versions at one place have one name
  same_name : (v w : KnownVersion) → IsKnown tables on_names v → IsKnown tables on_names w → by_place v w ≡ Equal → name_of v ≡ name_of w
  same_name v w a b tied =
      let (front, resources) = then_tied _ _ tied in
      let (groups, words) = then_tied _ _ front in
      let g = exact_bytes v.table.group w.table.group groups in
      let word = exact_words v.word w.word words in
      let version : v.table.version ≡ w.table.version = a.spelled ∙ ap word_text word ∙ sym b.spelled in
      let r = exact_bytes v.table.resource w.table.resource resources in
      λ i. record { group = g i; version = version i; resource = r i }

  pub tied_known : (v w : KnownVersion) → IsKnown tables on_names v → IsKnown tables on_names w → by_place v w ≡ Equal → v ≡ w
  tied_known v w a b tied = same_version v w a b (same_name v w a b tied)

names_kind : (change : ApiChange) → is_introduction change ≡ true → ((kind singular : List ℕ) (namespaced enabled : Bool) → change ≡ Introduced kind singular namespaced enabled → ⊥) → ⊥
names_kind (Introduced kind singular namespaced enabled) h none = none kind singular namespaced enabled refl
names_kind (Deprecated removal replacement) h none = false≢true h
names_kind Removed h none = false≢true h
names_kind Forgotten h none = false≢true h

-- the first introduction introduces
pub introduces : (tables : List ApiEntry) (name : GroupVersionResource) (x : ApiEntry) → first_change is_introduction tables name ≡ Some x
    → ((kind singular : List ℕ) (namespaced enabled : Bool) → x.change ≡ Introduced kind singular namespaced enabled → ⊥) → ⊥
introduces tables name x first none =
    let passes = (found (λ y. is_of name y && is_introduction y.change) tables x first).1 in
    names_kind x.change (and_parts (is_of name x) (is_introduction x.change) passes).1 none
