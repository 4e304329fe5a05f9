-- A release has one view.
use Rattle.std.proofs.Common.{◌≡◌, ◌≤◌, ℕ, List, sym, ◌∙◌, ap, subst, arith}
use Rattle.std.specs.Prelude.{unwrap_or}
use Rattle.basis.proofs.OrderLemmas.{one_in_order}
use Rattle.flag_text.specs.Pieces.{pieces}
use Rattle.gate_flags.proofs.CutLemmas.{values_one}
use Rattle.gate_flags.specs.Values.{Gates}
use Rattle.gate_spec.specs.Gates.{cutoff as gates_by}
use Rattle.gate_spec.specs.declared.entry.GateEntry.{GateEntry}
use Rattle.lifecycle.specs.Entry.{GroupVersionResource}
use Rattle.lifecycle.specs.Tables.{cutoff as apis_by}
use Rattle.lifecycle.specs.declared.entry.ApiEntry.{ApiEntry}
use Rattle.row_index.proofs.CutLemmas.{same_apis, same_gates, same_first, same_source}
use Rattle.runtime_config.proofs.AnswerLemmas.{one_set}
use Rattle.schemas.specs.Cutoff.{cutoff}
use Rattle.schemas.specs.Dated.{Dated}
use Rattle.schemas.specs.Rules.{first_of, last_of}
use Rattle.release_view.specs.Gates.{AreGatesOf}
use Rattle.release_view.specs.Known.{Tables, tables_at, AreKnown, by_place}
use Rattle.release_view.specs.Laws.{HasOneView}
use Rattle.release_view.specs.Order.{by_place_total}
use Rattle.release_view.specs.Views.{Viewed, AreLive, IsViewable, IsViewOf, IsViewByTexts}
use Rattle.release_view.specs.declared.known.KnownVersion.{KnownVersion}

same_versions : (tables : Tables) (on_names : List GroupVersionResource) (vs ws : List KnownVersion) → AreKnown tables on_names vs → AreKnown tables on_names ws → vs ≡ ws
same_versions tables on_names vs ws a b = one_in_order by_place by_place_total vs ws a.order b.order (λ v. ((λ there. (b.exact v).1 ((a.exact v).0 there)), (λ there. (a.exact v).1 ((b.exact v).0 there))))

pub one_view : (h : Dated) (e : ℕ) (gates : Gates) (on_names : List GroupVersionResource) (v w : Viewed) → IsViewOf h e gates on_names v → IsViewOf h e gates on_names w → v ≡ w
one_view h e gates on_names v w a b =
    let minors : v.minor ≡ w.minor = a.of_minor ∙ sym b.of_minor in
    let all_gates : v.gates ≡ w.gates = a.of_gates ∙ sym b.of_gates in
    let versions : v.versions ≡ w.versions = same_versions (tables_at h e gates) on_names v.versions w.versions a.of_versions b.of_versions in
    λ i. record { minor = minors i; gates = all_gates i; versions = versions i }

-- texts make one view of it
pub one_by_texts : (h : Dated) (e : ℕ) (features config : List ℕ) (v w : Viewed) → IsViewByTexts h e features config v → IsViewByTexts h e features config w → v ≡ w
one_by_texts h e features config v w a b =
    let on = one_set h.apis e config a.on b.on a.served b.served in
    let gates = values_one (gates_by h.gates e) (pieces features) v.gates w.gates a.valued b.valued in
    let viewed = subst (λ g. IsViewOf h e g b.on v) gates (subst (λ n. IsViewOf h e v.gates n v) on a.viewed) in
    one_view h e w.gates b.on v w viewed b.viewed

-- histories that have the same tables at a release, of which both speak, have the same views of it
module _ (h cut : Dated) (e : ℕ) (gates : Gates) (on_names : List GroupVersionResource) where
  pub viewable_by : gates_by h.gates e ≡ gates_by cut.gates e → apis_by h.apis e ≡ apis_by cut.apis e → first_of cut ≤ e → e ≤ last_of cut → IsViewable h e gates on_names → IsViewable cut e gates on_names
  viewable_by same_g same_a from to is = record {
    from = from;
    to = to;
    valued = subst (λ (ts : List GateEntry). AreGatesOf ts gates) same_g is.valued;
    lives = subst (λ (ts : List ApiEntry). AreLive ts on_names) same_a is.lives;
  }

  pub view_by : tables_at h e gates ≡ tables_at cut e gates → (IsViewable h e gates on_names → IsViewable cut e gates on_names) → (v : Viewed) → IsViewOf h e gates on_names v → IsViewOf cut e gates on_names v
  view_by same viewable v a = record {
    of_minor = a.of_minor;
    of_gates = a.of_gates;
    of_versions = subst (λ tables. AreKnown tables on_names v.versions) same a.of_versions;
    viewable = viewable a.viewable;
  }

module _ (h cut : Dated) (e o : ℕ) (is : cut ≡ cutoff h o) (below : e ≤ o) (within : o ≤ last_of h) where
  last_is : last_of cut ≡ o
  last_is = ap (λ (d : Dated). unwrap_or d.last 0) is

  first_is : first_of cut ≡ first_of h
  first_is = ap (λ first. unwrap_or first 0) (same_first h cut e o is below)

  to_cut : (gates : Gates) (on_names : List GroupVersionResource) → IsViewable h e gates on_names → IsViewable cut e gates on_names
  to_cut gates on_names a =
      viewable_by h cut e gates on_names (sym (same_gates h cut e o is below)) (sym (same_apis h cut e o is below)) (subst (λ (n : ℕ). n ≤ e) (sym first_is) a.from) (subst (λ (n : ℕ). e ≤ n) (sym last_is) below) a

  from_cut : (gates : Gates) (on_names : List GroupVersionResource) → IsViewable cut e gates on_names → IsViewable h e gates on_names
  from_cut gates on_names a =
      viewable_by cut h e gates on_names (same_gates h cut e o is below) (same_apis h cut e o is below) (subst (λ (n : ℕ). n ≤ e) first_is a.from) (omega arith) a

  same_tables : (gates : Gates) → tables_at h e gates ≡ tables_at cut e gates
  same_tables gates = λ i. record { apis = sym (same_apis h cut e o is below) i; source = sym (same_source h cut e o is below gates) i }

  pub has_one_view : HasOneView h cut e
  has_one_view = record {
    one = one_view h e;
    viewable = λ gates on_names. (to_cut gates on_names, from_cut gates on_names);
    same = λ gates on_names v. (
      view_by h cut e gates on_names (same_tables gates) (to_cut gates on_names) v,
      view_by cut h e gates on_names (sym (same_tables gates)) (from_cut gates on_names) v,
    );
  }
