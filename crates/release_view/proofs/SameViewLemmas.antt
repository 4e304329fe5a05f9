-- Histories that have the same tables at a release have the same views of it.
use Rattle.std.proofs.Common.{◌≡◌, ℕ, Option, Some, None, List, refl, sym, ◌∙◌, ap}
use Rattle.std.specs.Prelude.{option_map, option_and_then}
use Rattle.gate_flags.specs.Values.{Gates}
use Rattle.gate_flags.proofs.CutLemmas.{taken_alike as gates_alike}
use Rattle.gate_spec.specs.Gates.{cutoff as gate_cutoff}
use Rattle.gate_spec.specs.Same.{AreSameGates}
use Rattle.gate_spec.specs.declared.entry.GateEntry.{GateEntry}
use Rattle.lifecycle.specs.Entry.{GroupVersionResource}
use Rattle.lifecycle.specs.Same.{AreSameVersions, Introduction, introduction_of, introduced_as}
use Rattle.lifecycle.specs.Tables.{cutoff, is_introduction, first_change, decodable, live}
use Rattle.lifecycle.specs.declared.entry.ApiEntry.{ApiEntry}
use Rattle.lifecycle.specs.declared.entry.ApiChange.{ApiChange}
use Rattle.lifecycle.specs.declared.entry.ApiChange.TheVariants.{Introduced, Deprecated, Removed, Forgotten}
use Rattle.runtime_config.proofs.CutLemmas.{taken_alike as versions_alike}
use Rattle.schemas.specs.Dated.{Dated}
use Rattle.release_view.specs.Gates.{AreGatesOf}
use Rattle.release_view.specs.Known.{Naming, name_of, naming, naming_of, tables_at, IsKnown, AreKnown}
use Rattle.release_view.specs.Same.{HaveSameTables, HaveSameViews, SpeaksOf, TakeSameTexts}
use Rattle.release_view.specs.Views.{Viewed, IsViewable, IsViewOf, IsViewByTexts}
use Rattle.release_view.specs.declared.known.KnownVersion.{KnownVersion}
use Rattle.release_view.proofs.ViewLemmas.{one_view}

-- ---- namings

abbrev naming_by : Introduction → Naming
naming_by i = record { kind = i.kind; singular = i.singular; namespaced = i.namespaced }

names_so : (c : ApiChange) → naming_of c ≡ option_map naming_by (introduction_of c)
names_so (Introduced kind singular namespaced enabled) = refl
names_so (Deprecated removal replacement) = refl
names_so Removed = refl
names_so Forgotten = refl

named_by : (o : Option ApiEntry) → option_and_then (λ (x : ApiEntry). naming_of x.change) o ≡ option_map naming_by (option_and_then (λ (x : ApiEntry). introduction_of x.change) o)
named_by None = refl
named_by (Some x) = names_so x.change

same_naming : (xs ys : List ApiEntry) (name : GroupVersionResource) → introduced_as xs name ≡ introduced_as ys name → naming xs name ≡ naming ys name
same_naming xs ys name h = named_by (first_change is_introduction xs name) ∙ ap (option_map naming_by) h ∙ sym (named_by (first_change is_introduction ys name))

-- ---- gates

gates_as : (xs ys : List GateEntry) (gates : Gates) → AreSameGates xs ys → AreGatesOf xs gates → AreGatesOf ys gates
gates_as xs ys gates same are = record {
  found = λ name stage default locked. (
    λ any. (same.found name stage default locked).0 ((are.found name stage default locked).0 any),
    λ there. (are.found name stage default locked).1 ((same.found name stage default locked).1 there),
  );
  locked = are.locked;
  removed = λ gate. (
    λ there. (same.removed gate.name gate.value).0 ((are.removed gate).0 there),
    λ gone. (are.removed gate).1 ((same.removed gate.name gate.value).1 gone),
  );
}

-- ---- the other way about

turned_gates : (xs ys : List GateEntry) → AreSameGates xs ys → AreSameGates ys xs
turned_gates xs ys same = record {
  found = λ name stage default locked. let s = same.found name stage default locked in (s.1, s.0);
  removed = λ name value. let s = same.removed name value in (s.1, s.0);
}

turned_versions : (xs ys : List ApiEntry) → AreSameVersions xs ys → AreSameVersions ys xs
turned_versions xs ys same = record {
  live_as = λ name h. sym (same.live_as name (same.live name ∙ h));
  decodable_as = λ name h. sym (same.decodable_as name (same.decodable name ∙ h));
  live = λ name. sym (same.live name);
  decodable = λ name. sym (same.decodable name);
  warning = λ name. sym (same.warning name);
}

pub turned : (h k : Dated) (e : ℕ) → HaveSameTables h k e → HaveSameTables k h e
turned h k e same = record {
  gates = turned_gates (gate_cutoff h.gates e) (gate_cutoff k.gates e) same.gates;
  versions = turned_versions (cutoff h.apis e) (cutoff k.apis e) same.versions;
  rows = λ gates name reads rows. let s = same.rows gates name (same.versions.decodable name ∙ reads) rows in (s.1, s.0);
}

-- ---- views

module _ (h k : Dated) (e : ℕ) (same : HaveSameTables h k e) (gates : Gates) (on_names : List GroupVersionResource) where
  known_as : (v : KnownVersion) → IsKnown (tables_at h e gates) on_names v → IsKnown (tables_at k e gates) on_names v
  known_as v is = record {
    decodes = sym (same.versions.decodable (name_of v)) ∙ is.decodes;
    named_as = sym (same_naming (cutoff h.apis e) (cutoff k.apis e) (name_of v) (same.versions.decodable_as (name_of v) is.decodes)) ∙ is.named_as;
    lawful = is.lawful;
    spelled = is.spelled;
    is_live = is.is_live ∙ same.versions.live (name_of v);
    is_served = is.is_served;
    warned = is.warned ∙ same.versions.warning (name_of v);
    rows = (same.rows gates (name_of v) is.decodes v.table.rows).0 is.rows;
  }

  viewable_as : SpeaksOf k e → IsViewable h e gates on_names → IsViewable k e gates on_names
  viewable_as speaks is = record {
    from = speaks.from;
    to = speaks.to;
    valued = gates_as (gate_cutoff h.gates e) (gate_cutoff k.gates e) gates same.gates is.valued;
    lives = λ name there. sym (same.versions.live name) ∙ is.lives name there;
  }

module _ (h k : Dated) (e : ℕ) (same : HaveSameTables h k e) (gates : Gates) (on_names : List GroupVersionResource) where
  all_known : (vs : List KnownVersion) → AreKnown (tables_at h e gates) on_names vs → AreKnown (tables_at k e gates) on_names vs
  all_known vs are = record {
    order = are.order;
    exact = λ v. (
      λ there. known_as h k e same gates on_names v ((are.exact v).0 there),
      λ is. (are.exact v).1 (known_as k h e (turned h k e same) gates on_names v is),
    );
    each_decodable = λ name reads. are.each_decodable name (same.versions.decodable name ∙ reads);
    each_live = λ name lives. are.each_live name (same.versions.live name ∙ lives);
  }

  view_as : SpeaksOf k e → (v : Viewed) → IsViewOf h e gates on_names v → IsViewOf k e gates on_names v
  view_as speaks v is = record {
    of_minor = is.of_minor;
    of_gates = is.of_gates;
    of_versions = all_known v.versions is.of_versions;
    viewable = viewable_as h k e same gates on_names speaks is.viewable;
  }

pub same_views : (h k : Dated) (e : ℕ) → HaveSameTables h k e → SpeaksOf h e → SpeaksOf k e → HaveSameViews h k e
same_views h k e same of_h of_k =
    let back = turned h k e same in
    record {
      viewable = λ gates on_names. (viewable_as h k e same gates on_names of_k, viewable_as k h e back gates on_names of_h);
      same = λ gates on_names v. (view_as h k e same gates on_names of_k v, view_as k h e back gates on_names of_h v);
      one = λ gates on_names v w a b. one_view h e gates on_names v w a (view_as k h e back gates on_names of_h w b);
    }

-- ---- texts

by_texts : (h k : Dated) (e : ℕ) → HaveSameTables h k e → SpeaksOf k e → (features config : List ℕ) (v : Viewed) → IsViewByTexts h e features config v → IsViewByTexts k e features config v
by_texts h k e same speaks features config v is = record {
  on = is.on;
  served = ((versions_alike (cutoff h.apis e) (cutoff k.apis e) config same.versions).served is.on).0 is.served;
  valued = ((gates_alike (gate_cutoff h.gates e) (gate_cutoff k.gates e) features same.gates).values v.gates).0 is.valued;
  viewed = view_as h k e same v.gates is.on speaks v is.viewed;
}

pub same_texts : (h k : Dated) (e : ℕ) → HaveSameTables h k e → SpeaksOf h e → SpeaksOf k e → TakeSameTexts h k e
same_texts h k e same of_h of_k = record {
  gates = λ text. gates_alike (gate_cutoff h.gates e) (gate_cutoff k.gates e) text same.gates;
  versions = λ text. versions_alike (cutoff h.apis e) (cutoff k.apis e) text same.versions;
  views = λ features config v. (by_texts h k e same of_k features config v, by_texts k h e (turned h k e same) of_h features config v);
}
