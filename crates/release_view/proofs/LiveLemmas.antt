-- Which versions an accepted history has in its tables.
use Rattle.std.proofs.Common.{◌≡◌, ◌↔◌, ◌&&◌, not, ℕ, ◌≤◌, ◌<◌, true, Option, Some, None, List, length, take, All, refl, sym, ◌∙◌, subst, arith}
use Rattle.std.specs.Prelude.{slice_get}
use Rattle.std.specs.List.{AllByRecursion}
use Rattle.std.proofs.lemmas.Bool.{false≢true, and_parts, and_from, both_ways, not-true, not_from_false, false_from_ne_true}
use Rattle.std.proofs.lemmas.List.Elements.{All-from_recursion, All-weaker}
use Rattle.std.proofs.lemmas.Option.{slice_get_within, slice_get_read, get_or_from_slice_get}
use Rattle.std.proofs.lemmas.Slice.Eq.{bytes_eq-Decides}
use Rattle.std.specs.Str.{bytes_eq}
use Rattle.lifecycle.specs.Entry.{GroupVersionResource, IsKnownOf, IsRemoval}
use Rattle.lifecycle.specs.Tables.{cutoff, is_introduction, is_removal, is_forgetting, has_change, live, decodable}
use Rattle.lifecycle.specs.Version.{IsVersion}
use Rattle.lifecycle.specs.declared.entry.ApiEntry.{ApiEntry}
use Rattle.lifecycle.specs.declared.entry.ApiChange.{ApiChange}
use Rattle.lifecycle.specs.declared.entry.ApiChange.TheVariants.{Introduced, Deprecated, Removed, Forgotten}
use Rattle.lifecycle.proofs.TableLemmas.{change_dated, introduced_dated, removed_dated}
use Rattle.gate_flags.specs.Values.{Gates}
use Rattle.schemas.specs.ApiRules.{IsForgetting, IsNext, previous_of_version, is_of_version}
use Rattle.schemas.specs.Dated.{Dated}
use Rattle.schemas.specs.Rules.{IsAccepted}
use Rattle.schemas.specs.Shapes.{IsShapedApi}
use Rattle.schemas.proofs.AcceptedLemmas as hr
use Rattle.schemas.proofs.PreviousLemmas.{IsLastBefore, IsLast, last_passing_is}
use Rattle.release_view.specs.Known.{name_of, tables_at, AreKnown}
use Rattle.release_view.specs.Parts.{IsGathered, Speaks}
use Rattle.release_view.specs.declared.known.KnownVersion.{KnownVersion}

forgettings : (c : ApiChange) → (is_forgetting c ≡ true) ↔ IsForgetting c
forgettings (Introduced kind singular namespaced enabled) = ((λ h. absurd (false≢true h)), (λ h. absurd h))
forgettings (Deprecated removal replacement) = ((λ h. absurd (false≢true h)), (λ h. absurd h))
forgettings Removed = ((λ h. absurd (false≢true h)), (λ h. absurd h))
forgettings Forgotten = ((λ h. tt), (λ h. refl))

same_parts : (x y : ApiEntry) → is_of_version x y ≡ true → (x.group ≡ y.group) × (x.version ≡ y.version) × (x.resource ≡ y.resource)
same_parts x y h =
    let (front, r) = and_parts (bytes_eq x.group y.group && bytes_eq x.version y.version) (bytes_eq x.resource y.resource) h in
    let (g, v) = and_parts (bytes_eq x.group y.group) (bytes_eq x.version y.version) front in
    ((bytes_eq-Decides x.group y.group).0 g, (bytes_eq-Decides x.version y.version).0 v, (bytes_eq-Decides x.resource y.resource).0 r)

removed_before : (previous : Option ApiEntry) (since : ℕ) (change : ApiChange) → IsForgetting change → IsNext previous since change → (y : ApiEntry) × (previous ≡ Some y) × IsRemoval y.change × (y.since < since)
removed_before (Some y) since Forgotten f h = (y, refl, h.0, h.1)
removed_before None since Forgotten f h = absurd h
removed_before previous since (Introduced kind singular namespaced enabled) f h = absurd f
removed_before previous since (Deprecated removal replacement) f h = absurd f
removed_before previous since Removed f h = absurd f

module _ (h : Dated) (accepted : IsAccepted h) (e : ℕ) (name : GroupVersionResource) where
  -- a forgetting follows a removal
  forgotten_removed : has_change is_forgetting (cutoff h.apis e) name ≡ true → has_change is_removal (cutoff h.apis e) name ≡ true
  forgotten_removed forgotten =
      let any = (change_dated name e is_forgetting IsForgetting h.apis forgettings).0 forgotten in
      let x : ApiEntry = any.1 in
      let known : IsKnownOf name e x = any.4.0 in
      let within = any.2 in
      let stands : slice_get h.apis any.0 ≡ Some x = slice_get_read h.apis (length h.apis) any.0 x refl any.2 (sym any.3) in
      let (y, is, removal, before) = removed_before (previous_of_version (take any.0 h.apis) x) x.since x.change any.4.1 ((hr.versions_in_order h accepted) any.0 x stands) in
      let last : IsLastBefore (is_of_version x) h.apis any.0 y = subst (IsLast (is_of_version x) h.apis any.0) is (last_passing_is (is_of_version x) h.apis any.0 (omega arith)) in
      let (group, version, resource) = same_parts x y last.passes in
      let dated : x.since ≤ e = known.dated in
      (removed_dated h.apis name e).1 (
        last.place,
        y,
        slice_get_within h.apis last.place y last.stands,
        get_or_from_slice_get h.apis last.place y y last.stands,
        (record { group = sym group ∙ known.group; version = sym version ∙ known.version; resource = sym resource ∙ known.resource; dated = omega arith }, removal),
      )

  -- a live version is read
  pub live_decodable : live (cutoff h.apis e) name ≡ true → decodable (cutoff h.apis e) name ≡ true
  live_decodable is_live =
      let (introduced, stays) = and_parts (has_change is_introduction (cutoff h.apis e) name) (not (has_change is_removal (cutoff h.apis e) name)) is_live in
      let kept = not-true (has_change is_removal (cutoff h.apis e) name) stays in
      and_from (has_change is_introduction (cutoff h.apis e) name) (not (has_change is_forgetting (cutoff h.apis e) name)) introduced
      (not_from_false _ (false_from_ne_true _ (λ forgotten. both_ways (has_change is_removal (cutoff h.apis e) name) kept (forgotten_removed forgotten))))

  -- a version in the tables is one of which an entry speaks
  pub decodable_speaks : decodable (cutoff h.apis e) name ≡ true → Speaks h.apis name
  decodable_speaks reads =
      let (introduced, stays) = and_parts (has_change is_introduction (cutoff h.apis e) name) (not (has_change is_forgetting (cutoff h.apis e) name)) reads in
      let any = (introduced_dated h.apis name e).0 introduced in
      (any.0, any.1, any.2, any.3, (λ i. record { group = any.4.0.group i; version = any.4.0.version i; resource = any.4.0.resource i }))

module _ (h : Dated) (accepted : IsAccepted h) (e : ℕ) (gates : Gates) (on_names : List GroupVersionResource) (versions : List KnownVersion) (gathered : IsGathered (tables_at h e gates) on_names h.apis versions) where
  pub are_known : AreKnown (tables_at h e gates) on_names versions
  are_known = record {
    order = gathered.order;
    exact = λ v. ((λ there. ((gathered.exact v).0 there).0), (λ known. (gathered.exact v).1 (known, decodable_speaks h accepted e (name_of v) known.decodes)));
    each_decodable = λ name reads. gathered.each name (decodable_speaks h accepted e name reads) reads;
    each_live = λ name lives. let reads = live_decodable h accepted e name lives in gathered.each name (decodable_speaks h accepted e name reads) reads;
  }

pub shaped_versions : (xs : List ApiEntry) → AllByRecursion IsShapedApi xs → All (λ x. IsVersion x.version) xs
shaped_versions xs shaped = All-weaker IsShapedApi (λ x. IsVersion x.version) (λ x s. s.version) xs (All-from_recursion IsShapedApi xs shaped)
