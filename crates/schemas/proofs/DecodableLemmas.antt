-- What is decodable in the tables of a release is introduced and not forgotten at it.
use Rattle.std.proofs.Common.{◌≡◌, ◌↔◌, not, ℕ, true, List, refl}
use Rattle.std.proofs.lemmas.Bool.{and_parts, and_from, both_ways, false≢true, not-true, not_from_false, false_from_ne_true}
use Rattle.lifecycle.specs.Entry.{GroupVersionResource, IsIntroduced}
use Rattle.lifecycle.specs.Tables.{cutoff, is_introduction, is_forgetting, has_change}
use Rattle.lifecycle.specs.declared.entry.ApiChange.{ApiChange}
use Rattle.lifecycle.specs.declared.entry.ApiChange.TheVariants.{Introduced, Deprecated, Removed, Forgotten}
use Rattle.lifecycle.specs.declared.entry.ApiEntry.{ApiEntry}
use Rattle.lifecycle.proofs.TableLemmas.{change_dated, introduced_dated}
use Rattle.schemas.specs.ApiRules.{IsForgetting, IsForgotten}
use Rattle.schemas.specs.Laws.{IsDecodable}

forgettings : (c : ApiChange) → (is_forgetting c ≡ true) ↔ IsForgetting c
forgettings (Introduced kind singular namespaced enabled) = ((λ h. absurd (false≢true h)), (λ h. absurd h))
forgettings (Deprecated removal replacement) = ((λ h. absurd (false≢true h)), (λ h. absurd h))
forgettings Removed = ((λ h. absurd (false≢true h)), (λ h. absurd h))
forgettings Forgotten = ((λ h. tt), (λ h. refl))

forgotten_dated : (entries : List ApiEntry) (name : GroupVersionResource) (e : ℕ) → (has_change is_forgetting (cutoff entries e) name ≡ true) ↔ IsForgotten entries name e
forgotten_dated entries name e = change_dated name e is_forgetting IsForgetting entries forgettings

pub decodable_dated : (entries : List ApiEntry) (name : GroupVersionResource) (e : ℕ) → IsDecodable entries name e ↔ (IsIntroduced entries name e × ¬ IsForgotten entries name e)
decodable_dated entries name e = (
  λ h.
      let parts = and_parts (has_change is_introduction (cutoff entries e) name) (not (has_change is_forgetting (cutoff entries e) name)) h in
      ((introduced_dated entries name e).0 parts.0, (λ r. both_ways (has_change is_forgetting (cutoff entries e) name) (not-true _ parts.1) ((forgotten_dated entries name e).1 r))),
  λ h.
      and_from (has_change is_introduction (cutoff entries e) name) (not (has_change is_forgetting (cutoff entries e) name)) ((introduced_dated entries name e).1 h.0)
      (not_from_false _ (false_from_ne_true _ (λ r. h.1 ((forgotten_dated entries name e).0 r)))),
)
