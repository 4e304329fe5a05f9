-- The resource that a view serves under a name.
use Rattle.std.proofs.Common.{◌≡◌, Bool, true, false, Some, None, List, sym, ◌∙◌, ap, subst, cond}
use Rattle.std.specs.Prelude.{option_and_then, option_map}
use Rattle.fields.specs.Table.{AreLawful}
use Rattle.fields.specs.declared.table.VersionTable.{VersionTable}
use Rattle.lifecycle.specs.Entry.{GroupVersionResource}
use Rattle.release_view.specs.Known.{name_of, table_name}
use Rattle.release_view.specs.Laws.{FindsEach}
use Rattle.release_view.specs.Served.{shown, shown_name, served_as, served_of}
use Rattle.release_view.specs.Views.{Viewed, is_shown_as, version_in, table_in, served_in}
use Rattle.release_view.specs.declared.known.KnownVersion.{KnownVersion}
use Rattle.release_view.specs.declared.served.ServedVersion.{ServedVersion}
use Rattle.release_view.proofs.ListLemmas.{found, given_of, some_is}
use Rattle.request_target.specs.Resources.{IsTableOf}
use Rattle.request_target.specs.Targets.{Resource, resource_in}
use Rattle.request_target.specs.Told.{IsResourceIn}

shown_as : (v : KnownVersion) (b : Bool) (s : ServedVersion) → cond b (Some (shown v)) None ≡ Some s → shown v ≡ s
shown_as v true s e = some_is (shown v) s e
shown_as v false s e = absurd (let clash : None ≡ Some s = e in cc)

module _ (versions : List KnownVersion) (name : GroupVersionResource) where
  -- what is served under the name and the table found there are of one version
  pub is_resource : (s : ServedVersion) (t : VersionTable) → FindsEach versions → served_in versions name ≡ Some s → shown_name s ≡ name → table_in versions name ≡ Some t → IsResourceIn versions (record { served = s; table = t })
  is_resource s t finds served named table =
      let (there, passes) = found (is_shown_as name) (served_of versions) s served in
      let (v, among, as_shown) = given_of served_as versions s there in
      let is_shown : shown v ≡ s = shown_as v v.served s as_shown in
      let of_name : name_of v ≡ name = ap shown_name is_shown ∙ named in
      let first : version_in versions name ≡ Some v = subst (λ n. version_in versions n ≡ Some v) of_name (finds.by_name v among) in
      record {
        version = v;
        among = among;
        table = some_is v.table t (sym (ap (option_map (λ (w : KnownVersion). w.table)) first) ∙ table);
        served = is_shown;
      }

-- the table of a resource is its own
pub own_table : (versions : List KnownVersion) (s : ServedVersion) (t : VersionTable) → IsResourceIn versions (record { served = s; table = t }) → AreLawful t.rows → IsTableOf s t
own_table versions s t h lawful = record {
  named = ap table_name (sym h.table) ∙ ap shown_name h.served;
  of_kind = ap (λ (u : VersionTable). u.kind) (sym h.table) ∙ ap (λ (u : ServedVersion). u.kind) h.served;
  lawful = lawful;
}

-- what is served under the name, with its table
pub resource_found : (view : Viewed) (name : GroupVersionResource) (s : ServedVersion) (t : VersionTable) → Some s ≡ served_in view.versions name → Some t ≡ table_in view.versions name → Some (record { served = s; table = t }) ≡ resource_in view name
resource_found view name s t served table =
    let of : ServedVersion → VersionTable → Resource = λ w u. record { served = w; table = u } in
    ap (option_map (of s)) table ∙ ap (option_and_then (λ w. option_map (of w) (table_in view.versions name))) served
