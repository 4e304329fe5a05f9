-- The table of a served version.
use Rattle.std.proofs.Common.{◌≡◌, Bool, true, false, Some, None, List, Contains, ap, subst, cond}
use Rattle.std.specs.Prelude.{option_map}
use Rattle.fields.specs.declared.table.VersionTable.{VersionTable}
use Rattle.release_view.specs.Known.{name_of}
use Rattle.release_view.specs.Laws.{FindsEach}
use Rattle.release_view.specs.Served.{shown, shown_name, served_as, served_of}
use Rattle.release_view.specs.Views.{version_in, table_in}
use Rattle.release_view.specs.declared.known.KnownVersion.{KnownVersion}
use Rattle.release_view.specs.declared.served.ServedVersion.{ServedVersion}
use Rattle.release_view.proofs.ListLemmas.{given_of, some_is}

shown_as : (v : KnownVersion) (b : Bool) (s : ServedVersion) → cond b (Some (shown v)) None ≡ Some s → shown v ≡ s
shown_as v true s e = some_is (shown v) s e
shown_as v false s e = absurd (let clash : None ≡ Some s = e in cc)

-- a served version has a table
pub has_table : (versions : List KnownVersion) (s : ServedVersion) → FindsEach versions → Contains (served_of versions) s → (t : VersionTable) × (table_in versions (shown_name s) ≡ Some t)
has_table versions s finds there =
    let (v, among, as_shown) = given_of served_as versions s there in
    let is_shown : shown v ≡ s = shown_as v v.served s as_shown in
    let of_name : name_of v ≡ shown_name s = ap shown_name is_shown in
    (v.table, ap (option_map (λ (w : KnownVersion). w.table)) (subst (λ n. version_in versions n ≡ Some v) of_name (finds.by_name v among)))
