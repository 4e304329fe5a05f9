-- Versions of one resource spell the same fields.
use Rattle.std.proofs.Common.{◌≡◌, ◌&&◌, ℕ, Bool, true, List, Option, Some, None, option_map, option_and_then, find, Contains, refl, sym, ◌∙◌, ap, subst, bytes_eq}
use Rattle.std.proofs.lemmas.Bool.{and_parts}
use Rattle.std.proofs.lemmas.Slice.Eq.{bytes_eq-Decides}
use Rattle.fields.specs.Fits.{AreOfSameFields}
use Rattle.fields.specs.declared.table.VersionTable.{VersionTable}
use Rattle.release_view.specs.Spelling.{SpellAlike}
use Rattle.release_view.specs.Views.{has_version_text, is_of_kind, is_of_resource, kind_table_in, version_table_in}
use Rattle.release_view.specs.declared.known.KnownVersion.{KnownVersion}
use Rattle.release_view.proofs.ListLemmas.{found}
use Rattle.serde_json.specs.Data.{Data}
use Rattle.conversion.specs.Whole.{api_version, kind, text_at}
use Rattle.object_convert.specs.Convert.{table_of}

-- a table that a look-up gives is that of a version that passes
known_at : (test : KnownVersion → Bool) (versions : List KnownVersion) (table : VersionTable) (o : Option KnownVersion) → find test versions ≡ o → option_map (λ v. v.table) o ≡ Some table → (v : KnownVersion) × Contains versions v × (test v ≡ true) × (v.table ≡ table)
known_at test versions table None is h = absurd cc
known_at test versions table (Some v) is h = let (among, passes) = found test versions v is in let same : v.table ≡ table = cc in (v, among, passes, same)

known : (test : KnownVersion → Bool) (versions : List KnownVersion) (table : VersionTable) → option_map (λ v. v.table) (find test versions) ≡ Some table → (v : KnownVersion) × Contains versions v × (test v ≡ true) × (v.table ≡ table)
known test versions table h = known_at test versions table (find test versions) refl h

named_at : (versions : List KnownVersion) (table : VersionTable) (o p : Option (List ℕ)) → option_and_then (λ version. option_and_then (kind_table_in versions version) p) o ≡ Some table → (v : KnownVersion) × Contains versions v × (v.table ≡ table)
named_at versions table None p h = absurd cc
named_at versions table (Some version) None h = absurd cc
named_at versions table (Some version) (Some name) h = let k = known (is_of_kind version name) versions table h in (k.0, k.1, k.3)

pub same_fields : (versions : List KnownVersion) (tree : Data) (to group resource : List ℕ) (table target : VersionTable) → SpellAlike versions → Some table ≡ table_of versions tree → group ≡ table.group → resource ≡ table.resource
    → Some target ≡ version_table_in versions to group resource → AreOfSameFields table.rows target.rows
same_fields versions tree to group resource table target alike is of_group of_resource found =
    let from = named_at versions table (text_at api_version tree) (text_at kind tree) (sym is) in
    let into = known (is_of_resource to group resource) versions target (sym found) in
    let parts = and_parts (has_version_text to into.0 && bytes_eq into.0.table.group group) (bytes_eq into.0.table.resource resource) into.2 in
    let front = and_parts (has_version_text to into.0) (bytes_eq into.0.table.group group) parts.0 in
    let same_group : from.0.table.group ≡ into.0.table.group = ap (λ (t : VersionTable). t.group) from.2 ∙ sym of_group ∙ sym ((bytes_eq-Decides into.0.table.group group).0 front.1) in
    let same_resource : from.0.table.resource ≡ into.0.table.resource = ap (λ (t : VersionTable). t.resource) from.2 ∙ sym of_resource ∙ sym ((bytes_eq-Decides into.0.table.resource resource).0 parts.1) in
    let same = alike from.0 into.0 from.1 into.1 same_group same_resource in
    subst (λ (t : VersionTable). AreOfSameFields t.rows target.rows) from.2 (subst (λ (t : VersionTable). AreOfSameFields from.0.table.rows t.rows) into.3 same)
