-- What is stored is read again; and what is read.
use Rattle.std.proofs.Common.{◌≡◌, ℕ, ◌<◌, ◌&&◌, Bool, true, false, List, Option, Some, None, option_map, option_and_then, find, get_or, Contains, refl, sym, ◌∙◌, ap, subst, bytes_eq, nat_le, inl, inr}
use Rattle.std.specs.Prelude.{slice_get}
use Rattle.std.proofs.lemmas.Bool.{and_parts, cases_order, false≢true}
use Rattle.std.proofs.lemmas.List.Elements.{All-contains}
use Rattle.std.proofs.lemmas.Option.{slice_get-get_or}
use Rattle.std.proofs.lemmas.Slice.Eq.{bytes_eq-Decides}
use Rattle.conversion.proofs.FaultLemmas.{fits_alike}
use Rattle.conversion.proofs.LessLemmas.{reads_less}
use Rattle.conversion.proofs.ReadLemmas.{read_fits, reads_as_one}
use Rattle.conversion.proofs.WholeReadLemmas.{whole_reads}
use Rattle.conversion.specs.Reading.{Reads}
use Rattle.conversion.specs.Whole.{IsTextOf, IsWhole}
use Rattle.conversion.specs.declared.mode.Mode.TheVariants.{Stored}
use Rattle.fields.specs.Fits.{Fits, restricted}
use Rattle.fields.specs.Table.{AreLawful}
use Rattle.fields.specs.declared.map.FieldPair.{FieldPair}
use Rattle.fields.specs.declared.table.VersionTable.{VersionTable}
use Rattle.lifecycle.specs.Entry.{GroupVersionResource, subject, IsIntroduction}
use Rattle.lifecycle.specs.Names.{group_version}
use Rattle.lifecycle.specs.Tables.{cutoff, is_of, is_introduction, first_change}
use Rattle.lifecycle.specs.declared.entry.ApiChange.{ApiChange}
use Rattle.lifecycle.specs.declared.entry.ApiChange.TheVariants.{Introduced, Deprecated, Removed, Forgotten}
use Rattle.lifecycle.specs.declared.entry.ApiEntry.{ApiEntry}
use Rattle.lifecycle.proofs.TableLemmas.{first_change-cutoff, subject_is}
use Rattle.release_view.specs.Kept.{IsKept}
use Rattle.release_view.specs.Known.{Naming, name_of, table_name, naming, naming_of, tables_at}
use Rattle.release_view.specs.Later.{AreOfOneHistory, ReadsLiveOf}
use Rattle.release_view.specs.Laws.{FindsEach, TellsTables, IsTableIn}
use Rattle.release_view.specs.Spelling.{HaveLawfulTables, SpellAlike}
use Rattle.release_view.specs.Views.{Viewed, has_name, table_in, version_in, version_table_in, best_table_in, is_live_of, is_of_resource, has_version_text, IsOfResource}
use Rattle.release_view.specs.declared.known.KnownVersion.{KnownVersion}
use Rattle.release_view.proofs.ListLemmas.{found, some_is}
use Rattle.release_view.proofs.LookupLemmas.{of_resource, found_resource}
use Rattle.schemas.specs.Dated.{Dated}
use Rattle.schemas.specs.Laws.{AreOfOneVersion}
use Rattle.schemas.specs.Rules.{IsAccepted}
use Rattle.schemas.proofs.LawLemmas.{introduced_once}
use Rattle.serde_json.specs.Data.{Data}
use Rattle.serde_json.specs.Find.{as_str}
use Rattle.storage_version.specs.Bodies.{IsBodyOf, IsNamed, IsObjectRead, IsBodyRead}
use Rattle.storage_version.specs.Laws.{ReadsOwn, ReadsKnown, ReadsOnce, ReadsFitting}
use Rattle.storage_version.specs.Storage.{or_else, storage_version_of, storage_table_in}

-- ---- tables that are found

-- a table that a look-up gives is that of a version that passes
known_at : (test : KnownVersion → Bool) (versions : List KnownVersion) (table : VersionTable) (o : Option KnownVersion) → find test versions ≡ o → option_map (λ v. v.table) o ≡ Some table
    → (v : KnownVersion) × Contains versions v × (test v ≡ true) × (v.table ≡ table)
known_at test versions table None is h = absurd (let clash : None ≡ Some table = h in cc)
known_at test versions table (Some v) is h = let (among, passes) = found test versions v is in (v, among, passes, some_is v.table table h)

pub known_by : (test : KnownVersion → Bool) (versions : List KnownVersion) (table : VersionTable) → option_map (λ v. v.table) (find test versions) ≡ Some table
    → (v : KnownVersion) × Contains versions v × (test v ≡ true) × (v.table ≡ table)
known_by test versions table h = known_at test versions table (find test versions) refl h

pub lawful_in : (versions : List KnownVersion) (v : KnownVersion) → HaveLawfulTables versions → Contains versions v → AreLawful v.table.rows
lawful_in versions v lawful there = All-contains (λ w. AreLawful w.table.rows) versions v lawful there

-- ---- one release

pub reads_own : (versions : List KnownVersion) → HaveLawfulTables versions → FindsEach versions → ReadsOwn versions
reads_own versions lawful finds = λ v held body there fits stored. record {
  tree = stored.tree;
  text = stored.text;
  object = record {
    table = v.table;
    named = record {
      version = group_version v.table.group v.table.version;
      versioned = ap (option_and_then as_str) stored.whole.versioned;
      found = finds.by_text v there;
      of_kind = ap (option_and_then as_str) stored.whole.of_kind;
    };
    reads = whole_reads v.table (group_version v.table.group v.table.version) held None stored.tree (lawful_in versions v lawful there) fits stored.whole;
  };
}

-- the table that an object names is that of a version of the resource
pub named_version : (versions : List KnownVersion) (group resource : List ℕ) (tree : Data) (table : VersionTable) → IsNamed versions group resource tree table
    → (v : KnownVersion) × Contains versions v × (v.table ≡ table) × (v.table.group ≡ group) × (v.table.resource ≡ resource)
named_version versions group resource tree table named =
    let (v, there, passes, is) = known_by (is_of_resource named.version group resource) versions table named.found in
    let parts = and_parts (has_version_text named.version v && bytes_eq v.table.group group) (bytes_eq v.table.resource resource) passes in
    let front = and_parts (has_version_text named.version v) (bytes_eq v.table.group group) parts.0 in
    (v, there, is, (bytes_eq-Decides v.table.group group).0 front.1, (bytes_eq-Decides v.table.resource resource).0 parts.1)

named_of_text : (versions : List KnownVersion) (text group resource : List ℕ) (table : VersionTable) (o : Option KnownVersion) → find (is_of_resource text group resource) versions ≡ o → option_map (λ v. v.table) o ≡ Some table → IsOfResource text group resource table
named_of_text versions text group resource table None is h = absurd (let clash : None ≡ Some table = h in cc)
named_of_text versions text group resource table (Some v) is h = subst (λ (t : VersionTable). IsOfResource text group resource t) (some_is v.table table h) (found_resource versions text group resource v is)

-- and it is of the version that the object tells
pub named_text : (versions : List KnownVersion) (group resource : List ℕ) (tree : Data) (table : VersionTable) → (named : IsNamed versions group resource tree table) → IsOfResource named.version group resource table
named_text versions group resource tree table named = named_of_text versions named.version group resource table (find (is_of_resource named.version group resource) versions) refl named.found

pub reads_fitting : (versions : List KnownVersion) → HaveLawfulTables versions → SpellAlike versions → ReadsFitting versions
reads_fitting versions lawful alike = λ v body held there read.
    let object = read.object in
    let (w, among, is, of_group, of_resource) = named_version versions v.table.group v.table.resource read.tree object.table object.named in
    let reads : Reads Stored w.table.rows read.tree held = subst (λ (t : VersionTable). Reads Stored t.rows read.tree held) (sym is) object.reads in
    fits_alike w.table.rows v.table.rows held (alike w v among there of_group of_resource) (read_fits Stored w.table.rows read.tree held (lawful_in versions w lawful among) reads)

-- an object names one table
pub one_named : (versions : List KnownVersion) (group resource : List ℕ) (tree : Data) (a b : VersionTable) → IsNamed versions group resource tree a → IsNamed versions group resource tree b → a ≡ b
one_named versions group resource tree a b p q =
    let version : p.version ≡ q.version = some_is p.version q.version (sym p.versioned ∙ q.versioned) in
    some_is a b (sym p.found ∙ ap (λ v. version_table_in versions v group resource) version ∙ q.found)

-- and a body is the text of one object
pub one_tree : (body : List ℕ) (a b : Data) → IsTextOf body a → IsTextOf body b → a ≡ b
one_tree body a b p q = some_is a b (sym p.read ∙ q.read)

pub reads_once : (versions : List KnownVersion) → ReadsOnce versions
reads_once versions = λ group resource body held other a b.
    let x : IsObjectRead versions group resource b.tree held = subst (λ (d : Data). IsObjectRead versions group resource d held) (one_tree body a.tree b.tree a.text b.text) a.object in
    let y = b.object in
    let table : x.table ≡ y.table = one_named versions group resource b.tree x.table y.table x.named y.named in
    reads_as_one Stored y.table.rows b.tree held other (subst (λ (t : VersionTable). Reads Stored t.rows b.tree held) table x.reads) y.reads

-- ---- two releases

introduces : (c : ApiChange) → is_introduction c ≡ true → IsIntroduction c
introduces (Introduced kind singular namespaced enabled) h = tt
introduces (Deprecated removal replacement) h = absurd (false≢true h)
introduces Removed h = absurd (false≢true h)
introduces Forgotten h = absurd (false≢true h)

-- an introduction of the version in a history, with its place
record IsIntroductionAt (h : Dated) (name : GroupVersionResource) (x : ApiEntry) (i : ℕ) : Type 0 where
  stands : slice_get h.apis i ≡ Some x
  of_version : subject x ≡ name
  introduction : IsIntroduction x.change

introduction_at : (h : Dated) (name : GroupVersionResource) (e : ℕ) (x : ApiEntry) → first_change is_introduction (cutoff h.apis e) name ≡ Some x → (i : ℕ) × IsIntroductionAt h name x i
introduction_at h name e x is =
    let test = λ (y : ApiEntry). nat_le y.since e && (is_of name y && is_introduction y.change) in
    let (there, passes) = found test h.apis x (sym (first_change-cutoff is_introduction h.apis e name) ∙ is) in
    let rest = and_parts (nat_le x.since e) (is_of name x && is_introduction x.change) passes in
    let parts = and_parts (is_of name x) (is_introduction x.change) rest.1 in (
      there.0,
      record {
        stands = slice_get-get_or h.apis there.0 x there.1 ∙ ap Some there.2;
        of_version = subject_is name x parts.0;
        introduction = introduces x.change parts.1;
      },
    )

one_introduction : (h : Dated) → IsAccepted h → (name : GroupVersionResource) (x y : ApiEntry) (i j : ℕ) → IsIntroductionAt h name x i → IsIntroductionAt h name y j → x ≡ y
one_introduction h accepted name x y i j a b =
    let same : subject x ≡ subject y = a.of_version ∙ sym b.of_version in
    let there : AreOfOneVersion x y = record { group = ap (λ n. n.group) same; version = ap (λ n. n.version) same; resource = ap (λ n. n.resource) same } in
    let back : AreOfOneVersion y x = record { group = sym there.group; version = sym there.version; resource = sym there.resource } in
    elim (cases_order i j) [
      | inl at ↦ some_is x y (sym a.stands ∙ ap (slice_get h.apis) at ∙ b.stands)
      | inr other ↦ elim other [
        | inl low ↦ absurd (introduced_once h accepted i j x y low a.stands b.stands there a.introduction b.introduction)
        | inr high ↦ absurd (introduced_once h accepted j i y x high b.stands a.stands back b.introduction a.introduction)
      ]
    ]

abbrev naming_at : Option ApiEntry → Option Naming
naming_at o = option_and_then (λ (x : ApiEntry). naming_of x.change) o

one_naming_at : (h : Dated) → IsAccepted h → (name : GroupVersionResource) (m e : ℕ) (a b : Naming) (o p : Option ApiEntry)
    → first_change is_introduction (cutoff h.apis m) name ≡ o → first_change is_introduction (cutoff h.apis e) name ≡ p → naming_at o ≡ Some a → naming_at p ≡ Some b → a ≡ b
one_naming_at h accepted name m e a b None p first second was is = absurd (let clash : None ≡ Some a = was in cc)
one_naming_at h accepted name m e a b (Some x) None first second was is = absurd (let clash : None ≡ Some b = is in cc)
one_naming_at h accepted name m e a b (Some x) (Some y) first second was is =
    let at = introduction_at h name m x first in
    let again = introduction_at h name e y second in
    let same = one_introduction h accepted name x y at.0 again.0 at.1 again.1 in
    some_is a b (sym was ∙ ap (λ (z : ApiEntry). naming_of z.change) same ∙ is)

-- a version is named at one release as at another
one_naming : (h : Dated) → IsAccepted h → (name : GroupVersionResource) (m e : ℕ) (a b : Naming) → naming (cutoff h.apis m) name ≡ Some a → naming (cutoff h.apis e) name ≡ Some b → a ≡ b
one_naming h accepted name m e a b was is =
    one_naming_at h accepted name m e a b (first_change is_introduction (cutoff h.apis m) name) (first_change is_introduction (cutoff h.apis e) name) refl refl was is

some_naming : (o : Option Naming) (kind : List ℕ) → option_map (λ n. n.kind) o ≡ Some kind → (a : Naming) × (o ≡ Some a) × (a.kind ≡ kind)
some_naming None kind h = absurd (let clash : None ≡ Some kind = h in cc)
some_naming (Some a) kind h = (a, refl, some_is a.kind kind h)

module _ (back view : Viewed) (tells_back : TellsTables back) (tells_view : TellsTables view) (history : Dated) (one : AreOfOneHistory history back view) where
  table_back : (name : GroupVersionResource) (t : VersionTable) → table_in back.versions name ≡ Some t → IsTableIn (tables_at history back.minor back.gates) name t
  table_back name t is = (tells_back history back.minor one.back_on one.of_back).tables name t is

  table_view : (name : GroupVersionResource) (t : VersionTable) → table_in view.versions name ≡ Some t → IsTableIn (tables_at history view.minor view.gates) name t
  table_view name t is = (tells_view history view.minor one.on one.of_view).tables name t is

  -- a version has one kind in both
  pub one_kind : (name : GroupVersionResource) (older newer : VersionTable) → table_in back.versions name ≡ Some older → table_in view.versions name ≡ Some newer → older.kind ≡ newer.kind
  one_kind name older newer was is =
      let a = some_naming _ older.kind (table_back name older was).kind in
      let b = some_naming _ newer.kind (table_view name newer is).kind in
      sym a.2 ∙ ap (λ (n : Naming). n.kind) (one_naming history one.accepted name back.minor view.minor a.0 b.0 a.1 b.1) ∙ b.2

-- the best version of the earlier release, as both have it
pub record IsStoredKnown (back view : Viewed) (group resource : List ℕ) (known table : VersionTable) : Type 0 where
  pub version : KnownVersion
  pub among : Contains back.versions version
  pub is : version.table ≡ known
  pub of_group : known.group ≡ group
  pub of_resource : known.resource ≡ resource
  pub older : table_in back.versions (table_name known) ≡ Some known
  pub newer : table_in view.versions (table_name known) ≡ Some table

pub stored_known : (back view : Viewed) → FindsEach back.versions → (group resource : List ℕ) (known table : VersionTable) → best_table_in back.versions group resource ≡ Some known
    → storage_table_in back.versions view.versions group resource ≡ Some table → IsStoredKnown back view group resource known table
stored_known back view finds group resource known table best stored =
    let (v, there, passes, is) = known_by (is_live_of group resource) back.versions known best in
    let of = of_resource group resource v passes in
    let by_name : table_in back.versions (name_of v) ≡ Some v.table = ap (option_map (λ (w : KnownVersion). w.table)) (finds.by_name v there) in
    record {
      version = v;
      among = there;
      is = is;
      of_group = sym (ap (λ (t : VersionTable). t.group) is) ∙ of.0;
      of_resource = sym (ap (λ (t : VersionTable). t.resource) is) ∙ of.1;
      older = subst (λ (t : VersionTable). table_in back.versions (table_name t) ≡ Some t) is by_name;
      newer = subst (λ (o : Option VersionTable). option_and_then (table_in view.versions) (option_map table_name (or_else o (best_table_in view.versions group resource))) ≡ Some table) best stored;
    }

pub reads_known : (back view : Viewed) → HaveLawfulTables view.versions → FindsEach back.versions → TellsTables back → TellsTables view → ReadsLiveOf back view → ReadsKnown back view
reads_known back view lawful finds_back tells_back tells_view later = λ history one group resource known table held body best stored fits is_body.
    let s = stored_known back view finds_back group resource known table best stored in
    let named : table_name table ≡ table_name known = (table_view back view tells_back tells_view history one (table_name known) table s.newer).named in
    let (w, among, passes, is) = known_by (has_name (table_name known)) view.versions table s.newer in
    let lawful_table : AreLawful table.rows = subst (λ (t : VersionTable). AreLawful t.rows) is (lawful_in view.versions w lawful among) in
    let rows = (later history one).rows (table_name known) known table s.older s.newer in
    let kinds : known.kind ≡ table.kind = one_kind back view tells_back tells_view history one (table_name known) known table s.older s.newer in
    let version : group_version table.group table.version ≡ group_version known.group known.version = ap (λ (n : GroupVersionResource). group_version n.group n.version) named in
    let by_text : version_table_in back.versions (group_version known.group known.version) known.group known.resource ≡ Some known =
    subst (λ (t : VersionTable). version_table_in back.versions (group_version t.group t.version) t.group t.resource ≡ Some t) s.is (finds_back.by_text s.version s.among) in
    let whole = is_body.whole in
    record {
      tree = is_body.tree;
      text = is_body.text;
      object = record {
        table = known;
        named = record {
          version = group_version table.group table.version;
          versioned = ap (option_and_then as_str) whole.versioned;
          found = ap (λ v. version_table_in back.versions v group resource) version
              ∙ ap (λ g. version_table_in back.versions (group_version known.group known.version) g resource) (sym s.of_group)
              ∙ ap (λ r. version_table_in back.versions (group_version known.group known.version) known.group r) (sym s.of_resource)
              ∙ by_text;
          of_kind = ap (option_and_then as_str) whole.of_kind ∙ ap Some (sym kinds);
        };
        reads = reads_less known.rows table.rows rows.less is_body.tree held (whole_reads table (group_version table.group table.version) held None is_body.tree lawful_table fits whole);
      };
    }
