-- The entry that stores what a request gives an object is within the journal's limit.
use Rattle.std.proofs.Common.{◌≡◌, inl, inr, ℕ, ◌+◌, ◌≤◌, List, [], ◌∷◌, ◌++◌, length, codes, decimal, Contains, Option, Some, None, option_and_then, ◌&&◌, refl, sym, ◌∙◌, ap, subst, bytes_eq, arith}
use Rattle.std.specs.List.{AllByRecursion}
use Rattle.std.specs.Prelude.{nat_le}
use Rattle.std.specs.Int.{w16, to_be_bytes}
use Rattle.std.proofs.lemmas.Bool.{and_parts}
use Rattle.std.proofs.lemmas.Fmt.{length-decimal-le}
use Rattle.std.proofs.lemmas.List.{length-append}
use Rattle.std.proofs.lemmas.List.Elements.{All-contains}
use Rattle.std.proofs.lemmas.Slice.Eq.{bytes_eq-Decides}
use Rattle.body_bound.specs.Entries.{IsShortKey}
use Rattle.body_bound.specs.Puts.{IsWithin, PutsAreWithin}
use Rattle.body_bound.specs.Shown.{HasShortNames, longest_shown}
use Rattle.body_bound.proofs.ShownLemmas.{body_within}
use Rattle.conversion.specs.declared.mode.Mode.TheVariants.{Body}
use Rattle.fields.specs.declared.table.VersionTable.{VersionTable}
use Rattle.lifecycle.specs.Entry.{GroupVersionResource}
use Rattle.lifecycle.specs.Names.{group_version}
use Rattle.lifecycle.specs.Tables.{cutoff, is_introduction, is_of, first_change}
use Rattle.lifecycle.specs.Version.{IsLevel, IsWord, level_text, word_text}
use Rattle.lifecycle.specs.declared.entry.ApiChange.{ApiChange}
use Rattle.lifecycle.specs.declared.entry.ApiChange.TheVariants.{Introduced, Deprecated, Removed, Forgotten}
use Rattle.lifecycle.specs.declared.entry.ApiEntry.{ApiEntry}
use Rattle.lifecycle.specs.declared.version.Level.{Level}
use Rattle.lifecycle.specs.declared.version.Level.TheVariants.{Ga, Beta, Alpha}
use Rattle.lifecycle.specs.declared.version.VersionWord.{VersionWord}
use Rattle.lifecycle.proofs.TableLemmas.{first_change-cutoff}
use Rattle.object_journal.specs.Payload.{body_of, text_field}
use Rattle.object_journal.specs.declared.entry.Entry.{Entry}
use Rattle.object_store.specs.Records.{put_of}
use Rattle.release_view.specs.Kept.{IsKept, IsSpelled}
use Rattle.release_view.specs.Known.{Naming, name_of, naming_of, naming_in}
use Rattle.release_view.specs.Later.{AreOfOneHistory}
use Rattle.release_view.specs.Views.{Viewed}
use Rattle.release_view.specs.declared.known.KnownVersion.{KnownVersion}
use Rattle.release_view.proofs.ListLemmas.{Member, member, found}
use Rattle.schemas.specs.Dated.{Dated, IsShaped}
use Rattle.schemas.specs.Shapes.{IsShapedApi, IsShapedChange}
use Rattle.serde_json.specs.Written.{compact_text}
use Rattle.storage_version.specs.Bodies.{IsBodyOf}
use Rattle.storage_version.proofs.ReadLemmas.{lawful_in}
use Rattle.storage_version.proofs.StandingLemmas.{stored_version}

-- ---- the names of a version

level_short : (l : Level) → IsLevel l → length (level_text l) ≤ 8
level_short Ga h = omega arith
level_short (Beta n) h = let below = h.1 in
    let digits = length-decimal-le 3 n (omega arith) (omega (arith, below)) (omega (arith, below)) in
    let both = length-append (codes "beta") (decimal n) in
    let word : length (codes "beta") ≡ 4 = refl in
    omega (arith, digits, both, word)
level_short (Alpha n) h = let below = h.1 in
    let digits = length-decimal-le 3 n (omega arith) (omega (arith, below)) (omega (arith, below)) in
    let both = length-append (codes "alpha") (decimal n) in
    let word : length (codes "alpha") ≡ 5 = refl in
    omega (arith, digits, both, word)

word_short : (w : VersionWord) → IsWord w → length (word_text w) ≤ 12
word_short w h = let below = h.0.1 in
    let digits = length-decimal-le 3 w.major (omega arith) (omega (arith, below)) (omega (arith, below)) in
    let level = level_short w.level h.1 in
    let both = length-append (decimal w.major) (level_text w.level) in
    omega (arith, digits, level, both)

group_version_short : (group version : List ℕ) → length (group_version group version) ≤ length group + 1 + length version
group_version_short [] version = omega arith
group_version_short (c ∷ cs) version =
    let both = length-append ((c ∷ cs) ++ codes "/") version in
    let front = length-append (c ∷ cs) (codes "/") in
    omega (arith, both, front)

-- ---- what a history says of a version

told_kind : Option Naming → List ℕ
told_kind None = []
told_kind (Some n) = n.kind

kind_short : (c : ApiChange) (n : Naming) → IsShapedChange c → naming_of c ≡ Some n → length n.kind ≤ 63
unfolding told_kind
kind_short (Introduced kind singular namespaced enabled) n shaped e =
    let same : kind ≡ n.kind = ap told_kind e in
    let size = ap length same in
    let short = shaped.0.short in
    omega (arith, size, short)
kind_short (Deprecated removal replacement) n shaped e = absurd (let clash : None ≡ Some n = e in cc)
kind_short Removed n shaped e = absurd (let clash : None ≡ Some n = e in cc)
kind_short Forgotten n shaped e = absurd (let clash : None ≡ Some n = e in cc)

shaped_member : (xs : List ApiEntry) (x : ApiEntry) → AllByRecursion IsShapedApi xs → Member x xs → IsShapedApi x
shaped_member [] x all there = absurd there
shaped_member (y ∷ ys) x all (inl same) = subst IsShapedApi same all.0
shaped_member (y ∷ ys) x all (inr later) = shaped_member ys x all.1 later

-- the names that an introduction gives
pub record HasShortWords (group resource kind : List ℕ) : Type 0 where
  pub group_short : length group ≤ 63
  pub resource_short : length resource ≤ 63
  pub kind_short : length kind ≤ 63

words_by : (entries : List ApiEntry) (e : ℕ) (name : GroupVersionResource) (n : Naming) → AllByRecursion IsShapedApi entries
    → (o : Option ApiEntry) → first_change is_introduction (cutoff entries e) name ≡ o → option_and_then (λ x. naming_of x.change) o ≡ Some n → HasShortWords name.group name.resource n.kind
words_by entries e name n shaped None is h = absurd (let clash : None ≡ Some n = h in cc)
words_by entries e name n shaped (Some x) is h =
    let (there, passes) = found (λ y. nat_le y.since e && (is_of name y && is_introduction y.change)) entries x (sym (first_change-cutoff is_introduction entries e name) ∙ is) in
    let one = shaped_member entries x shaped (member entries x there) in
    let dated = and_parts (nat_le x.since e) (is_of name x && is_introduction x.change) passes in
    let of = and_parts (is_of name x) (is_introduction x.change) dated.1 in
    let parts = and_parts (bytes_eq x.group name.group && bytes_eq x.version name.version) (bytes_eq x.resource name.resource) of.0 in
    let front = and_parts (bytes_eq x.group name.group) (bytes_eq x.version name.version) parts.0 in
    let group : x.group ≡ name.group = (bytes_eq-Decides x.group name.group).0 front.0 in
    let resource : x.resource ≡ name.resource = (bytes_eq-Decides x.resource name.resource).0 parts.1 in
    record {
      group_short = subst (λ (t : List ℕ). length t ≤ 63) group one.group.short;
      resource_short = subst (λ (t : List ℕ). length t ≤ 63) resource one.resource.short;
      kind_short = kind_short x.change n one.change h;
    }

words_short : (history : Dated) (back view : Viewed) (v : KnownVersion) → IsShaped history → AreOfOneHistory history back view → Contains view.versions v → HasShortWords v.table.group v.table.resource v.table.kind
words_short history back view v shaped one there =
    let known = (one.of_view.of_versions.exact v).0 there in
    words_by history.apis view.minor (name_of v) (naming_in v) shaped.apis (first_change is_introduction (cutoff history.apis view.minor) (name_of v)) refl known.named_as

-- ---- the entry

text_size : (t : List ℕ) → length (text_field t) ≡ 2 + length t
text_size t = let both = length-append (to_be_bytes w16 (length t)) t in omega (arith, both)

entry_within : (e : Entry) → IsShortKey e.key → length (body_of e.change) ≤ longest_shown → IsWithin e
entry_within e short body =
    let group = short.group in
    let resource = short.resource in
    let namespace = short.namespace in
    let name = short.name in
    let k = e.key in
    let first = length-append k.group (text_field k.resource) in
    let second = length-append (k.group ++ text_field k.resource) (text_field k.namespace) in
    let third = length-append (k.group ++ text_field k.resource ++ text_field k.namespace) (text_field k.name) in
    let whole = length-append (k.group ++ text_field k.resource ++ text_field k.namespace ++ text_field k.name) (body_of e.change) in
    let a = text_size k.resource in
    let b = text_size k.namespace in
    let c = text_size k.name in
    record {
      texts = record {
        group = omega (arith, group);
        resource = omega (arith, resource);
        namespace = omega (arith, namespace);
        name = omega (arith, name);
      };
      payload = omega (arith, group, resource, namespace, name, first, second, third, whole, a, b, c, body);
    }

pub puts_within : (back view : Viewed) → IsKept view → PutsAreWithin back view
puts_within back view kept history key object entry shaped one given (item, is, stored) =
    let v = stored_version back.versions view.versions key.group key.resource stored.table stored.in_version in
    let same = kept.alike given.version v.version given.among v.among (given.of_group ∙ sym v.of_group) (given.of_resource ∙ sym v.of_resource) in
    let body : IsBodyOf v.version.table object.fields item.body = subst (λ (t : VersionTable). IsBodyOf t object.fields item.body) (sym v.is) stored.body in
    let words = words_short history back view v.version shaped one v.among in
    let group = words.group_short in
    let kind = words.kind_short in
    let spelled = All-contains IsSpelled view.versions v.version kept.spelled v.among in
    let word = word_short v.version.word spelled.lawful in
    let version = ap length spelled.text in
    let both = group_version_short v.version.table.group v.version.table.version in
    let names : HasShortNames (group_version v.version.table.group v.version.table.version) v.version.table.kind = record {
      versioned = omega (arith, group, word, version, both);
      of_kind = kind;
    } in
    let text = body_within given.version.table v.version.table (lawful_in view.versions given.version kept.lawful given.among) (lawful_in view.versions v.version kept.lawful v.among) same
    Body given.body given.held object.fields (group_version v.version.table.group v.version.table.version) body.tree given.read given.kept names body.whole in
    let size : length item.body ≡ length (compact_text body.tree) = ap length body.compact in
    let short : IsShortKey key = record {
      group = subst (λ (t : List ℕ). length t ≤ 63) v.of_group words.group_short;
      resource = subst (λ (t : List ℕ). length t ≤ 63) v.of_resource words.resource_short;
      namespace = given.namespace;
      name = given.name;
    } in
    subst IsWithin is (entry_within (put_of item) (subst IsShortKey (sym stored.of_key) short) (omega (arith, text, size)))
