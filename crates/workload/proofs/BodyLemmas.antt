-- Bodies have no floats.
use Rattle.std.proofs.Common.{◌≡◌, ℕ, false, List, Some, Ordering, Less, Equal, Greater, nat_cmp, refl, ◌∙◌, ap, subst, arith}
use Rattle.std.specs.Cmp.Lexicographic.{slice_cmp}
use Rattle.std.specs.Ordering.{match_ordering}
use Rattle.conversion.specs.Code.{members_in}
use Rattle.conversion.specs.Showing.{Shows}
use Rattle.conversion.specs.Whole.{metadata}
use Rattle.conversion.proofs.ObjectLemmas.{object_is, members_plain}
use Rattle.fields.specs.declared.map.FieldPair.{FieldPair}
use Rattle.fields.specs.declared.table.VersionTable.{VersionTable}
use Rattle.serde_json.specs.Data.{Data, object, Members, no_members, member, put}
use Rattle.serde_json.specs.Written.{compact_text, has_float, members_have_float}
use Rattle.workload.specs.Requests.{IsBody, named}

put_at : (o : Ordering) (k l : List ℕ) (d e : Data) (ms : Members) → has_float d ≡ false → members_have_float (member l e ms) ≡ false → (members_have_float ms ≡ false → members_have_float (put k d ms) ≡ false)
    → members_have_float (match_ordering o (member k d (member l e ms)) (member l d ms) (member l e (put k d ms))) ≡ false
put_at Less k l d e ms new old later = grind arith
put_at Equal k l d e ms new old later = grind arith
put_at Greater k l d e ms new old later = grind arith

put_plain : (k : List ℕ) (d : Data) (ms : Members) → has_float d ≡ false → members_have_float ms ≡ false → members_have_float (put k d ms) ≡ false
put_plain k d no_members new old = grind arith
put_plain k d (member l e ms) new old = put_at (slice_cmp nat_cmp k l) k l d e ms new old (put_plain k d ms new)

pub described_plain : (shown own tree : Data) (name : List ℕ) → has_float shown ≡ false → own ≡ named name → tree ≡ object (put metadata own (members_in (Some shown))) → has_float tree ≡ false
described_plain shown own tree name plain is e =
    ap has_float (e ∙ ap (λ d. object (put metadata d (members_in (Some shown)))) is) ∙ put_plain metadata (named name) (members_in (Some shown)) refl (members_plain shown plain)

pub body_is : (table : VersionTable) (held : List FieldPair) (shown own tree : Data) (name body : List ℕ) → Shows table.rows held shown → own ≡ named name → tree ≡ object (put metadata own (members_in (Some shown))) → body ≡ compact_text tree
    → IsBody table held name body
body_is table held shown own tree name body shows is e text = record {
  members = members_in (Some shown);
  shows = subst (Shows table.rows held) (object_is shown shows.object) shows;
  compact = text ∙ ap compact_text (e ∙ ap (λ d. object (put metadata d (members_in (Some shown)))) is);
}
