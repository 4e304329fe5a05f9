use Rattle.std.proofs.Common.{◌≡◌, List, ℕ, string_bytes, ◌∙◌, sym, subst}
use Rattle.std.specs.Str.{IsUtf8}
use Rattle.serde_json.specs.Read.{read}
use Rattle.serde_json.specs.View.{view as tree_of}
use Rattle.serde_json.specs.Data.{Data}
use Rattle.std.specs.Prelude.{Some}
use Rattle.storage_version.specs.Bodies.{IsBodyOf}
use Rattle.storage_version.proofs.BodyLemmas.{body_made, ok_is}
use Rattle.storage_version.proofs.body.encode_body.Goals as goal

pub returns : goal.returns
returns c =
    let tree : Data = tree_of c.in_ok-object.object in
    let bytes : List ℕ = string_bytes c.in_ok-text.text in
    let own : IsUtf8 bytes = subst IsUtf8 c.as_str-2.ensures.value c.as_str-2.utf8 in
    let made = body_made c.args.table.now c.as_str.result.now c.args.fields.now tree bytes (c.as_str.ensures.value ∙ c.in_ok-version.ensures) c.in_ok-object.ensures.whole
    (c.in_ok-text.ensures.text c.in_ok-object.ensures.no_float) own (c.in_ok-text.ensures.reads_back (c.in_ok-object.ensures.shallow tt)) in
    let same : c.as_bytes.result.now ≡ bytes = c.as_bytes.ensures.value ∙ c.as_str-2.ensures.value in
    ok_is (IsBodyOf c.args.table.now c.args.fields.now) c.copy.result c.as_bytes.result.now c.copy.ensures (subst (IsBodyOf c.args.table.now c.args.fields.now) (sym same) made)
