use Rattle.std.proofs.Common.{◌++◌, List, ℕ, IsOk, string_bytes, ap, ◌∙◌, rules}
use Rattle.std.proofs.lemmas.Fmt.{contents_after_writes}
use Rattle.toml_writer.specs.Text.{string_text}
use Rattle.history_toml.proofs.text.quoted.Goals as goal

pub returns-in-Ok : goal.returns-in-Ok
returns-in-Ok c =
    let ok : IsOk c.write_string.result = search rules in
    let text : List ℕ = string_text c.args.text.now in
    let written = c.write_string.ensures c.new-f.ensures.plain ok in
    ap string_bytes c.into_inner.ensures ∙ contents_after_writes _ string_bytes (λ w l v t. t) _ text _ written.wrote ∙ ap (λ l. l ++ text) (ap string_bytes c.new-f.ensures.writer ∙ c.new.ensures.bytes)
