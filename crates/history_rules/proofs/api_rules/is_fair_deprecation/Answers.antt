use Rattle.std.proofs.Common.{◌≡◌, sym, ◌∙◌, IsTrue}
use Rattle.lifecycle.specs.Version.{IsWord, word_text}
use Rattle.schemas.proofs.JoinLemmas.{levels_of}
use Rattle.schemas.specs.ApiRules.{IsFairDeprecation}
use Rattle.history_rules.proofs.api_rules.is_fair_deprecation.Goals as goal

pub returns : goal.returns
returns c =
    let own = c.in-Some.ensures.some in
    let other = c.in-Some-version_word.ensures.some in
    let own_word : IsWord c.in-Some.own × (c.args.entry.now.version ≡ word_text c.in-Some.own) = (own.0, sym c.bytes.ensures ∙ own.1) in
    let other_word : IsWord c.in-Some-version_word.other × (c.args.replacement.now ≡ word_text c.in-Some-version_word.other) = (other.0, sym c.bytes-2.ensures ∙ other.1) in (
      λ (fair : IsTrue c.is_fair_between.result). record { own = c.in-Some.own; other = c.in-Some-version_word.other; own_word = own_word; other_word = other_word; fair = c.is_fair_between.ensures.0 fair },
      λ (d : IsFairDeprecation c.args.all.now c.args.entry.now c.args.removal c.args.replacement.now). c.is_fair_between.ensures.1 (levels_of c.args.all.now c.args.entry.now c.args.removal c.args.replacement.now c.in-Some.own c.in-Some-version_word.other own_word other_word d),
    )
