-- From what a parse says of a command to the rows of its options.
use Rattle.std.proofs.Common.{◌≡◌, List, [], true, Result, Ok, Err, IfOk, ap, ◌∙◌}
use Rattle.clap.specs.Simple.{App, HasMatchesOf, is_simple, matches_of}
use Rattle.clap.specs.Walk.{Text, rows_after}
use Rattle.clap.specs.declared.parser.matches.ArgMatches.{ArgMatches}
use Rattle.words.specs.Assigned.{AreMatchesOf, rules_named}

pub matched : {E : Type 0} (r : Result ArgMatches E) (app a : App) (names words : List Text) → app ≡ a → is_simple a ≡ true
    → matches_of a words ≡ rows_after (rules_named names) [] words → IfOk r (HasMatchesOf app words) → IfOk r (AreMatchesOf names words)
matched (Ok m) app a names words is simple rows h = (h (ap is_simple is ∙ simple)).0 ∙ ap (λ x. matches_of x words) is ∙ rows
matched (Err e) app a names words is simple rows h = tt
