-- A word that has no `=` isn't split.
use Rattle.std.proofs.Common.{◌≡◌, ℕ, List, length, false, arith, lit<}
use Rattle.std.specs.List.{position_or_len}
use Rattle.std.proofs.lemmas.List.Folds.{list_any_none}
use Rattle.std.proofs.lemmas.List.Sums.{fails_before_first}
use Rattle.std.proofs.lemmas.Str.Pattern.{split_once_first}
use Rattle.words.specs.Settings.{has_equals, is_equals}
use Rattle.words.proofs.settings.joined.Goals as goal

none_has : (word : List ℕ) → position_or_len is_equals word ≡ length word → has_equals word ≡ false
none_has word at_end = list_any_none is_equals word (λ k d below. fails_before_first is_equals word k d (omega arith))

pub returns-in-None-clause-none : goal.returns-in-None-clause-none
returns-in-None-clause-none c =
    let h = split_once_first 61 c.args.word.now c.split_once.result c.split_once.ensures.cases (lit< tt) in
    none_has c.args.word.now (rw c.in-None.is at h)
