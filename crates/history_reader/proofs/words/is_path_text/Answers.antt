use Rattle.std.proofs.Common.{rules, arith, ◌==◌, ◌<◌, length}
use Rattle.std.proofs.lemmas.List.Splits.{length-slice_split}
use Rattle.history_reader.specs.Words.{path_in}
use Rattle.history_reader.proofs.words.is_path_text.Goals as goal

pub returns-then-count_segments-le-LONGEST_PATH : goal.returns-then-count_segments-le-LONGEST_PATH
returns-then-count_segments-le-LONGEST_PATH c =
    let counted = length-slice_split (λ b. b == 46) c.args.text.now in
    let some : 0 < length (path_in c.args.text.now) = omega arith in
    search rules
