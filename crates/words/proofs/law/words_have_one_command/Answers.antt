use Rattle.words.specs.Settings.{texts_of}
use Rattle.words.proofs.OneLemmas.{one_command}
use Rattle.words.proofs.law.words_have_one_command.Goals as goal

pub returns : goal.returns
returns c = one_command (texts_of c.args.words.now)
