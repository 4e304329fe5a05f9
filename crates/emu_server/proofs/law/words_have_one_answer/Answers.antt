use Rattle.words.specs.Settings.{texts_of}
use Rattle.emu_server.proofs.OneLemmas.{one_answer}
use Rattle.emu_server.proofs.law.words_have_one_answer.Goals as goal

pub returns : goal.returns
returns c = one_answer (texts_of c.args.words.now) c.args.bytes.now c.words_have_one_command.ensures
