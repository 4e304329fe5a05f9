use Rattle.history_reader.proofs.LawLemmas.{one_history, means_or_is_refused, one_fault}
use Rattle.history_reader.proofs.ShapeLemmas.{meaning_is_shaped}
use Rattle.history_reader.proofs.AnswerLemmas.{some_answer}
use Rattle.history_reader.proofs.laws.reading_has_one_answer.Goals as goal

pub returns : goal.returns
returns c = record { one_history = one_history; shaped = meaning_is_shaped; either = means_or_is_refused; some_answer = some_answer; one_fault = one_fault }
