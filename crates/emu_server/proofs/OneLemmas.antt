-- Words and bytes have one answer.
use Rattle.std.proofs.Common.{◌≡◌, inl, inr, ℕ, List, sym, ◌∙◌, subst}
use Rattle.commands.proofs.OneLemmas.{one_of, work_one}
use Rattle.commands.specs.Laws.{AreOne}
use Rattle.commands.specs.Work.{IsWork}
use Rattle.commands.specs.declared.status.Status.{Status}
use Rattle.commands.specs.declared.status.Status.TheVariants as status
use Rattle.schemas.specs.Dated.{Dated}
use Rattle.words.specs.Laws.{HasOneCommand}
use Rattle.words.specs.declared.command.Command.{Command}
use Rattle.emu_server.specs.Answer.{IsAnswerTo}
use Rattle.emu_server.specs.Laws.{HasOneAnswer}
use Rattle.emu_server.proofs.HistoryLemmas.{few_releases, one_accepted, one_line, refused_or_accepted}

to_one : (c : Command) (bytes : List ℕ) (s t : Status) (x y : List ℕ) → IsAnswerTo c bytes s x → IsAnswerTo c bytes t y → AreOne s t x y
to_one c bytes s t x y (inl a) (inl b) = one_of status.History a.0 b.0 (one_line bytes x y a.1 b.1)
to_one c bytes s t x y (inl a) (inr b) = absurd (refused_or_accepted bytes x b.history a.1 b.means)
to_one c bytes s t x y (inr a) (inl b) = absurd (refused_or_accepted bytes y a.history b.1 a.means)
to_one c bytes s t x y (inr a) (inr b) =
    let same = one_accepted bytes a.history b.history a.means b.means in
    work_one b.history c s t x y b.means.accepted (few_releases bytes b.history b.means.means) (subst (λ (h : Dated). IsWork c h s x) same a.work) b.work

pub one_answer : (words : List (List ℕ)) (bytes : List ℕ) → HasOneCommand words → HasOneAnswer words bytes
one_answer words bytes one s t x y (inl a) (inl b) = one_of status.Usage a.0 b.0 (a.2 ∙ sym b.2)
one_answer words bytes one s t x y (inl a) (inr b) = absurd (a.1 (b.0, b.1, b.2))
one_answer words bytes one s t x y (inr a) (inl b) = absurd (b.1 (a.0, a.1, a.2))
one_answer words bytes one s t x y (inr a) (inr b) =
    to_one b.0 bytes s t x y (subst (λ (c : Command). IsAnswerTo c bytes s x) (one a.0 b.0 a.1 b.1) a.3) b.3
