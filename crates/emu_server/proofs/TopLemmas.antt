-- From what was taken of the source to the bytes that it held, and from an answer to the end of a call.
use Rattle.std.proofs.Common.{◌≡◌, ℕ, ◌≤◌, inl, inr, List, ◌++◌, length, Option, Some, None, ap, sym, ◌∙◌, subst}
use Rattle.std.specs.Io.KnownBytes.{Keeps, Appends, Consumes, IsAtEnd}
use Rattle.std.proofs.lemmas.List.{append-nil}
use Rattle.commands.specs.Work.{IsPlain, IsWork}
use Rattle.commands.specs.declared.status.Status.{Status}
use Rattle.commands.specs.declared.status.Status.TheVariants as status
use Rattle.outside.specs.Streams.{AppendsFront}
use Rattle.schemas.specs.Dated.{Dated}
use Rattle.words.specs.Commands.{IsCommand}
use Rattle.words.specs.declared.command.Command.{Command}
use Rattle.words.specs.declared.command.Command.TheVariants.{Check, Convert, Cut, Discover, Fold, Gates, Replay, Serve, Twin}
use Rattle.emu_server.specs.Answer.{IsAnswer, IsAnswerTo, IsCommandLine}
use Rattle.emu_server.specs.Lines.{read_fault_line, usage_line}
use Rattle.emu_server.specs.Run.{IsEnd, IsPlainEnd}
use Rattle.emu_server.specs.Written.{IsWritten}
use Rattle.emu_server.proofs.HistoryLemmas.{accepted_up, refusal_up}

-- ---- the bytes that the source held

-- the bytes that the source held, where these were taken of it
pub held : Option (List ℕ) → List ℕ → List ℕ
held None v = v
held (Some xs) v = xs

pub held-known : (a : Option (List ℕ)) (v : List ℕ) → Keeps a (Some (held a v))
unfolding held
held-known None v = tt
held-known (Some xs) v = λ i. xs

answer_up : (c : Command) (v rest : List ℕ) (s : Status) (text : List ℕ) → (length v ≤ 1048576 → v ≡ v ++ rest)
    → IsAnswerTo c v s text → IsAnswerTo c (v ++ rest) s text
answer_up c v rest s text whole (inl h) = inl (h.0, refusal_up v rest text whole h.1)
answer_up c v rest s text whole (inr h) = inr (record { history = h.history; means = accepted_up v rest h.history whole h.means; work = h.work })

-- what holds of the bytes that were taken, and of more bytes if there are too many, holds of those that the source held
pub of_held : (P : List ℕ → Type 0) (a b : Option (List ℕ)) (v : List ℕ) → Consumes a b v → (length v ≤ 1048576 → IsAtEnd b)
    → ((rest : List ℕ) → (length v ≤ 1048576 → v ≡ v ++ rest) → P v → P (v ++ rest)) → P v → P (held a v)
unfolding held
of_held P None b v taken end up h = h
of_held P (Some xs) None v taken end up h = absurd taken
of_held P (Some xs) (Some ys) v taken end up h =
    subst P (sym taken) (up ys (λ short. sym (ap (λ rest. v ++ rest) (end short) ∙ append-nil v)) h)

answer_held : (c : Command) (a b : Option (List ℕ)) (v : List ℕ) (s : Status) (text : List ℕ) → Consumes a b v
    → (length v ≤ 1048576 → IsAtEnd b) → IsAnswerTo c v s text → IsAnswerTo c (held a v) s text
answer_held c a b v s text taken end h =
    of_held (λ bytes. IsAnswerTo c bytes s text) a b v taken end (λ rest whole. answer_up c v rest s text whole) h

-- ---- statuses

-- the statuses that come with an answer of a command
data IsSaid : Status → Type 0 where
  ok : IsSaid status.Ok
  history : IsSaid status.History
  flags : IsSaid status.Flags

is_ok : (s : Status) → s ≡ status.Ok → IsSaid s
is_ok s e = subst IsSaid (sym e) ok

is_history : (s : Status) → s ≡ status.History → IsSaid s
is_history s e = subst IsSaid (sym e) history

is_flags : (s : Status) → s ≡ status.Flags → IsSaid s
is_flags s e = subst IsSaid (sym e) flags

work_said : (c : Command) (h : Dated) (s : Status) (text : List ℕ) → IsWork c h s text → IsSaid s
work_said Check h s text w = is_ok s w.0
work_said Fold h s text w = is_ok s w.0
work_said (Cut at) h s text (inl w) = is_flags s w.0
work_said (Cut at) h s text (inr w) = is_ok s w.4.0
work_said (Discover emulated runtime) h s text (inl w) = is_flags s w.0
work_said (Discover emulated runtime) h s text (inr (e, is, inl w)) = is_ok s w.0
work_said (Discover emulated runtime) h s text (inr (e, is, inr w)) = is_flags s w.0
work_said (Gates emulated features) h s text (inl w) = is_flags s w.0
work_said (Gates emulated features) h s text (inr (e, is, inl w)) = is_ok s w.0
work_said (Gates emulated features) h s text (inr (e, is, inr w)) = is_flags s w.0
work_said (Convert emulated object to) h s text (inl w) = is_flags s w.0
work_said (Convert emulated object to) h s text (inr (e, is, (view, by, inl w))) = is_ok s w.0
work_said (Convert emulated object to) h s text (inr (e, is, (view, by, inr w))) = is_flags s w.0
work_said (Twin texts seed size) h s text (inl w) = is_ok s w.0
work_said (Twin texts seed size) h s text (inr w) = is_flags s w.0
work_said (Serve texts store port connections) h s text w = absurd w
work_said (Replay texts store script) h s text w = absurd w

answer_said : (c : Command) (bytes : List ℕ) (s : Status) (text : List ℕ) → IsAnswerTo c bytes s text → IsSaid s
answer_said c bytes s text (inl h) = is_history s h.0
answer_said c bytes s text (inr h) = work_said c h.history s text h.work

-- ---- ends of a command

whole_end : (c : Command) (bytes : List ℕ) (F : Type 0) (s : Status) (old new : Option (List ℕ)) (text : List ℕ)
    → IsSaid s → IsAnswerTo c bytes s text → Appends old new text → IsPlainEnd c bytes F s old new
whole_end c bytes F status.Ok old new text ok h written = (text, h, written)
whole_end c bytes F status.History old new text history h written = (text, h, written)
whole_end c bytes F status.Flags old new text flags h written = (text, h, written)
whole_end c bytes F status.Usage old new text said h written = elim said [ ]
whole_end c bytes F status.Memory old new text said h written = elim said [ ]
whole_end c bytes F status.ReadFault old new text said h written = elim said [ ]
whole_end c bytes F status.WriteFault old new text said h written = elim said [ ]
whole_end c bytes F status.DiskFault old new text said h written = elim said [ ]
whole_end c bytes F status.FrontFault old new text said h written = elim said [ ]
whole_end c bytes F status.Store old new text said h written = elim said [ ]
whole_end c bytes F status.Spent old new text said h written = elim said [ ]

answer_ends : (c : Command) (bytes : List ℕ) (F : Type 0) (s r : Status) (old new : Option (List ℕ)) (text : List ℕ) → IsAnswerTo c bytes s text → IsWritten old new r s text → IsPlainEnd c bytes F r old new
answer_ends c bytes F s r old new text h (inl w) = subst (λ x. IsPlainEnd c bytes F x old new) (sym w.0)
    (whole_end c bytes F s old new text (answer_said c bytes s text h) h w.1)
answer_ends c bytes F s r old new text h (inr w) = subst (λ x. IsPlainEnd c bytes F x old new) (sym w.0) (text, inl (s, h), w.1)

pub taken_ends : (F : Type 0) (c : Command) (a b : Option (List ℕ)) (v : List ℕ) (s r : Status) (old new : Option (List ℕ)) (text : List ℕ) → Consumes a b v → (length v ≤ 1048576 → IsAtEnd b)
    → IsAnswerTo c v s text → IsWritten old new r s text → IsPlainEnd c (held a v) F r old new
taken_ends F c a b v s r old new text taken end h w =
    answer_ends c (held a v) F s r old new text (answer_held c a b v s text taken end h) w

pub read_fault_ends : (c : Command) (bytes : List ℕ) (F : Type 0) (r : Status) (old new : Option (List ℕ)) → F → IsWritten old new r status.ReadFault read_fault_line → IsPlainEnd c bytes F r old new
read_fault_ends c bytes F r old new failed (inl w) = subst (λ x. IsPlainEnd c bytes F x old new) (sym w.0) w.1
read_fault_ends c bytes F r old new failed (inr w) = subst (λ x. IsPlainEnd c bytes F x old new) (sym w.0) (read_fault_line, inr (failed, λ i. read_fault_line), w.1)

-- ---- ends of a call

pub command_ends : (words : List (List ℕ)) (c : Command) (bytes : List ℕ) (F : Type 0) (s : Status) (old new : Option (List ℕ)) → IsCommand words c → IsPlain c → IsPlainEnd c bytes F s old new → IsEnd words bytes F s old new
command_ends words c bytes F status.Memory old new is plain h = h
command_ends words c bytes F status.ReadFault old new is plain h = ((c, is, plain), h)
command_ends words c bytes F status.WriteFault old new is plain (text, inl (s, h), w) = (text, inl (s, inr (c, is, plain, h)), w)
command_ends words c bytes F status.WriteFault old new is plain (text, inr (failed, same), w) = (text, inr ((c, is, plain), failed, same), w)
command_ends words c bytes F status.Ok old new is plain (text, h, w) = (text, inr (c, is, plain, h), w)
command_ends words c bytes F status.Usage old new is plain (text, h, w) = (text, inr (c, is, plain, h), w)
command_ends words c bytes F status.DiskFault old new is plain (text, h, w) = (text, inr (c, is, plain, h), w)
command_ends words c bytes F status.FrontFault old new is plain (text, h, w) = (text, inr (c, is, plain, h), w)
command_ends words c bytes F status.History old new is plain (text, h, w) = (text, inr (c, is, plain, h), w)
command_ends words c bytes F status.Flags old new is plain (text, h, w) = (text, inr (c, is, plain, h), w)
command_ends words c bytes F status.Store old new is plain (text, h, w) = (text, inr (c, is, plain, h), w)
command_ends words c bytes F status.Spent old new is plain (text, h, w) = (text, inr (c, is, plain, h), w)

pub usage_ends : (words : List (List ℕ)) (bytes : List ℕ) (F : Type 0) (r : Status) (old new : Option (List ℕ)) → ¬ IsCommandLine words → IsWritten old new r status.Usage usage_line → IsEnd words bytes F r old new
usage_ends words bytes F r old new none (inl w) = subst (λ x. IsEnd words bytes F x old new) (sym w.0) (usage_line, inl (λ i. status.Usage, none, λ i. usage_line), w.1)
usage_ends words bytes F r old new none (inr w) = subst (λ x. IsEnd words bytes F x old new) (sym w.0) (usage_line, inl (status.Usage, inl (λ i. status.Usage, none, λ i. usage_line)), w.1)
