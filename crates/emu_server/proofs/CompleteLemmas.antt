-- A call that is to serve, where nothing fails beneath it, serves to its end or runs out of memory.
use Rattle.std.proofs.Common.{◌≡◌, ◌⊎◌, ◌≤◌, ◌<◌, inl, inr, ℕ, List, [], ◌∷◌, length, Option, Some, None, Result, Ok, Err, refl, sym, ◌∙◌, ap, subst, arith}
use Rattle.std.specs.Prelude.{All}
use Rattle.std.specs.Io.KnownBytes.{Keeps}
use Rattle.std.proofs.lemmas.List.Elements.{All-head, All-tail}
use Rattle.commands.specs.declared.status.Status.{Status}
use Rattle.commands.specs.declared.status.Status.TheVariants as status
use Rattle.disk.specs.Beside.{Beside, FrontEvent, Opened, Piece, Closed, End}
use Rattle.disk.specs.Images.{Images, Pending}
use Rattle.disk.specs.declared.file.File.{File}
use Rattle.gate_flags.proofs.AnswerLemmas.{either as no_gate_fault}
use Rattle.gate_flags.specs.declared.fault.GateCause.{GateCause}
use Rattle.gate_flags.specs.declared.fault.GateFault.TheVariants as gate_fault
use Rattle.minor_version.specs.Ranges.{IsMinimum}
use Rattle.object_journal.specs.Standing.{chosen}
use Rattle.object_journal.specs.declared.key.Key.{Key}
use Rattle.object_state.specs.State.{State}
use Rattle.object_store.specs.declared.item.Item.{Item}
use Rattle.release_choice.proofs.ChoiceLemmas.{one_emulated, one_release, refused_or_emulated}
use Rattle.release_choice.specs.Choice.{IsEmulated, IsLeast, IsRefusedLeast}
use Rattle.release_choice.specs.declared.fault.VersionFault.{VersionFault}
use Rattle.release_choice.specs.declared.fault.VersionFault.TheVariants.{NotAVersion, OutOfRange}
use Rattle.release_view.specs.Views.{Viewed}
use Rattle.runtime_config.proofs.AnswerLemmas.{either as no_config_fault}
use Rattle.runtime_config.specs.Config.{IsTextFault as IsConfigFault}
use Rattle.runtime_config.specs.declared.fault.ConfigFault.{ConfigFault}
use Rattle.runtime_config.specs.declared.fault.ConfigFault.TheVariants as config
use Rattle.gate_flags.specs.Flags.{IsTextFault as IsFeatureFault}
use Rattle.schemas.proofs.LawLemmas.{gates_rise}
use Rattle.schemas.specs.Dated.{Dated}
use Rattle.schemas.specs.Rules.{IsAccepted, first_of, last_of}
use Rattle.served_history.specs.Ends.{IsEndOver, IsFeaturesFault, IsLeastFault, IsRuntimeFault, IsServeEnd}
use Rattle.served_history.specs.Releases.{Accepts, FlagTexts, IsFor, given}
use Rattle.served_history.specs.declared.fault.ServeFault.{ServeFault}
use Rattle.served_history.specs.declared.fault.ServeFault.TheVariants as fault
use Rattle.session_ends.specs.Ends.{most_events}
use Rattle.session_ends.specs.declared.served.Served.{Served}
use Rattle.session_turns.specs.Turns.{HasNoEnd}
use Rattle.stored_state.proofs.LawLemmas.{one_answer}
use Rattle.stored_state.specs.Both.{StandForBoth}
use Rattle.stored_state.specs.Reading.{IsFirstUnreadable}
use Rattle.words.specs.Laws.{HasOneCommand}
use Rattle.words.specs.declared.command.Command.{Command}
use Rattle.words.specs.declared.command.Command.TheVariants.{Check, Convert, Cut, Discover, Fold, Gates, Replay, Serve, Twin}
use Rattle.emu_server.proofs.HistoryLemmas.{few_releases, one_accepted, refused_or_accepted}
use Rattle.emu_server.specs.Complete.{CanServe, but_ends}
use Rattle.emu_server.specs.Lines.{read_fault_line}
use Rattle.commands.specs.Endings.{end_line, end_status}
use Rattle.commands.specs.Texts.{texts_given}
use Rattle.emu_server.specs.Serving.{AsksToServe, IsServedFrom, IsServing, IsTold, ServesWith}
use Rattle.emu_server.specs.Top.{IsServeRun}
use Rattle.emu_server.specs.Written.{IsWritten}

-- ---- the texts that the words ask with

one_with : (c : Command) (o p : FlagTexts) → ServesWith c o → ServesWith c p → o ≡ p
one_with (Serve flags store port connections) o p a b = a ∙ sym b
one_with (Replay flags store script) o p a b = a ∙ sym b
one_with Check o p a b = absurd a
one_with Fold o p a b = absurd a
one_with (Cut at) o p a b = absurd a
one_with (Discover emulated runtime) o p a b = absurd a
one_with (Gates emulated features) o p a b = absurd a
one_with (Convert emulated object to) o p a b = absurd a
one_with (Twin texts seed size) o p a b = absurd a

one_texts : (words : List (List ℕ)) (o p : FlagTexts) → HasOneCommand words → AsksToServe words o → AsksToServe words p → o ≡ p
one_texts words o p one a b = one_with b.0 o p (subst (λ (c : Command). ServesWith c o) (one a.0 b.0 a.1 b.1) a.2) b.2

-- ---- the releases

refused_or_least : (first last e : ℕ) (text : Option (List ℕ)) (f : VersionFault) (m : ℕ) → e ≤ 999 → IsRefusedLeast first last e text f → IsLeast first last e text m → ⊥
refused_or_least first last e None f m few h k = h
refused_or_least first last e (Some text) NotAVersion m few h k = let upper : m ≤ e = k.1.1 in h m (omega arith) k.0
refused_or_least first last e (Some text) OutOfRange m few h k =
    let upper : m ≤ e = k.1.1 in
    h.3 (subst (λ (r : ℕ). IsMinimum first last e r) (one_release text m h.0 (omega arith) h.1 k.0 h.2) k.1)

emulated_few : (first last : ℕ) (text : Option (List ℕ)) (e : ℕ) → last ≤ 999 → IsEmulated first last text e → e ≤ 999
emulated_few first last None e few h = subst (λ (n : ℕ). n ≤ 999) (sym h) few
emulated_few first last (Some text) e few h = let upper : e ≤ last = h.1.1 in omega arith

module _ (h : Dated) (o : FlagTexts) (e m : ℕ) (accepted : IsAccepted h) (few : last_of h ≤ 999) (accepts : Accepts h o e m) where
  same_release : (f : ℕ) → IsEmulated (first_of h) (last_of h) o.emulated f → f ≡ e
  same_release f is = one_emulated (first_of h) (last_of h) few o.emulated f e is accepts.releases.emulated

  no_least : (f : ℕ) (cause : VersionFault) → IsLeastFault h o f cause → ⊥
  no_least f cause r =
      refused_or_least (first_of h) (last_of h) e o.least cause m (emulated_few (first_of h) (last_of h) o.emulated e few accepts.releases.emulated)
      (subst (λ (n : ℕ). IsRefusedLeast (first_of h) (last_of h) n o.least cause) (same_release f r.0) r.1) accepts.releases.least

  no_features : (place : ℕ) (cause : GateCause) → IsFeaturesFault h o place cause → ⊥
  no_features place cause r =
      let at = subst (λ (n : ℕ). IsFeatureFault h.gates n (given o.features) (gate_fault.At place cause)) (same_release r.0 r.2.emulated) r.3 in
      let none : gate_fault.At place cause ≡ gate_fault.Memory = no_gate_fault h.gates e (given o.features) (gates_rise h accepted) accepts.features (gate_fault.At place cause) at in
      absurd cc

  no_runtime : (cause : ConfigFault) → (cause ≡ config.Memory → ⊥) → IsRuntimeFault h o cause → ⊥
  no_runtime cause known r =
      known (no_config_fault h.apis e (given o.runtime) accepts.runtime cause (subst (λ (n : ℕ). IsConfigFault h.apis n (given o.runtime) cause) (same_release r.0 r.2.emulated) r.4))

-- ---- the store

readable : (back view : Viewed) (items : List Item) (revision : ℕ) (state : State) (key : Key) (version : List ℕ) (minor : ℕ)
    → StandForBoth back view items revision state → IsFirstUnreadable back view items key version minor → ⊥
readable back view items revision state key version minor stand first =
    (one_answer back view items).either key version minor first stand.later.readable stand.earlier.readable

-- ---- the events

all_but_ends : (events : List FrontEvent) → HasNoEnd events → but_ends events ≡ events
all_but_ends [] none = refl
all_but_ends (Opened c ∷ events) none = ap (λ (es : List FrontEvent). Opened c ∷ es) (all_but_ends events (All-tail (λ (x : FrontEvent). x ≡ End → ⊥) (Opened c) events none))
all_but_ends (Piece c bytes ∷ events) none = ap (λ (es : List FrontEvent). Piece c bytes ∷ es) (all_but_ends events (All-tail (λ (x : FrontEvent). x ≡ End → ⊥) (Piece c bytes) events none))
all_but_ends (Closed c ∷ events) none = ap (λ (es : List FrontEvent). Closed c ∷ es) (all_but_ends events (All-tail (λ (x : FrontEvent). x ≡ End → ⊥) (Closed c) events none))
all_but_ends (End ∷ events) none = absurd (All-head (λ (x : FrontEvent). x ≡ End → ⊥) End events none refl)

not_spent : (events : List FrontEvent) → HasNoEnd events → length events ≡ most_events → length (but_ends events) < most_events → ⊥
not_spent events none many few =
    let fewer : length events < most_events = subst (λ (es : List FrontEvent). length es < most_events) (all_but_ends events none) few in
    omega (arith, many, fewer)

-- ---- the end

abbrev IsDone : Status → Type 0
IsDone s = (s ≡ status.Ok) ⊎ (s ≡ status.Memory)

pub kept_bytes : (left : Option (List ℕ)) (bytes held : List ℕ) → left ≡ Some bytes → Keeps left (Some held) → held ≡ bytes
kept_bytes left bytes held is keeps = subst (λ (x : Option (List ℕ)). Keeps x (Some held)) is keeps

module _ {W : Type 0} (tells : Type 0) (clock : W → ℕ) (may_leave : W → ℕ → Images → Type 0) (held : W → Images) (pending : W → File → Pending) (beside : W → Beside) (from to : W) (s : Status) (old new : Option (List ℕ)) (told : tells) (no_write : s ≡ status.WriteFault → ⊥) (no_disk : s ≡ status.DiskFault → ⊥) (no_front : s ≡ status.FrontFault → ⊥) (few : length (but_ends (beside to).taken) < most_events) where
  written : (wanted : Status) (text : List ℕ) → IsWritten old new s wanted text → s ≡ wanted
  written wanted text (inl w) = w.0
  written wanted text (inr w) = absurd (no_write w.0)

  module _ (words : List (List ℕ)) (bytes : List ℕ) (can : CanServe words bytes (held from chosen)) where
    short : last_of can.h ≤ 999
    short = few_releases bytes can.h can.means.means

    ended : (end : Result Served ServeFault) → IsServeEnd tells clock may_leave held pending beside can.h can.o from to end
        → (end ≡ Err fault.Memory → ⊥) → s ≡ end_status end → IsDone s
    ended (Ok served) h known is = inl is
    ended (Err (fault.Emulated cause)) h known is =
        absurd (refused_or_emulated (first_of can.h) (last_of can.h) short can.o.emulated cause can.e h.0 can.accepts.releases.emulated)
    ended (Err (fault.Least e cause)) h known is = absurd (no_least can.h can.o can.e can.m can.means.accepted short can.accepts e cause h.0)
    ended (Err (fault.Features place cause)) h known is = absurd (no_features can.h can.o can.e can.m can.means.accepted short can.accepts place cause h.0)
    ended (Err (fault.Runtime place cause)) h known is = absurd (no_runtime can.h can.o can.e can.m can.means.accepted short can.accepts (config.At place cause) (λ same. cc) h.0)
    ended (Err fault.OnlyAllFalse) h known is = absurd (no_runtime can.h can.o can.e can.m can.means.accepted short can.accepts config.OnlyAllFalse (λ same. cc) h.0)
    ended (Err (fault.NotAStore file at)) h known is =
        absurd (can.unbroken at (h.3 told).0.1)
    ended (Err (fault.Undecodable key version minor)) h known is =
        let found = (h.3 told).0 in
        let stand = can.stand h.0 h.1 h.2 found.items found.revision found.recovered in
        absurd (readable h.1 h.0.view found.items found.revision stand.0 key version minor stand.1 found.unreadable)
    ended (Err fault.Disk) h known is = absurd (no_disk is)
    ended (Err fault.Front) h known is = absurd (no_front is)
    ended (Err fault.Spent) h known is =
        let ends = (h.3 told).ends in absurd (not_spent (beside to).taken ends.0 ends.1 few)
    ended (Err fault.Memory) h known is = absurd (known refl)

    serving : IsServing tells clock may_leave held pending beside can.h can.o from to s old new → IsDone s
    serving (end, is, inl none) = inr none.0
    serving (end, is, inr said) = ended end is said.0 (written (end_status end) (end_line can.h end) said.1)

    served : IsServedFrom tells clock may_leave held pending beside bytes can.o from to s old new → IsDone s
    served (inl (same, inl none)) = inr none.0
    served (inl (same, inr refused)) = absurd (refused_or_accepted bytes refused.0 can.h refused.1 can.means)
    served (inr (h, means, serves)) =
        serving (subst (λ (x : Dated). IsServing tells clock may_leave held pending beside x can.o from to s old new) (one_accepted bytes h can.h means can.means) serves)

    -- of a call on the bytes that were there
    module _ (read_failed : Type 0) (no_read : read_failed → ⊥) where
      call : IsServeRun tells clock may_leave held pending beside bytes can.o read_failed from to s old new → IsDone s
      call (inl failed) = absurd (no_read failed.1)
      call (inr h) = served h

      pub complete : (o : FlagTexts) (there : List ℕ) → HasOneCommand words → AsksToServe words o → there ≡ bytes
          → IsServeRun tells clock may_leave held pending beside there o read_failed from to s old new → IsDone s
      complete o there one asks same h =
          let texts = one_texts words o can.o one asks can.asks in
          call (subst (λ (x : FlagTexts). IsServeRun tells clock may_leave held pending beside bytes x read_failed from to s old new) texts
          (subst (λ (b : List ℕ). IsServeRun tells clock may_leave held pending beside b o read_failed from to s old new) same h))
