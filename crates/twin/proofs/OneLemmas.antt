-- A run comes to one count.
use Rattle.std.proofs.Common.{◌≡◌, inl, inr, ℕ, suc, ◌+◌, Bool, true, List, [], ◌∷◌, ◌++◌, All, length, map, refl, sym, ◌∙◌, ap, subst, arith}
use Rattle.std.specs.Prelude.{replicate}
use Rattle.std.specs.List.{sum_by}
use Rattle.std.proofs.lemmas.List.{length-append, replicate-append-replicate}
use Rattle.std.proofs.lemmas.List.Elements.{All-head, All-tail}
use Rattle.std.proofs.lemmas.List.Sums.{sum_by-cons}
use Rattle.disk.specs.Beside.{FrontEvent}
use Rattle.http_front.specs.Items.{Item}
use Rattle.http_front.specs.Replies.{reply_text}
use Rattle.key_order.proofs.OrderLemmas.{head_there}
use Rattle.object_journal.proofs.EntryLaws.{not_empty}
use Rattle.object_journal.specs.Journal.{IsJournal, records_of, revision_after}
use Rattle.object_journal.specs.declared.entry.Entry.{Entry}
use Rattle.object_state.specs.State.{State}
use Rattle.object_store.specs.Records.{AreRecords, RecoversTo, put_of}
use Rattle.object_store.specs.declared.item.Item.{Item as Record}
use Rattle.plain_machine.specs.declared.machine.Machine.{Machine}
use Rattle.release_view.proofs.ViewLemmas.{one_by_texts}
use Rattle.release_view.specs.declared.known.KnownVersion.{KnownVersion}
use Rattle.schemas.specs.Cutoff.{cutoff}
use Rattle.schemas.specs.Dated.{Dated}
use Rattle.scripts.specs.declared.script.ScriptEvent.{ScriptEvent}
use Rattle.served_history.specs.Releases.{given}
use Rattle.served_steps.proofs.EndLemmas.{have_one_end}
use Rattle.served_steps.specs.Steps.{Exchange, Steps}
use Rattle.session_course.specs.Sends.{exchange_of, exchanges}
use Rattle.session_turns.proofs.OneListLemmas.{one_leads}
use Rattle.session_turns.specs.Laws.{bare_turns, which_went}
use Rattle.session_turns.specs.Turns.{AreTurns, Turn, beginning}
use Rattle.storage_version.proofs.StandingLemmas.{one_standing}
use Rattle.storage_version.specs.Standing.{StandsFor}
use Rattle.workload.proofs.OneLemmas.{one_workload}
use Rattle.workload.specs.Workload.{IsWorkload}
use Rattle.world.specs.Tapes.{told}
use Rattle.twin.proofs.TextsLemmas.{one_releases}
use Rattle.twin.specs.Laws.{HasOneCount, HasOneTwin}
use Rattle.twin.specs.Runs.{IsMachineOf, IsRun, IsRunOf, IsStateOf}
use Rattle.twin.specs.declared.count.TwinCount.{TwinCount}

-- ---- the state of an empty store

-- no bytes mean no entries
no_entries : (base : ℕ) (entries : List Entry) → IsJournal [] base entries → (base ≡ 0) × (entries ≡ [])
no_entries base entries (inl h) = (h.1, h.2)
no_entries base entries (inr (inl h)) = absurd (omega (arith, ap length h.0.parts))
no_entries base entries (inr (inr h)) = absurd (omega (arith, ap length h.parts, length-append (records_of entries) (h.gate ∷ h.behind)))

no_records : (items : List Record) → AreRecords [] items → items ≡ []
no_records [] are = refl
no_records (r ∷ items) are =
    let left = (are.exact r).0 (head_there r items) in
    absurd (not_empty left.before (put_of r) left.behind left.parts)

none_recovered : (items : List Record) (revision : ℕ) → RecoversTo [] items revision → (items ≡ []) × (revision ≡ 0)
none_recovered items revision r =
    let none = no_entries r.base r.entries r.means in (
      no_records items (subst (λ (es : List Entry). AreRecords es items) none.1 r.records),
      r.revision_is ∙ (λ i. revision_after (none.0 i) (none.1 i)),
    )

none_stand : (versions : List KnownVersion) (s : State) → IsStateOf [] versions s → StandsFor [] 0 versions s
none_stand versions s of =
    let none = none_recovered of.items of.revision of.recovered in
    subst (λ (r : List Record × ℕ). StandsFor r.0 r.1 versions s) (λ i. (none.0 i, none.1 i)) of.stands

one_start : (versions : List KnownVersion) (a b : State) → IsStateOf [] versions a → IsStateOf [] versions b → a ≡ b
one_start versions a b p q = one_standing [] 0 versions a b (none_stand versions a p) (none_stand versions b q)

-- ---- the turns, all of which went

all_true : (turns : List Turn) → All (λ t. t.went ≡ true) turns → which_went turns ≡ replicate (length turns) true
all_true [] all = refl
all_true (t ∷ turns) all =
    let head : t.went ≡ true = All-head (λ (x : Turn). x.went ≡ true) t turns all in
    let tail : which_went turns ≡ replicate (length turns) true = all_true turns (All-tail (λ (x : Turn). x.went ≡ true) t turns all) in
    λ i. head i ∷ tail i

module _ (xs ys : List Turn) (went : All (λ (t : Turn). t.went ≡ true) xs) (too : All (λ (t : Turn). t.went ≡ true) ys) where
  both_true : which_went xs ++ which_went ys ≡ replicate (length xs + length ys) true
  both_true = (λ i. all_true xs went i ++ all_true ys too i) ∙ replicate-append-replicate (length xs) (length ys) true

  other_true : which_went ys ++ which_went xs ≡ replicate (length ys + length xs) true
  other_true = (λ i. all_true ys too i ++ all_true xs went i) ∙ replicate-append-replicate (length ys) (length xs) true

  either_way : which_went xs ++ which_went ys ≡ which_went ys ++ which_went xs
  either_way =
      let sums : length xs + length ys ≡ length ys + length xs = omega arith in
      both_true ∙ ap (λ (n : ℕ). replicate n true) sums ∙ sym other_true

  one_bare : (events : List FrontEvent) → AreTurns events xs → AreTurns events ys → bare_turns xs ≡ bare_turns ys
  one_bare events h k = (one_leads beginning h.0 k.0 events xs ys (which_went ys) (which_went xs) h.1 k.1 either_way).0

abbrev Bare : Type 0
Bare = ℕ × (ℕ × (Item × Bool))

items_of_bare : (turns : List Turn) → map (λ (x : Exchange). x.item) (exchanges turns) ≡ map (λ (b : Bare). b.1.1.0) (bare_turns turns)
items_of_bare [] = refl
items_of_bare (t ∷ turns) = ap (λ (items : List Item). t.item ∷ items) (items_of_bare turns)

one_items : (xs ys : List Turn) → bare_turns xs ≡ bare_turns ys → map (λ (x : Exchange). x.item) (exchanges xs) ≡ map (λ (x : Exchange). x.item) (exchanges ys)
one_items xs ys e = items_of_bare xs ∙ ap (map (λ (b : Bare). b.1.1.0)) e ∙ sym (items_of_bare ys)

-- ---- the numbers, by the exchanges

abbrev reply_length : Exchange → ℕ
reply_length x = length (reply_text x.reply)

exchanged : (turns : List Turn) → length turns ≡ length (exchanges turns)
exchanged [] = refl
exchanged (t ∷ turns) = ap suc (exchanged turns)

sent_bytes : (turns : List Turn) → sum_by (λ (t : Turn). length (reply_text t.reply)) turns ≡ sum_by reply_length (exchanges turns)
sent_bytes [] = refl
sent_bytes (t ∷ turns) =
    sum_by-cons (λ (u : Turn). length (reply_text u.reply)) t turns
    ∙ ap (λ (n : ℕ). length (reply_text t.reply) + n) (sent_bytes turns)
    ∙ sym (sum_by-cons reply_length (exchange_of t) (exchanges turns))

-- ---- a run

module _ (machine : Machine) (script : List ScriptEvent) (a b : TwinCount) (p : IsRun machine script a) (q : IsRun machine script b) where
  one_end : (exchanges p.turns ≡ exchanges q.turns) × (p.last ≡ q.last)
  one_end =
      let start : p.start ≡ q.start = one_start machine.view.versions p.start q.start p.empty q.empty in
      let bare : bare_turns p.turns ≡ bare_turns q.turns = one_bare p.turns q.turns p.went q.went (told script) p.are q.are in
      let steps : Steps machine q.start (exchanges p.turns) p.last = subst (λ (s : State). Steps machine s (exchanges p.turns) p.last) start p.steps in
      have_one_end machine q.start q.empty.stands.order (exchanges p.turns) (exchanges q.turns) p.last q.last (one_items p.turns q.turns bare) steps q.steps

  one_run : a ≡ b
  one_run =
      let requests : a.requests ≡ b.requests = p.requests ∙ exchanged p.turns ∙ ap length one_end.0 ∙ sym (exchanged q.turns) ∙ sym q.requests in
      let bytes : a.bytes ≡ b.bytes = p.bytes ∙ sent_bytes p.turns ∙ ap (sum_by reply_length) one_end.0 ∙ sym (sent_bytes q.turns) ∙ sym q.bytes in
      let revision : a.revision ≡ b.revision = p.revision ∙ ap (λ (s : State). s.revision) one_end.1 ∙ sym q.revision in
      λ i. record { requests = requests i; bytes = bytes i; revision = revision i }

one_machine : (h : Dated) (e m : ℕ) (features runtime : List ℕ) (a b : Machine) → IsMachineOf h e m features runtime a → IsMachineOf h e m features runtime b → a ≡ b
one_machine h e m features runtime a b p q =
    let view : a.view ≡ b.view = one_by_texts h e features runtime a.view b.view p.view q.view in
    let release : a.release ≡ b.release = p.release ∙ sym q.release in
    let back : a.back ≡ b.back = p.least ∙ sym q.least in
    λ i. record { view = view i; release = release i; back = back i }

pub run_one : (h : Dated) → HasOneCount h
run_one h e m features runtime seed size a b p q =
    let machine : p.machine ≡ q.machine = one_machine h e m features runtime p.machine q.machine p.of q.of in
    let made : IsWorkload q.machine.view seed size p.script = subst (λ (z : Machine). IsWorkload z.view seed size p.script) machine p.made in
    let script : p.script ≡ q.script = one_workload q.machine.view seed size p.script q.script made q.made in
    one_run q.machine q.script a b (subst (λ (z : Machine × List ScriptEvent). IsRun z.0 z.1 a) (λ i. (machine i, script i)) p.run) q.run

pub twin_one : (h : Dated) → HasOneTwin h
twin_one h o seed size a b few p q =
    let same = one_releases h o few p.e p.m q.e q.m p.accepts.releases q.accepts.releases in
    let cut : IsRunOf (cutoff h q.e) q.e q.m (given o.features) (given o.runtime) seed size a =
    subst (λ (z : ℕ × ℕ). IsRunOf (cutoff h z.0) z.0 z.1 (given o.features) (given o.runtime) seed size a) (λ i. (same.0 i, same.1 i)) p.cut in
    run_one (cutoff h q.e) q.e q.m (given o.features) (given o.runtime) seed size a b cut q.cut
