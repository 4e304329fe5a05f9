-- A run, from what a server over a store leaves.
use Rattle.std.proofs.Common.{◌≡◌, ℕ, ◌+◌, List, [], ◌∷◌, All, Ok, true, length, map, take, ◌<◌, refl, sym, ◌∙◌, ap, subst, arith}
use Rattle.std.specs.List.{sum_by}
use Rattle.std.proofs.lemmas.List.Sums.{sum_by-cons, sum_by_push}
use Rattle.std.proofs.lemmas.List.{take_more}
use Rattle.std.specs.Prelude.{get_or}
use Rattle.std.proofs.lemmas.List.Elements.{All-cons, All-head, All-map, All-nil, All-tail}
use Rattle.disk.specs.Beside.{Beside, FrontEvent, Sent}
use Rattle.disk.specs.Images.{Images, Pending}
use Rattle.disk.specs.declared.file.File.{File}
use Rattle.http_front.specs.Replies.{reply_text}
use Rattle.object_journal.specs.Standing.{chosen}
use Rattle.plain_machine.specs.declared.machine.Machine.{Machine}
use Rattle.release_view.specs.Views.{Viewed}
use Rattle.scripts.specs.Lawful.{IsLawful}
use Rattle.scripts.specs.declared.script.ScriptEvent.{ScriptEvent}
use Rattle.session_course.specs.Sends.{SentReply, reply_of, reply_sent}
use Rattle.session_ends.proofs.DrawnLemmas.{takes_script}
use Rattle.session_ends.specs.Drawn.{HasDrawn}
use Rattle.session_ends.specs.declared.served.Served.{Served}
use Rattle.session_turns.specs.Turns.{AreTurns, Turn}
use Rattle.store_session.specs.Ends.{IsSession}
use Rattle.twin.specs.Runs.{IsRun, IsServedWhole, IsStateOf}
use Rattle.twin.specs.declared.count.TwinCount.{TwinCount}
use Rattle.world.specs.Fronts.{IsAtStart}
use Rattle.world.specs.Outboxes.{sent_of}
use Rattle.world.specs.Tapes.{told}
use Rattle.world.specs.declared.sent.Sent.{Sent as Reply}

module _ {W : Type 0} (clock : W → ℕ) (may_leave : W → ℕ → Images → Type 0) (held : W → Images) (pending : W → File → Pending) (beside : W → Beside) where
  pub whole_of : (machine : Machine) (back : Viewed) (old new : W) (served : Served) → IsSession clock may_leave held pending beside machine back old new (Ok served)
      → HasDrawn 4096 (beside old) (beside new) → IsServedWhole machine (held old chosen) (beside old) (beside new) served
  whole_of machine back old new served s drawn =
      let (before, taken, none, few, are, rest, requests) = s.ends in
      record {
        state = s.state;
        stored = record { items = s.items; revision = s.revision; recovered = s.recovered; stands = s.stand.later };
        turns = s.turns;
        sent = s.sent;
        last = s.last;
        steps = s.steps;
        before = before;
        ended = taken;
        are = are;
        drawn = drawn;
        requests = requests;
        revision = s.revision_is;
      }

sum_map : {A B : Type 0} (f : B → ℕ) (g : A → B) (xs : List A) → sum_by f (map g xs) ≡ sum_by (λ x. f (g x)) xs
sum_map f g [] = refl
sum_map f g (x ∷ xs) =
    sum_by-cons f (g x) (map g xs) ∙ ap (λ n. f (g x) + n) (sum_map f g xs) ∙ sym (sum_by-cons (λ y. f (g y)) x xs)

-- the bytes of one send more
pub bytes_more : (sends : List Reply) (i : ℕ) (d : Reply) → i < length sends
    → sum_by (λ (s : Reply). length s.bytes) (take (i + 1) sends) ≡ sum_by (λ (s : Reply). length s.bytes) (take i sends) + length (get_or sends i d).bytes
bytes_more sends i d within =
    ap (sum_by (λ (s : Reply). length s.bytes)) (take_more sends i d within) ∙ sum_by_push (λ (s : Reply). length s.bytes) (take i sends) (get_or sends i d)

all_back : {A B : Type 0} (P : B → Type 0) (g : A → B) (xs : List A) → All P (map g xs) → All (λ x. P (g x)) xs
all_back P g [] all = All-nil (λ x. P (g x))
all_back P g (x ∷ xs) all =
    All-cons (λ y. P (g y)) x xs (All-head P (g x) (map g xs) all) (all_back P g xs (All-tail P (g x) (map g xs) all))

-- the sends are the replies
module _ (turns : List Turn) (sends : List Reply) (are : map reply_sent (map sent_of sends) ≡ map reply_of turns) where
  went_all : All (λ (s : Reply). s.went ≡ true) sends → All (λ (t : Turn). t.went ≡ true) turns
  went_all went =
      all_back (λ (r : SentReply). r.went ≡ true) reply_of turns (subst (All (λ (r : SentReply). r.went ≡ true)) are
      (All-map (λ (r : SentReply). r.went ≡ true) reply_sent (map sent_of sends) (All-map (λ (s : Sent). s.went ≡ true) sent_of sends went)))

  bytes_all : sum_by (λ (s : Reply). length s.bytes) sends ≡ sum_by (λ (t : Turn). length (reply_text t.reply)) turns
  bytes_all =
      sym (sum_map (λ (s : Sent). length s.bytes) sent_of sends) ∙ sym (sum_map (λ (r : SentReply). length r.bytes) reply_sent (map sent_of sends))
      ∙ ap (sum_by (λ (r : SentReply). length r.bytes)) are ∙ sum_map (λ (r : SentReply). length r.bytes) reply_of turns

pub run_of : (machine : Machine) (script : List ScriptEvent) (bytes : List ℕ) (old new : Beside) (served : Served) (sends : List Reply) (n : ℕ)
    → IsServedWhole machine bytes old new served → bytes ≡ [] → IsAtStart old → old.coming ≡ told script → IsLawful script
    → map sent_of sends ≡ new.sends → All (λ (s : Reply). s.went ≡ true) sends → n ≡ sum_by (λ (s : Reply). length s.bytes) sends
    → IsRun machine script (record { requests = served.requests; bytes = n; revision = served.revision })
run_of machine script bytes old new served sends n w empty start coming lawful sent went is =
    let taken : new.taken ≡ told script = takes_script 4096 old new script w.before (omega arith) lawful w.drawn start.taken coming w.ended in
    let are : map reply_sent (map sent_of sends) ≡ map reply_of w.turns = ap (map reply_sent) sent ∙ w.sent in
    record {
      start = w.state;
      empty = subst (λ (b : List ℕ). IsStateOf b machine.view.versions w.state) empty w.stored;
      turns = w.turns;
      are = subst (λ (events : List FrontEvent). AreTurns events w.turns) taken w.are;
      went = went_all w.turns sends are went;
      last = w.last;
      steps = w.steps;
      requests = w.requests;
      bytes = is ∙ bytes_all w.turns sends are;
      revision = w.revision;
    }
