-- The sends of turns.
use Rattle.std.specs.Prelude.{◌≡◌, ℕ, List, Bool, map, count_by, nat_le}
use Rattle.disk.specs.Beside.{Sent}
use Rattle.http_front.specs.Replies.{reply_text}
use Rattle.served_steps.specs.Steps.{Exchange}
use Rattle.session_turns.specs.Turns.{Turn}

abbrev pub exchange_of : Turn → Exchange
exchange_of t = record { item = t.item; reply = t.reply }

abbrev pub exchanges : List Turn → List Exchange
exchanges turns = map exchange_of turns

-- what a send tells, but for its moment
pub record SentReply : Type 0 where
  pub seen : ℕ
  pub c : ℕ
  pub bytes : List ℕ
  pub last : Bool
  pub went : Bool

abbrev pub reply_sent : Sent → SentReply
reply_sent s = record { seen = s.seen; c = s.c; bytes = s.bytes; last = s.last; went = s.went }

abbrev pub reply_of : Turn → SentReply
reply_of t = record {
  seen = t.seen;
  c = t.c;
  bytes = reply_text t.reply;
  last = t.reply.last;
  went = t.went;
}

-- the sends are the replies of the turns, in order
abbrev pub AreSent : List Turn → List Sent → Type 0
AreSent turns sends = map reply_sent sends ≡ map reply_of turns

-- how many had returned by the moment, whether they went or not
abbrev pub answered : ℕ → List Sent → ℕ
answered t sends = count_by (λ s. nat_le s.at t) sends
