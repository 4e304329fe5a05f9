-- What carrying an item out leaves, before its reply is sent.
use Rattle.std.specs.Prelude.{◌≡◌, ◌⊎◌, ℕ}
use Rattle.api_requests.specs.Serving.{Serving}
use Rattle.disk.specs.Beside.{Beside}
use Rattle.disk.specs.Images.{Images}
use Rattle.disk.specs.Moments.{Moments}
use Rattle.http_front.specs.Items.{Item, is_final}
use Rattle.http_front.specs.Replies.{IsBadReply, reply_text}
use Rattle.http_front.specs.declared.reply.Reply.{Reply}
use Rattle.object_journal.specs.Standing.{chosen}
use Rattle.object_state.specs.State.{State}
use Rattle.served_steps.specs.Steps.{IsAnswered}
use Rattle.session_course.specs.Servers.{Server, Continues, IsRestored}
use Rattle.session_step.specs.Taken.{server_of}
use Rattle.session_step.specs.declared.outgoing.Outgoing.{Outgoing}

-- the bytes are those of a reply to the item, after which the server is in the next state; they are the connection's last
-- where the item is
pub record IsCarriedOut (old new : Serving) (item : Item) (o : Outgoing) : Type 0 where
  pub reply : Reply
  pub answered : IsAnswered old.machine old.state item reply new.state
  pub continues : Continues (server_of old) (server_of new)
  pub bytes : o.bytes ≡ reply_text reply
  pub last : o.last ≡ reply.last
  pub final : reply.last ≡ is_final item

-- the bytes are those of the reply to a head that can't be read
pub record IsRefusal (o : Outgoing) : Type 0 where
  pub reply : Reply
  pub bad : IsBadReply reply
  pub bytes : o.bytes ≡ reply_text reply
  pub last : o.last ≡ reply.last

-- a stop leaves what restores the server's state, or the next one
abbrev pub LeavesOneOf : Server → State → ℕ → Images → Type 0
LeavesOneOf s next _ images =
    IsRestored s (images chosen) s.state ⊎ IsRestored s (images chosen) next

-- at each moment from the one to the other a stop leaves that
abbrev pub IsSafe : {W : Type 0} → (W → ℕ) → (W → ℕ → Images → Type 0) → Server → State → W → W → Type 0
IsSafe clock may_leave s next from to = Moments clock may_leave from to (LeavesOneOf s next)

-- the item was begun: it has a reply and a next state, and at each moment a stop leaves this state or that
pub record IsTried {W : Type 0} (clock : W → ℕ) (may_leave : W → ℕ → Images → Type 0)
    (s : Server) (item : Item) (from to : W) : Type 0 where
  pub reply : Reply
  pub next : State
  pub answered : IsAnswered s.machine s.state item reply next
  pub safe : IsSafe clock may_leave s next from to

-- beside the disk only room for a send was made
abbrev pub MakesRoom : Beside → Beside → Type 0
MakesRoom old new = new ≡ record old { spare = new.spare }
