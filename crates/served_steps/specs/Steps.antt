-- Steps of a server one after another, of whole requests and of heads that can't be taken.
use Rattle.std.specs.Prelude.{◌≡◌, List, [], ◌∷◌}
use Rattle.http_front.specs.Items.{Item, taken_request, refused}
use Rattle.http_front.specs.Replies.{IsBadReply}
use Rattle.http_front.specs.declared.reply.Reply.{Reply}
use Rattle.object_state.specs.State.{State}
use Rattle.plain_machine.specs.Steps.{Step}
use Rattle.plain_machine.specs.declared.machine.Machine.{Machine}

-- what came of a stream, and the reply to it
pub record Exchange : Type 0 where
  pub item : Item
  pub reply : Reply

-- what comes has this reply, and leaves this state: a request that of its step; a head that can't be taken is refused, and
-- leaves the state as it is
abbrev pub IsAnswered : Machine → State → Item → Reply → State → Type 0
IsAnswered m s (taken_request q) reply after = Step m s q reply after
IsAnswered m s refused reply after = IsBadReply reply × (after ≡ s)

-- each is answered in the state that the one before it leaves
abbrev pub Steps : Machine → State → List Exchange → State → Type 0
Steps m s [] after = after ≡ s
Steps m s (x ∷ xs) after =
    (next : State) × IsAnswered m s x.item x.reply next × Steps m next xs after
