-- The whole stream of a connection, and how far its items were taken.
use Rattle.std.specs.Prelude.{◌≡◌, ℕ, List, [], ◌∷◌, ◌++◌, true, false}
use Rattle.http_front.specs.Items.{Item, IsItem, is_final, IsSplit}
use Rattle.conn_mux.specs.Flows.{flow_with, GivesItem, GivesNone}
use Rattle.conn_mux.specs.declared.flow.Flow.{Flow}
use Rattle.conn_mux.specs.declared.flow.Flow.TheVariants.{Going, Ended}

-- of all bytes that came of the stream these items were taken, and this is left
abbrev pub IsLeft : List ℕ → List Item → Flow → Type 0
IsLeft stream [] flow = flow ≡ Going stream
IsLeft stream (item ∷ items) flow =
    (behind : List ℕ) × IsItem stream item behind
    × (is_final item ≡ true → (items ≡ []) × (flow ≡ Ended))
    × (is_final item ≡ false → IsLeft behind items flow)

-- more bytes change no item that was taken
abbrev pub LeavesMore : List ℕ → Type 0
LeavesMore stream =
    (more : List ℕ) (items : List Item) (flow : Flow) → IsLeft stream items flow
    → IsLeft (stream ++ more) items (flow_with flow more)

-- what is taken of the rest is the stream's next item
abbrev pub LeavesBehind : List ℕ → Type 0
LeavesBehind stream =
    (items : List Item) (flow left : Flow) (item : Item) → IsLeft stream items flow
    → GivesItem flow item left → IsLeft stream (items ++ item ∷ []) left

-- where the rest gives none, the items that were taken are all of the stream's
abbrev pub LeavesNone : List ℕ → Type 0
LeavesNone stream =
    (items : List Item) (flow : Flow) → IsLeft stream items flow → GivesNone flow
    → (rest : List ℕ) × IsSplit stream items rest
