-- What each connection brings.
use Rattle.std.specs.Prelude.{◌≡◌, ℕ, ◌==◌, if◌then◌else◌, List, []}
use Rattle.std.specs.List.{flat_map, slice_get}
use Rattle.std.specs.Option.{option_map_or}
use Rattle.release_view.specs.Views.{Viewed}
use Rattle.scripts.specs.declared.script.ScriptEvent.{ScriptEvent}
use Rattle.scripts.specs.declared.script.ScriptEvent.TheVariants.{Open, Piece, Close}
use Rattle.workload.specs.Parts.{slices}
use Rattle.workload.specs.Workload.{IsWorkload}
use Rattle.workload.specs.declared.request.Request.{Request}

-- what an event brings of connection c
abbrev pub bytes_in : ℕ → ScriptEvent → List ℕ
bytes_in c Open = []
bytes_in c (Piece d bytes) = if d == c then bytes else []
bytes_in c (Close d) = []

-- what the events bring of it
abbrev pub brought : ℕ → List ScriptEvent → List ℕ
brought c events = flat_map (bytes_in c) events

-- its request in a group, if the group has one
abbrev pub own_request : ℕ → List Request → List ℕ
own_request c group = option_map_or (λ r. r.bytes) (slice_get group c) []

-- each connection brings its requests whole, one of each group, in order
abbrev pub ComeWhole : Viewed → ℕ → ℕ → Type 0
ComeWhole view seed size =
    (events : List ScriptEvent) (w : IsWorkload view seed size events) (c : ℕ) →
    brought c events ≡ flat_map (own_request c) (slices 4 w.requests)
