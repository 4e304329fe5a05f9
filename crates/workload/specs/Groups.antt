-- The events of a script in which requests come in parts, four requests at a time.
use Rattle.std.specs.Prelude.{ℕ, ◌+◌, ◌==◌, if◌then◌else◌, List, [], ◌∷◌, ◌++◌, take, drop}
use Rattle.std.specs.List.{flat_map}
use Rattle.scripts.specs.declared.script.ScriptEvent.{ScriptEvent}
use Rattle.scripts.specs.declared.script.ScriptEvent.TheVariants.{Open, Close}
use Rattle.workload.specs.Parts.{slices, pieces}
use Rattle.workload.specs.declared.request.Request.{Request}

-- what comes before the cut: all where that is at the begin
abbrev pub front_of : Request → List ℕ
front_of r = if r.cut == 0 then r.bytes else take r.cut r.bytes

-- what comes behind the cut: nothing where that is at the begin
abbrev pub back_of : Request → List ℕ
back_of r = if r.cut == 0 then [] else drop r.cut r.bytes

-- the fronts of requests, each of the next connection from c on
abbrev pub fronts : ℕ → List Request → List ScriptEvent
fronts c [] = []
fronts c (r ∷ rs) = pieces c (front_of r) ++ fronts (c + 1) rs

abbrev pub backs : ℕ → List Request → List ScriptEvent
backs c [] = []
backs c (r ∷ rs) = pieces c (back_of r) ++ backs (c + 1) rs

-- a group of requests, one of each connection: first all fronts, then all backs
abbrev pub group_events : List Request → List ScriptEvent
group_events rs = fronts 0 rs ++ backs 0 rs

-- four connections are opened, of which requests come in groups, and then closed
abbrev pub opens : List ScriptEvent
opens = Open ∷ Open ∷ Open ∷ Open ∷ []

abbrev pub closes : List ScriptEvent
closes = Close 0 ∷ Close 1 ∷ Close 2 ∷ Close 3 ∷ []

abbrev pub events_of : List Request → List ScriptEvent
events_of requests = opens ++ flat_map group_events (slices 4 requests) ++ closes
