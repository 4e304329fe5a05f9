use Rattle.std.proofs.Common.{All, take}
use Rattle.serde_json.specs.View.{view}
use Rattle.request_body.specs.Members.{FitsMember}
use Rattle.request_body.specs.Places.{place_seen}
use Rattle.request_body.proofs.members.misfit.Given as goal

-- the members so far fit
abbrev pub invariant-loop-member : goal.invariant-loop-member
invariant-loop-member l = All (FitsMember (place_seen l.place) (view l.tree)) (take l.member-index l.member-items)
