-- A script that a machine answers from an empty store, and the numbers of it.
use Rattle.std.specs.Prelude.{◌≡◌, ℕ, List, [], ◌∷◌, ◌++◌, true, All, length}
use Rattle.std.specs.List.{sum_by}
use Rattle.disk.specs.Beside.{Beside, End, FrontEvent}
use Rattle.history_fold.specs.Folded.{folded}
use Rattle.http_front.specs.Replies.{reply_text}
use Rattle.object_state.specs.State.{State}
use Rattle.object_store.specs.Records.{RecoversTo}
use Rattle.object_store.specs.declared.item.Item.{Item}
use Rattle.plain_machine.specs.declared.machine.Machine.{Machine}
use Rattle.release_view.specs.Views.{IsViewByTexts}
use Rattle.release_view.specs.declared.known.KnownVersion.{KnownVersion}
use Rattle.schemas.specs.Cutoff.{cutoff}
use Rattle.schemas.specs.Dated.{Dated}
use Rattle.schemas.specs.Rules.{last_of}
use Rattle.scripts.specs.declared.script.ScriptEvent.{ScriptEvent}
use Rattle.served_history.specs.Releases.{Accepts, FlagTexts, given}
use Rattle.served_steps.specs.Steps.{Steps}
use Rattle.session_course.specs.Sends.{AreSent, exchanges}
use Rattle.session_ends.specs.Drawn.{HasDrawn}
use Rattle.session_ends.specs.declared.served.Served.{Served}
use Rattle.session_turns.specs.Turns.{AreTurns, Turn}
use Rattle.storage_version.specs.Standing.{StandsFor}
use Rattle.twin.specs.declared.count.TwinCount.{TwinCount}
use Rattle.workload.specs.Workload.{IsWorkload}
use Rattle.world.specs.Tapes.{told}

-- the state that the bytes of a store stand for, as these versions read them
pub record IsStateOf (bytes : List ℕ) (versions : List KnownVersion) (state : State) : Type 0 where
  pub items : List Item
  pub revision : ℕ
  pub recovered : RecoversTo bytes items revision
  pub stands : StandsFor items revision versions state

-- Over the store of these bytes a front was served up to its end.
pub record IsServedWhole (machine : Machine) (bytes : List ℕ) (old new : Beside) (served : Served) : Type 0 where
  pub state : State
  pub stored : IsStateOf bytes machine.view.versions state
  pub turns : List Turn
  pub sent : AreSent turns new.sends
  pub last : State
  pub steps : Steps machine state (exchanges turns) last
  pub before : List FrontEvent
  pub ended : new.taken ≡ before ++ End ∷ []
  pub are : AreTurns new.taken turns
  pub drawn : HasDrawn 4096 old new
  pub requests : served.requests ≡ length turns
  pub revision : served.revision ≡ last.revision

-- The machine answers the script, from an empty store, and all replies go: so many requests, so many bytes, and this
-- revision at the end.
pub record IsRun (machine : Machine) (script : List ScriptEvent) (count : TwinCount) : Type 0 where
  pub start : State
  pub empty : IsStateOf [] machine.view.versions start
  pub turns : List Turn
  pub are : AreTurns (told script) turns
  pub went : All (λ t. t.went ≡ true) turns
  pub last : State
  pub steps : Steps machine start (exchanges turns) last
  pub requests : count.requests ≡ length turns
  pub bytes : count.bytes ≡ sum_by (λ t. length (reply_text t.reply)) turns
  pub revision : count.revision ≡ last.revision

-- a binary of the history's last release that emulates e by these texts, with m as the minimum compatibility
pub record IsMachineOf (h : Dated) (e m : ℕ) (features runtime : List ℕ) (machine : Machine) : Type 0 where
  pub view : IsViewByTexts h e features runtime machine.view
  pub release : machine.release ≡ last_of h
  pub least : machine.back ≡ m

-- it runs the script that the seed makes for its view
pub record IsRunOf (h : Dated) (e m : ℕ) (features runtime : List ℕ) (seed size : ℕ) (count : TwinCount) : Type 0 where
  pub machine : Machine
  pub of : IsMachineOf h e m features runtime machine
  pub script : List ScriptEvent
  pub made : IsWorkload machine.view seed size script
  pub run : IsRun machine script count

-- The texts choose e and m of the whole history; the numbers are those of the history that is cut at e, and of the folded one.
pub record IsTwin (h : Dated) (o : FlagTexts) (seed size : ℕ) (count : TwinCount) : Type 0 where
  pub e : ℕ
  pub m : ℕ
  pub accepts : Accepts h o e m
  pub cut : IsRunOf (cutoff h e) e m (given o.features) (given o.runtime) seed size count
  pub folds : IsRunOf (folded h) e m (given o.features) (given o.runtime) seed size count
