-- When a call that is to serve serves to its end: what it is to serve, and that nothing failed beneath it.
use Rattle.std.specs.Prelude.{◌≡◌, ◌<◌, ℕ, List, [], ◌∷◌, length}
use Rattle.basis.specs.Counts.{Rose}
use Rattle.disk.specs.Beside.{Beside, FrontEvent, Opened, Piece, Closed, End}
use Rattle.object_journal.specs.Journal.{IsRefusal}
use Rattle.object_state.specs.State.{State}
use Rattle.object_store.specs.Records.{RecoversTo}
use Rattle.object_store.specs.declared.item.Item.{Item}
use Rattle.plain_machine.specs.declared.machine.Machine.{Machine}
use Rattle.release_view.specs.Views.{Viewed}
use Rattle.schemas.specs.Dated.{Dated}
use Rattle.served_history.specs.Releases.{Accepts, FlagTexts, IsFor}
use Rattle.session_ends.specs.Ends.{most_events}
use Rattle.stored_state.specs.Both.{StandForBoth}
use Rattle.world.specs.Fronts.{IsAboveMark}
use Rattle.emu_server.specs.Histories.{MeansAccepted}
use Rattle.emu_server.specs.Serving.{AsksToServe}

-- the words and the bytes ask to serve an accepted history, with texts that it takes, over a store that breaks its grammar
-- nowhere and whose records stand for a state by both releases
pub record CanServe (words : List (List ℕ)) (bytes store : List ℕ) : Type 0 where
  pub o : FlagTexts
  pub asks : AsksToServe words o
  pub h : Dated
  pub means : MeansAccepted bytes h
  pub e : ℕ
  pub m : ℕ
  pub accepts : Accepts h o e m
  pub unbroken : (place : ℕ) → ¬ IsRefusal store place
  pub stand : (machine : Machine) (back : Viewed) → IsFor h o machine back
      → (items : List Item) (revision : ℕ) → RecoversTo store items revision
      → (state : State) × StandForBoth back machine.view items revision state

-- the events but the ends
abbrev pub but_ends : List FrontEvent → List FrontEvent
but_ends [] = []
but_ends (Opened c ∷ events) = Opened c ∷ but_ends events
but_ends (Piece c bytes ∷ events) = Piece c bytes ∷ but_ends events
but_ends (Closed c ∷ events) = Closed c ∷ but_ends events
but_ends (End ∷ events) = but_ends events

-- the source, the sink and the disk counted no fault, and the front none since the last send; and fewer events than the
-- most were taken
pub record IsCalm (source_old source_new sink_old sink_new disk_old disk_new : ℕ) (b : Beside) : Type 0 where
  pub source : ¬ Rose source_old source_new
  pub sink : ¬ Rose sink_old sink_new
  pub disk : ¬ Rose disk_old disk_new
  pub front : ¬ IsAboveMark b
  pub few : length (but_ends b.taken) < most_events
