-- What follows for the state, and for the records that are kept.
use Rattle.std.specs.Prelude.{◌≡◌, ◌≤◌, ◌++◌, ℕ, List, Some, Contains, map}
use Rattle.http_front.specs.Replies.{reply_codes}
use Rattle.http_front.specs.declared.request.Request.{Request}
use Rattle.object_pages.specs.Fitting.{FitVersions}
use Rattle.object_state.specs.Objects.{AreInKeyOrder}
use Rattle.object_state.specs.State.{State}
use Rattle.object_state.specs.declared.object.Change.{Change}
use Rattle.object_store.specs.Records.{AreInKeyOrder as AreRecordsInOrder}
use Rattle.object_store.specs.declared.item.Item.{Item}
use Rattle.plain_machine.specs.Deciding.{IsDecided}
use Rattle.plain_machine.specs.declared.decision.Decided.{Decided}
use Rattle.plain_machine.specs.declared.machine.Machine.{Machine}
use Rattle.release_view.specs.Later.{AreOfOneHistory}
use Rattle.release_view.specs.Views.{Viewed}
use Rattle.release_view.specs.declared.known.KnownVersion.{KnownVersion}
use Rattle.schemas.specs.Dated.{Dated}
use Rattle.storage_version.specs.Kept.{AreKept}
use Rattle.storage_version.specs.Standing.{StandsFor}
use Rattle.stored_change.specs.Changes.{IsStorable}
use Rattle.stored_state.specs.Both.{StandForBoth, AreWithin}
use Rattle.served_steps.specs.Steps.{Exchange, Steps}

-- ---- steps

-- the same items have the same replies, and leave one state
abbrev pub HaveOneEnd : Machine → State → Type 0
HaveOneEnd m s = (xs ys : List Exchange) (after later : State)
    → map (λ x. x.item) xs ≡ map (λ x. x.item) ys
    → Steps m s xs after → Steps m s ys later → (xs ≡ ys) × (after ≡ later)

-- some steps and then others are all of them one after another
pub record AreJoined (m : Machine) (s : State) : Type 0 where
  pub joined : (xs ys : List Exchange) (middle after : State)
      → Steps m s xs middle → Steps m middle ys after → Steps m s (xs ++ ys) after
  pub parted : (xs ys : List Exchange) (after : State) → Steps m s (xs ++ ys) after
      → (middle : State) × Steps m s xs middle × Steps m middle ys after

-- steps don't lower the revision, and the objects go on fitting the versions of their resources
pub record KeepWhatHolds (m : Machine) (s : State) : Type 0 where
  pub later : (xs : List Exchange) (after : State) → Steps m s xs after
      → s.revision ≤ after.revision
  pub fitting : (xs : List Exchange) (after : State) → FitVersions m.view.versions s.objects
      → Steps m s xs after → FitVersions m.view.versions after.objects
  pub codes_known : (xs : List Exchange) (after : State) (x : Exchange) → Steps m s xs after
      → Contains xs x → Contains reply_codes x.reply.code

-- ---- changes

-- objects that records of live kinds are read as fit the versions of their resources
abbrev pub StandFitting : List KnownVersion → Type 0
StandFitting versions = (items : List Item) (revision : ℕ) (state : State)
    → StandsFor items revision versions state → FitVersions versions state.objects

-- a change that a request makes can be stored
abbrev pub ChangesAreStorable : Viewed → Machine → Type 0
ChangesAreStorable back m = (history : Dated) → AreOfOneHistory history back m.view
    → (s : State) (q : Request) (d : Decided) (change : Change) → AreInKeyOrder s.objects
    → FitVersions m.view.versions s.objects → IsDecided m s q d → d.change ≡ Some change
    → IsStorable back m.view s change

-- ---- records

-- After any steps from a state that records stand for, those that are kept of them stand for the later state, and by the
-- earlier release for what that knows of it.
abbrev pub KeptGoOnStanding : Viewed → Machine → Type 0
KeptGoOnStanding back m = (history : Dated) → AreOfOneHistory history back m.view
    → (old new : List Item) (revision later : ℕ) (s after : State) (xs : List Exchange)
    → AreRecordsInOrder old → AreWithin old revision
    → StandForBoth back m.view old revision s → Steps m s xs after
    → AreKept back.versions m.view.versions old after new later
    → StandForBoth back m.view new later after

-- and there are such records
abbrev pub AreKeptAfterSteps : Viewed → Machine → Type 0
AreKeptAfterSteps back m = (history : Dated) → AreOfOneHistory history back m.view
    → (old : List Item) (revision : ℕ) (s after : State) (xs : List Exchange)
    → AreRecordsInOrder old → AreWithin old revision
    → StandForBoth back m.view old revision s → Steps m s xs after
    → (new : List Item) × AreKept back.versions m.view.versions old after new after.revision
