-- A step of a server: the records go on standing, and are those that are kept.
use Rattle.release_view.specs.Views.{Viewed}
use Rattle.storage_version.specs.Laws.{ReadsOwn, ReadsKnown, ReadsOnce, GoesOnStanding, KeepsRecords}
use Rattle.storage_version.proofs.KeptLemmas.{kept_unchanged, kept_stepped, kept_once}
use Rattle.storage_version.proofs.KnownLemmas.{known_stands_after}
use Rattle.storage_version.proofs.StandingLemmas.{stands_after, counted_after, at_after}

pub goes_on_standing : (back view : Viewed) → ReadsOwn view.versions → ReadsOnce view.versions → ReadsOnce back.versions → ReadsKnown back view → GoesOnStanding back view
goes_on_standing back view own once once_back known = λ history one old new revision state next change e step stands. (
  stands_after back.versions view.versions own once old new revision e state next change step.order stands step.of_server step.applied step.entry step.changed,
  λ before.
      known_stands_after back view history one known once_back state change e revision step.of_server step.entry old new next before step.applied step.changed
      (counted_after back.versions view.versions old new revision e state next change step.order stands step.of_server step.applied step.entry step.changed)
      (at_after back.versions view.versions old new revision e state next change step.order stands step.of_server step.applied step.entry step.changed),
)

pub keeps_records : (back view : Viewed) → KeepsRecords back view
keeps_records back view = record {
  unchanged = λ old revision state order stands. kept_unchanged back.versions view.versions old revision state stands order;
  stepped = λ old records new revision state next change e below step kept. kept_stepped back.versions view.versions old records new revision state next change e below step.of_server step.applied step.entry step.changed kept;
  once = λ old records others state revision other p q. kept_once back.versions view.versions old records others state revision other p q;
}
