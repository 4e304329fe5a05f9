-- What each command is to answer on an accepted history.
use Rattle.std.specs.Prelude.{ℕ, ◌≤◌, List}
use Rattle.schemas.specs.Dated.{Dated}
use Rattle.words.specs.declared.command.Command.{Command}
use Rattle.words.specs.declared.command.Command.TheVariants.{Check, Convert, Cut, Discover, Fold, Gates, Twin}
use Rattle.commands.specs.Check.{IsAcceptance}
use Rattle.commands.specs.Convert.{IsConversion}
use Rattle.commands.specs.Cut.{IsCutting}
use Rattle.commands.specs.Discover.{IsListing}
use Rattle.commands.specs.Fold.{IsFolding}
use Rattle.commands.specs.Gates.{IsGateListing}
use Rattle.commands.specs.Texts.{texts_given}
use Rattle.commands.specs.Twins.{IsTwinning}
use Rattle.commands.specs.declared.status.Status.{Status}

-- the command reads a history and prints an answer, without a store; a workload has so many requests at most
abbrev pub IsPlain : Command → Type 0
IsPlain Check = Unit {0}
IsPlain Fold = Unit {0}
IsPlain (Cut at) = Unit {0}
IsPlain (Discover emulated runtime) = Unit {0}
IsPlain (Gates emulated features) = Unit {0}
IsPlain (Convert emulated object to) = Unit {0}
IsPlain (Twin flags seed size) = size ≤ 10000
IsPlain _ = ⊥

-- what it is to answer on an accepted history
abbrev pub IsWork : Command → Dated → Status → List ℕ → Type 0
IsWork Check h s text = IsAcceptance h s text
IsWork Fold h s text = IsFolding h s text
IsWork (Cut at) h s text = IsCutting at h s text
IsWork (Discover emulated runtime) h s text = IsListing emulated runtime h s text
IsWork (Gates emulated features) h s text = IsGateListing emulated features h s text
IsWork (Convert emulated object to) h s text = IsConversion emulated object to h s text
IsWork (Twin flags seed size) h s text = IsTwinning (texts_given flags) seed size h s text
IsWork _ h s text = ⊥
