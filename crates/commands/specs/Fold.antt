-- What the command `fold` is to answer.
use Rattle.std.specs.Prelude.{ℕ, ◌≡◌, List}
use Rattle.history_fold.specs.Folded.{folded}
use Rattle.history_toml.specs.Layout.{history_text}
use Rattle.schemas.specs.Dated.{Dated}
use Rattle.commands.specs.declared.status.Status.{Status}
use Rattle.commands.specs.declared.status.Status.TheVariants as status

-- the document of the history
abbrev pub IsDocument : Dated → Status → List ℕ → Type 0
IsDocument h s text = (s ≡ status.Ok) × (text ≡ history_text h)

-- that of the folded history
abbrev pub IsFolding : Dated → Status → List ℕ → Type 0
IsFolding h = IsDocument (folded h)
