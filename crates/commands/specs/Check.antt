-- What the command `check` is to answer.
use Rattle.std.specs.Prelude.{ℕ, ◌≡◌, List, ◌++◌, length, codes, decimal}
use Rattle.minor_version.specs.Release.{release_text}
use Rattle.schemas.specs.Dated.{Dated}
use Rattle.schemas.specs.Rules.{first_of, last_of}
use Rattle.commands.specs.declared.status.Status.{Status}
use Rattle.commands.specs.declared.status.Status.TheVariants as status

-- how many entries a history has, by array
abbrev pub counts_text : Dated → List ℕ
counts_text h =
    decimal (length h.gates) ++ (codes " gate, " ++ (decimal (length h.apis) ++ (codes " api, "
    ++ (decimal (length h.fields) ++ (codes " field, "
    ++ (decimal (length h.spells) ++ codes " spell entries\n"))))))

-- the releases of which an accepted history speaks, and how many entries it has
abbrev pub accepted_line : Dated → List ℕ
accepted_line h =
    codes "accepted " ++ (release_text (first_of h)
    ++ (codes " to " ++ (release_text (last_of h) ++ (codes ": " ++ counts_text h))))

-- what `check` is to answer on an accepted history
abbrev pub IsAcceptance : Dated → Status → List ℕ → Type 0
IsAcceptance h s text = (s ≡ status.Ok) × (text ≡ accepted_line h)
