-- Served versions in order of their groups.
use Rattle.std.specs.Prelude.{◌≡◌, ◌≢◌, ℕ, List, [], ◌∷◌}
use Rattle.std.specs.List.{AllByRecursion}
use Rattle.std.specs.Cmp.Lexicographic.{slice_cmp}
use Rattle.std.specs.Ordering.{nat_cmp}
use Rattle.std.specs.declared.cmp.Ordering.TheVariants.{Greater}
use Rattle.release_view.specs.declared.served.ServedVersion.{ServedVersion}

-- no group stands before an earlier one
abbrev pub GroupsRise : List ServedVersion → Type 0
GroupsRise [] = Unit {0}
GroupsRise (x ∷ xs) =
    AllByRecursion (λ y. slice_cmp nat_cmp x.group y.group ≢ Greater) xs × GroupsRise xs

-- all are of the group
abbrev pub AreIn : List ℕ → List ServedVersion → Type 0
AreIn group served = AllByRecursion (λ s. s.group ≡ group) served

-- the first, if there is one, is of another group
abbrev pub IsOfAnother : List ℕ → List ServedVersion → Type 0
IsOfAnother group [] = Unit {0}
IsOfAnother group (s ∷ more) = s.group ≢ group
