-- The texts of keys.
use Rattle.std.proofs.Common.{◌≡◌, ◌==◌, ℕ, false, List, [], ◌∷◌, ◌++◌, length, codes, Result, Ok, Err, IfOk, refl}
use Rattle.lifecycle.specs.Names.{group_version}

pub group_version_some : (group version : List ℕ) → (length group == 0) ≡ false → group ++ codes "/" ++ version ≡ group_version group version
group_version_some [] version h = absurd cc
group_version_some (c ∷ cs) version h = refl

pub IfOk-map : {T E : Type 0} (r : Result T E) (P Q : T → Type 0) → ((x : T) → P x → Q x) → IfOk r P → IfOk r Q
IfOk-map (Ok x) P Q f h = f x h
IfOk-map (Err e) P Q f h = h
