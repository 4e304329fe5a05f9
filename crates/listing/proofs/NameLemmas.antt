-- Names of three parts are the same where they compare equal.
use Rattle.std.proofs.Common.{ℕ, ◌≡◌, List, true}
use Rattle.std.specs.Prelude.{◌&&◌}
use Rattle.std.specs.Str.{bytes_eq}
use Rattle.std.proofs.lemmas.Bool.{and_parts}
use Rattle.std.proofs.lemmas.Slice.Eq.{bytes_eq-Decides}
use Rattle.basis.specs.NameMap.{is_same_name}

-- names that compare the same are the same in each part
pub parts_same : (a b c x y z : List ℕ) → is_same_name a b c x y z ≡ true → (a ≡ x) × (b ≡ y) × (c ≡ z)
parts_same a b c x y z same =
    let (front, third) = and_parts (bytes_eq a x && bytes_eq b y) (bytes_eq c z) same in
    let (first, second) = and_parts (bytes_eq a x) (bytes_eq b y) front in
    ((bytes_eq-Decides a x).0 first, (bytes_eq-Decides b y).0 second, (bytes_eq-Decides c z).0 third)
