-- Names of three parts are the same where they compare equal.
use Rattle.std.proofs.Common.{ℕ, ◌≡◌, List, [], Bool, true, false, refl, sym, ap, ◌∙◌, Ordering, Less, Equal, Greater}
use Rattle.std.specs.Prelude.{◌&&◌}
use Rattle.std.specs.Cmp.Lexicographic.{slice_cmp}
use Rattle.std.specs.Ordering.{nat_cmp, ordering_then, is_eq}
use Rattle.std.specs.Str.{bytes_eq}
use Rattle.std.proofs.lemmas.Map.Text.{is_eq-slice_cmp}
use Rattle.std.proofs.lemmas.Bool.Decides.{same_from_decides, Decides-like}
use Rattle.std.proofs.lemmas.Slice.Eq.{bytes_eq-Decides}
use Rattle.basis.specs.NameMap.{is_same_name}

is_eq-then : (o p : Ordering) → is_eq (ordering_then o p) ≡ (is_eq o && is_eq p)
is_eq-then Less p = refl
is_eq-then Equal p = refl
is_eq-then Greater p = refl

pub same_name : (a b c x y z : List ℕ) → is_eq (ordering_then (ordering_then (slice_cmp nat_cmp a x) (slice_cmp nat_cmp b y)) (slice_cmp nat_cmp c z)) ≡ is_same_name a b c x y z
same_name a b c x y z = rw (is_eq-then (ordering_then (slice_cmp nat_cmp a x) (slice_cmp nat_cmp b y)) (slice_cmp nat_cmp c z), is_eq-then (slice_cmp nat_cmp a x) (slice_cmp nat_cmp b y), is_eq-slice_cmp a x, is_eq-slice_cmp b y, is_eq-slice_cmp c z)

and_true : (b : Bool) → (b && true) ≡ b
and_true true = refl
and_true false = refl

pub bytes_turned : (a b : List ℕ) → bytes_eq a b ≡ bytes_eq b a
bytes_turned a b = same_from_decides (bytes_eq a b) (bytes_eq b a) (bytes_eq-Decides a b) (Decides-like (bytes_eq b a) sym sym (bytes_eq-Decides b a))

-- a name with one part that isn't empty
pub one_part : (a b q : List ℕ) → a ≡ b → is_same_name a [] [] q [] [] ≡ bytes_eq q b
one_part a b q e = and_true (bytes_eq a q && true) ∙ and_true (bytes_eq a q) ∙ ap (λ (x : List ℕ). bytes_eq x q) e ∙ bytes_turned b q

pub three_parts : (a b c a' b' c' x y z : List ℕ) → a ≡ a' → b ≡ b' → c ≡ c' → is_same_name a b c x y z ≡ (bytes_eq x a' && bytes_eq y b' && bytes_eq z c')
three_parts a b c a' b' c' x y z p q r = rw (bytes_turned a x, bytes_turned b y, bytes_turned c z, p, q, r)

pub same_bytes : (a b : List ℕ) → a ≡ b → bytes_eq a b ≡ true
same_bytes a b e = (bytes_eq-Decides a b).1 e

pub same_parts : (a b c x y z : List ℕ) → a ≡ x → b ≡ y → c ≡ z → is_same_name a b c x y z ≡ true
same_parts a b c x y z p q r = rw (same_bytes a x p, same_bytes b y q, same_bytes c z r)
