-- The first fault of a list of tests.
use Rattle.std.proofs.Common.{◌≡◌, ℕ, zero, suc, ◌<◌, List, [], ◌∷◌, ◌++◌, length, take, map, get_or, refl, sym, ap, ◌∙◌, append_assoc, arith}
use Rattle.std.specs.List.{AllByRecursion, flat_map}
use Rattle.history_reader.specs.Tests.{Place, Test, Passes, IsFirstFault}

pub passed-append : (xs ys : List Test) → AllByRecursion Passes xs → AllByRecursion Passes ys → AllByRecursion Passes (xs ++ ys)
passed-append [] ys a b = b
passed-append (x ∷ xs) ys a b = (a.0, passed-append xs ys a.1 b)

pub passed-front : (xs ys : List Test) → AllByRecursion Passes (xs ++ ys) → AllByRecursion Passes xs
passed-front [] ys h = tt
passed-front (x ∷ xs) ys h = (h.0, passed-front xs ys h.1)

pub passed-back : (xs ys : List Test) → AllByRecursion Passes (xs ++ ys) → AllByRecursion Passes ys
passed-back [] ys h = h
passed-back (x ∷ xs) ys h = passed-back xs ys h.1

-- the fault of the first tests is that of all
pub fault-front : (xs ys : List Test) (p : Place) → IsFirstFault xs p → IsFirstFault (xs ++ ys) p
fault-front xs ys p f = record {
  before = f.before;
  test = f.test;
  after = f.after ++ ys;
  split = ap (λ l. l ++ ys) f.split ∙ append_assoc f.before (f.test ∷ f.after) ys;
  passed = f.passed;
  failed = f.failed;
  named = f.named;
}

-- tests that pass, and the fault of those after them
pub fault-back : (xs ys : List Test) (p : Place) → AllByRecursion Passes xs → IsFirstFault ys p → IsFirstFault (xs ++ ys) p
fault-back xs ys p h f = record {
  before = xs ++ f.before;
  test = f.test;
  after = f.after;
  split = ap (λ l. xs ++ l) f.split ∙ sym (append_assoc xs f.before (f.test ∷ f.after));
  passed = passed-append xs f.before h f.passed;
  failed = f.failed;
  named = f.named;
}

-- the first test fails
pub fault-here : (t : Test) (ts : List Test) (p : Place) → (Passes t → ⊥) → p ≡ t.place → IsFirstFault (t ∷ ts) p
fault-here t ts p h e = record {
  before = [];
  test = t;
  after = ts;
  split = refl;
  passed = tt;
  failed = h;
  named = e;
}

-- one test for each item of a list, in order
pub mapped_fault : {X : Type 0} (f : X → Test) (xs : List X) (i : ℕ) (d : X) (p : Place) → i < length xs
    → AllByRecursion Passes (map f (take i xs)) → (Passes (f (get_or xs i d)) → ⊥) → p ≡ (f (get_or xs i d)).place
    → IsFirstFault (map f xs) p
mapped_fault f [] i d p h a n e = absurd (omega arith)
mapped_fault f (x ∷ xs) zero d p h a n e = fault-here (f x) (map f xs) p n e
mapped_fault f (x ∷ xs) (suc i) d p h a n e = fault-back (f x ∷ []) (map f xs) p (a.0, tt) (mapped_fault f xs i d p (omega arith) a.1 n e)

-- a list of tests for each item of a list, in order
pub joined_fault : {X : Type 0} (f : X → List Test) (xs : List X) (i : ℕ) (d : X) (p : Place) → i < length xs
    → AllByRecursion Passes (flat_map f (take i xs)) → IsFirstFault (f (get_or xs i d)) p → IsFirstFault (flat_map f xs) p
joined_fault f [] i d p h a n = absurd (omega arith)
joined_fault f (x ∷ xs) zero d p h a n = fault-front (f x) (flat_map f xs) p n
joined_fault f (x ∷ xs) (suc i) d p h a n =
    fault-back (f x) (flat_map f xs) p (passed-front (f x) _ a) (joined_fault f xs i d p (omega arith) (passed-back (f x) _ a) n)

pub joined_passed : {X : Type 0} (f : X → List Test) (xs : List X) → AllByRecursion Passes (flat_map f xs) → AllByRecursion (λ x. AllByRecursion Passes (f x)) xs
joined_passed f [] h = tt
joined_passed f (x ∷ xs) h = (passed-front (f x) _ h, joined_passed f xs (passed-back (f x) _ h))
