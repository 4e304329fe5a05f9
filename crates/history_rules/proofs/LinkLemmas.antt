-- Steps of a pass that links each entry to an earlier one.
use Rattle.std.proofs.Common.{ℕ, zero, suc, ◌≡◌, ◌+◌, ◌<◌, ◌≤◌, List, [], ◌∷◌, ◌++◌, Bool, true, false, Option, Some, cond, length, take, refl, sym, ap, subst, ◌∙◌, arith, inl, inr, get_or, length-append}
use Rattle.std.specs.Prelude.{slice_get}
use Rattle.std.specs.Option.{option_copied}
use Rattle.std.specs.Borrow.{Bor}
use Rattle.std.proofs.Math.Nat.{eq-or-lt_of_le}
use Rattle.std.proofs.lemmas.Option.{slice_get_read}
use Rattle.schemas.specs.Places.{last_passing}
use Rattle.schemas.proofs.PlaceLemmas.{some_injective}
use Rattle.schemas.proofs.PreviousLemmas.{last_passing-more}
use Rattle.history_rules.specs.Previous.{AreLinked}

slice_get_pushed : {E : Type 0} (xs : List E) (y : E) (i : ℕ) → i < length xs → slice_get (xs ++ y ∷ []) i ≡ slice_get xs i
slice_get_pushed [] y i h = absurd (omega arith)
slice_get_pushed (x ∷ xs) y zero h = refl
slice_get_pushed (x ∷ xs) y (suc i) h = slice_get_pushed xs y i (omega arith)

slice_get_new : {E : Type 0} (xs : List E) (y : E) → slice_get (xs ++ y ∷ []) (length xs) ≡ Some y
slice_get_new [] y = refl
slice_get_new (x ∷ xs) y = slice_get_new xs y

pub linked_none : {E : Type 0} (earlier_of : List E → E → Option E) (xs : List E) → AreLinked earlier_of xs 0 []
linked_none {E} earlier_of xs = record { count = refl; linked = λ (i : ℕ) (x : E) (link : Option (Bor E)) (below : i < 0) (s : slice_get xs i ≡ Some x) (t : slice_get [] i ≡ Some link). absurd (omega arith) }

pub linked_more : {E : Type 0} (earlier_of : List E → E → Option E) (xs : List E) (n : ℕ) (links : List (Option (Bor E))) (x : E) (link : Option (Bor E)) → slice_get xs n ≡ Some x → option_copied link ≡ earlier_of (take n xs) x → AreLinked earlier_of xs n links → AreLinked earlier_of xs (n + 1) (links ++ link ∷ [])
linked_more {E} earlier_of xs n links x link stands here before = record {
  count = length-append links (link ∷ []) ∙ ap (λ (k : ℕ). k + 1) before.count;
  linked = λ (i : ℕ) (y : E) (l : Option (Bor E)) (below : i < n + 1) (s : slice_get xs i ≡ Some y) (t : slice_get (links ++ link ∷ []) i ≡ Some l).
      let at_most : i ≤ n = omega arith in
      let size : length links ≡ n = before.count in
      elim (eq-or-lt_of_le at_most) [
        | inr less ↦ before.linked i y l less s (sym (slice_get_pushed links link i (omega arith)) ∙ t)
        | inl same ↦
            let entry : x ≡ y = some_injective x y (sym stands ∙ subst (λ (k : ℕ). slice_get xs k ≡ Some y) same s) in
            let at : slice_get (links ++ link ∷ []) (length links) ≡ Some l = subst (λ (k : ℕ). slice_get (links ++ link ∷ []) k ≡ Some l) (same ∙ sym size) t in
            let known : link ≡ l = some_injective link l (sym (slice_get_new links link) ∙ at) in
            subst (λ (k : ℕ). option_copied l ≡ earlier_of (take k xs) y) (sym same) (subst (λ (z : E). option_copied l ≡ earlier_of (take n xs) z) entry (subst (λ (m : Option (Bor E)). option_copied m ≡ earlier_of (take n xs) x) known here))
      ];
}

copied_cond : {E : Type 0} (t : Bool) (r : Bor E) (old : Option (Bor E)) → option_copied (cond t (Some r) old) ≡ cond t (Some r.now) (option_copied old)
copied_cond true r old = refl
copied_cond false r old = refl

-- the latest entry of each name, as a map keeps it, is the last that passes the name's test
pub latest_more : {E : Type 0} (test : E → Bool) (xs : List E) (n : ℕ) (x : E) (r : Bor E) (b : Bool) (old new : Option (Bor E)) → slice_get xs n ≡ Some x → r.now ≡ x → b ≡ test x → new ≡ cond b (Some r) old → option_copied old ≡ last_passing test (take n xs) → option_copied new ≡ last_passing test (take (n + 1) xs)
latest_more {E} test xs n x r b old new stands is same put before =
    ap option_copied put ∙ copied_cond b r old
    ∙ ap (λ (o : Option E). cond b (Some r.now) o) before
    ∙ ap (λ (t : Bool). cond t (Some r.now) (last_passing test (take n xs))) same
    ∙ ap (λ (z : E). cond (test x) (Some z) (last_passing test (take n xs))) is
    ∙ sym (last_passing-more test xs n x stands)

-- a link read at a place
pub link_at : {E : Type 0} (earlier_of : List E → E → Option E) (xs : List E) (links : List (Option (Bor E))) (n : ℕ) (x : E) (link : Option (Bor E)) → AreLinked earlier_of xs (length xs) links → n < length xs → x ≡ get_or xs n x → link ≡ get_or links n link → option_copied link ≡ earlier_of (take n xs) x
link_at {E} earlier_of xs links n x link known within is linked =
    let size : length links ≡ length xs = known.count in
    known.linked n x link within (slice_get_read xs (length xs) n x refl within is) (slice_get_read links (length links) n link refl (omega arith) linked)
