-- What is kept on the way to the rows of a version, and how it grows.
use Rattle.std.proofs.Common.{ℕ, ◌≡◌, ◌+◌, ◌<◌, List, [], ◌∷◌, ◌++◌, Bool, true, false, Option, Some, None, IfSome, cond, length, take, drop, get_or, sym, ap, subst, ◌∙◌, inl, inr, Contains}
use Rattle.std.specs.Prelude.{find, option_copied}
use Rattle.std.specs.Option.{option_or}
use Rattle.std.specs.BTreeMap.{BTreeMap, IsOrdered, get, Updates, is_at}
use Rattle.std.specs.Borrow.{Bor}
use Rattle.std.specs.Ordering.{nat_cmp}
use Rattle.std.specs.Cmp.Lexicographic.{slice_cmp}
use Rattle.std.specs.Str.{bytes_eq}
use Rattle.std.proofs.lemmas.Bool.{cases_Bool, cond-true}
use Rattle.std.proofs.lemmas.List.{take_more, take-append-drop, map-append}
use Rattle.std.proofs.lemmas.List.Elements.{Contains-append_left, Contains-push, Contains-push_cases}
use Rattle.std.proofs.lemmas.List.Folds.{find-append}
use Rattle.flag_text.proofs.LastLemmas.{at_same, at_itself}
use Rattle.fields.specs.declared.field.Field.{Field}
use Rattle.fields.specs.declared.field.Spell.{Spell}
use Rattle.listing.specs.Listing.{lent}
use Rattle.listing.proofs.ListingLemmas.{lent_push}
use Rattle.row_index.specs.Made.{spelling_in, AreApartById, HoldsById}

lent_more : {E : Type 0} (xs : List (Bor E)) (k : ℕ) (x : Bor E) → k < length xs → x ≡ get_or xs k x → lent (take (k + 1) xs) ≡ lent (take k xs) ++ x.now ∷ []
lent_more xs k x below is = ap lent (take_more xs k x below ∙ ap (λ y. take k xs ++ y ∷ []) (sym is)) ∙ lent_push (take k xs) x

taken : {E : Type 0} (xs : List (Bor E)) (k : ℕ) (x : E) → Contains (lent (take k xs)) x → Contains (lent xs) x
taken xs k x h = subst (λ l. Contains (lent l) x) (take-append-drop k xs) (subst (λ l. Contains l x) (sym (map-append (λ b. b.now) (take k xs) (drop k xs))) (Contains-append_left (lent (take k xs)) (lent (drop k xs)) x h))

still_named : (xs : List (Bor Field)) (k : ℕ) (x : Bor Field) (q : List ℕ) (o : Option (Bor Field)) → IfSome o (λ b. (b.now.id ≡ q) × Contains (lent (take k xs)) b.now) → IfSome o (λ b. (b.now.id ≡ q) × Contains (lent (take k xs) ++ x.now ∷ []) b.now)
still_named xs k x q None h = tt
still_named xs k x q (Some b) h = (h.0, Contains-append_left (lent (take k xs)) (x.now ∷ []) b.now h.1)

-- the map holds one field more
pub holds_more : (xs : List (Bor Field)) (k : ℕ) (x : Bor Field) (m n : BTreeMap (List ℕ) (Bor Field)) (key : List ℕ) → AreApartById (lent xs) → k < length xs → x ≡ get_or xs k x → key ≡ x.now.id → IsOrdered (slice_cmp nat_cmp) n → Updates (slice_cmp nat_cmp) m n key (Some x) → HoldsById (lent (take k xs)) m → HoldsById (lent (take (k + 1) xs)) n
holds_more xs k x m n key apart below is named order updates held =
    let more : lent (take (k + 1) xs) ≡ lent (take k xs) ++ x.now ∷ [] = lent_more xs k x below is in
    let there : Contains (lent xs) x.now = taken xs (k + 1) x.now (subst (λ l. Contains l x.now) (sym more) (Contains-push (lent (take k xs)) x.now)) in
    let older : (f : Field) → Contains (lent (take k xs)) f → Contains (lent xs) f = taken xs k in
    let here : (q : List ℕ) → is_at (slice_cmp nat_cmp key) q ≡ true → get (slice_cmp nat_cmp) n q ≡ Some x = λ q at. updates.0 q ∙ cond-true (is_at (slice_cmp nat_cmp key) q) (Some x) (get (slice_cmp nat_cmp) m q) at in
    let itself : is_at (slice_cmp nat_cmp key) x.now.id ≡ true = at_itself key x.now.id named in
    subst (λ l. HoldsById l n) (sym more) (record {
      order = order;
      named = λ q. elim (cases_Bool (is_at (slice_cmp nat_cmp key) q)) [
        | inl at ↦ subst (λ o. IfSome o (λ b. (b.now.id ≡ q) × Contains (lent (take k xs) ++ x.now ∷ []) b.now)) (sym (here q at)) (sym named ∙ at_same key q at, Contains-push (lent (take k xs)) x.now)
        | inr other ↦ subst (λ o. IfSome o (λ b. (b.now.id ≡ q) × Contains (lent (take k xs) ++ x.now ∷ []) b.now)) (sym (updates.2 q other)) (still_named xs k x q (get (slice_cmp nat_cmp) m q) (held.named q))
      ];
      each = λ (f : Field) there_f. elim (Contains-push_cases (lent (take k xs)) x.now f there_f) [
        | inl old ↦ elim (cases_Bool (is_at (slice_cmp nat_cmp key) f.id)) [
          | inl at ↦ ap option_copied (here f.id at) ∙ ap Some (apart x.now f there (older f old) (sym named ∙ at_same key f.id at))
          | inr other ↦ ap option_copied (updates.2 f.id other) ∙ held.each f old
        ]
        | inr new ↦ ap option_copied (here f.id (subst (λ (g : Field). is_at (slice_cmp nat_cmp key) g.id ≡ true) new itself)) ∙ ap Some new
      ];
    })

-- with one spelling more, none of those before being of the field's id
spelling_at : (spells : List (Bor Spell)) (k : ℕ) (x : Bor Spell) (f : Field) → k < length spells → x ≡ get_or spells k x → spelling_in (lent (take k spells)) f ≡ None → spelling_in (lent (take (k + 1) spells)) f ≡ cond (bytes_eq x.now.field f.id) (Some x.now) None
spelling_at spells k x f below is before =
    let p : Spell → Bool = λ s. bytes_eq s.field f.id in
    ap (find p) (lent_more spells k x below is) ∙ find-append p (lent (take k spells)) (x.now ∷ []) ∙ ap (λ o. option_or o (find p (x.now ∷ []))) before

-- the spelling at this place is the first of the field's id
pub spelling_here : (spells : List (Bor Spell)) (k : ℕ) (x : Bor Spell) (f : Field) → k < length spells → x ≡ get_or spells k x → bytes_eq x.now.field f.id ≡ true → spelling_in (lent (take k spells)) f ≡ None → Some x.now ≡ spelling_in (lent spells) f
spelling_here spells k x f below is same before =
    let p : Spell → Bool = λ s. bytes_eq s.field f.id in
    let whole : lent spells ≡ lent (take (k + 1) spells) ++ lent (drop (k + 1) spells) = ap lent (sym (take-append-drop (k + 1) spells)) ∙ map-append (λ b. b.now) (take (k + 1) spells) (drop (k + 1) spells) in
    let here : spelling_in (lent (take (k + 1) spells)) f ≡ Some x.now = spelling_at spells k x f below is before ∙ ap (λ (b : Bool). cond b (Some x.now) None) same in
    sym (ap (find p) whole ∙ find-append p (lent (take (k + 1) spells)) (lent (drop (k + 1) spells)) ∙ ap (λ o. option_or o (find p (lent (drop (k + 1) spells)))) here)

-- nor is the spelling at this place of the field's id
pub spelling_later : (spells : List (Bor Spell)) (k : ℕ) (x : Bor Spell) (f : Field) → k < length spells → x ≡ get_or spells k x → bytes_eq x.now.field f.id ≡ false → spelling_in (lent (take k spells)) f ≡ None → spelling_in (lent (take (k + 1) spells)) f ≡ None
spelling_later spells k x f below is other before = spelling_at spells k x f below is before ∙ ap (λ (b : Bool). cond b (Some x.now) None) other
