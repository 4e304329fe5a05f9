-- How a listing grows by an entry, and what it says of all entries.
use Rattle.std.proofs.Common.{ℕ, zero, suc, ◌≡◌, ◌<◌, ◌↔◌, ◌⊎◌, List, [], ◌∷◌, ◌++◌, Bool, true, false, Option, Some, None, cond, length, refl, sym, ap, subst, ◌∙◌, arith, inl, inr, get_or, Result, Ok, Err, OnOk}
use Rattle.std.specs.Prelude.{filter, All, Any}
use Rattle.std.specs.Option.{option_map_or}
use Rattle.std.specs.Borrow.{Bor}
use Rattle.std.specs.Global.{Vec}
use Rattle.std.proofs.lemmas.Bool.{false≢true}
use Rattle.std.proofs.lemmas.List.Elements.{All-cons, All-nil}
use Rattle.basis.specs.NameMap.{value_at, is_same_name}
use Rattle.basis.proofs.FilterLemmas.{filter-push, filter-push_not}
use Rattle.listing.specs.Listing.{Listed, lent, lent_in, listed_at, Name, name_of, IsListing, HasLent, EachLent}
use Rattle.listing.proofs.NameLemmas.{parts_same}

pub on_ok : {T E : Type 0} (r : Result T E) {P Q : Type 0} → (P → Q) → OnOk r P → OnOk r Q
on_ok (Ok x) f h = f h
on_ok (Err e) f h = h

abbrev pub listed_in : {E : Type 0} → Option (Vec (Bor E)) → List E
listed_in o = option_map_or (λ v. lent v.items) o []

pub lent_push : {E : Type 0} (xs : List (Bor E)) (x : Bor E) → lent (xs ++ x ∷ []) ≡ lent xs ++ x.now ∷ []
lent_push [] x = refl
lent_push (y ∷ xs) x = ap (λ l. y.now ∷ l) (lent_push xs x)

added_in : {E : Type 0} (b : Bool) (old new : Option (Vec (Bor E))) (v : Vec (Bor E)) (x : E) → new ≡ cond b (Some v) old → (b ≡ true → lent v.items ≡ listed_in old ++ x ∷ []) → listed_in new ≡ cond b (listed_in old ++ x ∷ []) (listed_in old)
added_in true old new v x p here = ap listed_in p ∙ here refl
added_in false old new v x p here = ap listed_in p

kept_in : {E : Type 0} (b : Bool) (old new : Option (Vec (Bor E))) (v : Vec (Bor E)) → new ≡ cond b (Some v) old → (b ≡ true → lent v.items ≡ listed_in old) → listed_in new ≡ listed_in old
kept_in true old new v p here = ap listed_in p ∙ here refl
kept_in false old new v p here = ap listed_in p

-- at one name one list
moved : {E : Type 0} (m : Listed E) (a b c x y z : List ℕ) → is_same_name a b c x y z ≡ true → listed_at m a b c ≡ listed_at m x y z
moved m a b c x y z same =
    let (p, q, r) = parts_same a b c x y z same in
    ap (λ (n : List ℕ). listed_at m n b c) p ∙ ap (λ (n : List ℕ). listed_at m x n c) q ∙ ap (λ (n : List ℕ). listed_at m x y n) r

-- n is m with v put at the name
abbrev pub PutAt : {E : Type 0} → Listed E → List ℕ → List ℕ → List ℕ → Vec (Bor E) → Listed E → Type 0
PutAt m a b c v n = (x y z : List ℕ) → value_at n x y z ≡ cond (is_same_name a b c x y z) (Some v) (value_at m x y z)

-- where what is put has one entry more than what was there, the name has one more
pub added : {E : Type 0} (m n : Listed E) (a b c : List ℕ) (v : Vec (Bor E)) (x : E) → PutAt m a b c v n → lent v.items ≡ listed_at m a b c ++ x ∷ [] → (p q r : List ℕ) → listed_at n p q r ≡ cond (is_same_name a b c p q r) (listed_at m p q r ++ x ∷ []) (listed_at m p q r)
added m n a b c v x puts is p q r =
    added_in (is_same_name a b c p q r) (value_at m p q r) (value_at n p q r) v x (puts p q r) (λ same. is ∙ ap (λ l. l ++ x ∷ []) (moved m a b c p q r same))

-- where what is put lists what was there, each name lists what it did
pub kept : {E : Type 0} (m n : Listed E) (a b c : List ℕ) (v : Vec (Bor E)) → PutAt m a b c v n → lent v.items ≡ listed_at m a b c → (p q r : List ℕ) → listed_at n p q r ≡ listed_at m p q r
kept m n a b c v puts is p q r =
    kept_in (is_same_name a b c p q r) (value_at m p q r) (value_at n p q r) v (puts p q r) (λ same. is ∙ moved m a b c p q r same)

-- the entries of this name
abbrev pub of_name : {E : Type 0} → (E → Name) → List ℕ → List ℕ → List ℕ → E → Bool
of_name name a b c x = is_same_name (name x).first (name x).second (name x).third a b c

grown_at : {E : Type 0} (test : E → Bool) (entries : List E) (x : E) (b : Bool) (old new : List E) → new ≡ cond b (old ++ x ∷ []) old → test x ≡ b → old ≡ filter test entries → new ≡ filter test (entries ++ x ∷ [])
grown_at test entries x true old new puts same is = puts ∙ ap (λ l. l ++ x ∷ []) is ∙ sym (filter-push test entries x same)
grown_at test entries x false old new puts same is = puts ∙ is ∙ sym (filter-push_not test entries x same)

-- an entry more at its name makes a listing of one entry more
pub grown : {E : Type 0} (named : E → Name) (entries : List E) (x : E) (a b c : List ℕ) (old new : Listed E) → ((p q r : List ℕ) → listed_at new p q r ≡ cond (is_same_name a b c p q r) (listed_at old p q r ++ x ∷ []) (listed_at old p q r)) → named x ≡ name_of a b c → IsListing named entries old → IsListing named (entries ++ x ∷ []) new
grown {E} named entries x a b c old new puts same listing p q r =
    grown_at (of_name named p q r) entries x (is_same_name a b c p q r) (listed_at old p q r) (listed_at new p q r) (puts p q r) (ap (λ (n : Name). is_same_name n.first n.second n.third p q r) same) (listing p q r)

any_uncons : {E : Type 0} (P : E → Type 0) (x : E) (xs : List E) (k : ℕ) (y : E) → k < length (x ∷ xs) → get_or (x ∷ xs) k y ≡ y → P y → P x ⊎ Any P xs
any_uncons {E} P x xs zero y h e p = inl (subst P (sym e) p)
any_uncons {E} P x xs (suc k) y h e p = inr (k, y, (omega arith), e, p)

any_split : {E : Type 0} (P : E → Type 0) (x : E) (xs : List E) → Any P (x ∷ xs) → P x ⊎ Any P xs
any_split P x xs any = any_uncons P x xs any.0 any.1 any.2 any.3 any.4

any_here : {E : Type 0} (P : E → Type 0) (x : E) (xs : List E) → P x → Any P (x ∷ xs)
any_here P x xs here = (0, x, (omega arith), refl, here)

any_more : {E : Type 0} (P : E → Type 0) (x : E) (xs : List E) → Any P xs → Any P (x ∷ xs)
any_more P x xs any = (suc any.0, any.1, (let k : any.0 < length xs = any.2 in omega arith), any.3, any.4)

any_none : {E : Type 0} (P : E → Type 0) → Any P [] → ⊥
any_none P any = (let k : any.0 < 0 = any.2 in omega arith)

all_first : {E : Type 0} (P : E → Type 0) (x : E) (xs : List E) → All P (x ∷ xs) → P x
all_first P x xs all = all 0 x (omega arith)

all_rest : {E : Type 0} (P : E → Type 0) (x : E) (xs : List E) → All P (x ∷ xs) → All P xs
all_rest {E} P x xs all = λ (k : ℕ) (d : E) (within : k < length xs). all (suc k) d (omega arith)

any_lent : {E : Type 0} (P : E → Type 0) (xs : List (Bor E)) → Any (λ b. P b.now) xs ↔ Any P (lent xs)
any_lent P [] = (λ any. absurd (any_none _ any), λ any. absurd (any_none P any))
any_lent {E} P (x ∷ xs) =
    let more = any_lent P xs in
    let Q : Bor E → Type 0 = λ b. P b.now in (
      λ any. elim (any_split Q x xs any) [ inl here ↦ any_here P x.now (lent xs) here | inr rest ↦ any_more P x.now (lent xs) (more.0 rest) ],
      λ any. elim (any_split P x.now (lent xs) any) [ inl here ↦ any_here Q x xs here | inr rest ↦ any_more Q x xs (more.1 rest) ],
    )

all_lent : {E : Type 0} (P : E → Type 0) (xs : List (Bor E)) → All (λ b. P b.now) xs ↔ All P (lent xs)
all_lent P [] = (λ all. All-nil P, λ all. All-nil (λ b. P b.now))
all_lent {E} P (x ∷ xs) =
    let more = all_lent P xs in
    let Q : Bor E → Type 0 = λ b. P b.now in (
      λ (all : All Q (x ∷ xs)). All-cons P x.now (lent xs) (all_first Q x xs all) (more.0 (all_rest Q x xs all)),
      λ (all : All P (x.now ∷ lent xs)). All-cons Q x xs (all_first P x.now (lent xs) all) (more.1 (all_rest P x.now (lent xs) all)),
    )

any_step : {E : Type 0} (P Q : E → Type 0) (x : E) (xs ys : List E) (b : Bool) → (Q x ↔ ((b ≡ true) × P x)) → (Any P ys ↔ Any Q xs) → Any P (cond b (x ∷ ys) ys) ↔ Any Q (x ∷ xs)
any_step P Q x xs ys true same more = (
  λ any. elim (any_split P x ys any) [ inl here ↦ any_here Q x xs (same.1 (refl, here)) | inr rest ↦ any_more Q x xs (more.0 rest) ],
  λ any. elim (any_split Q x xs any) [ inl here ↦ any_here P x ys (same.0 here).1 | inr rest ↦ any_more P x ys (more.1 rest) ],
)
any_step P Q x xs ys false same more = (
  λ any. any_more Q x xs (more.0 any),
  λ any. elim (any_split Q x xs any) [ inl here ↦ absurd (false≢true (same.0 here).0) | inr rest ↦ more.1 rest ],
)

any_filtered : {E : Type 0} (P Q : E → Type 0) (test : E → Bool) (xs : List E) → ((x : E) → Q x ↔ ((test x ≡ true) × P x)) → Any P (filter test xs) ↔ Any Q xs
any_filtered P Q test [] same = (λ any. absurd (any_none P any), λ any. absurd (any_none Q any))
any_filtered P Q test (x ∷ xs) same = any_step P Q x xs (filter test xs) (test x) (same x) (any_filtered P Q test xs same)

all_step : {E : Type 0} (P Q : E → Type 0) (x : E) (xs ys : List E) (b : Bool) → (Q x ↔ (b ≡ true → P x)) → (All P ys ↔ All Q xs) → All P (cond b (x ∷ ys) ys) ↔ All Q (x ∷ xs)
all_step P Q x xs ys true same more = (
  λ (all : All P (x ∷ ys)). All-cons Q x xs (same.1 (λ t. all_first P x ys all)) (more.0 (all_rest P x ys all)),
  λ (all : All Q (x ∷ xs)). All-cons P x ys (same.0 (all_first Q x xs all) refl) (more.1 (all_rest Q x xs all)),
)
all_step P Q x xs ys false same more = (
  λ (all : All P ys). All-cons Q x xs (same.1 (λ t. absurd (false≢true t))) (more.0 all),
  λ (all : All Q (x ∷ xs)). more.1 (all_rest Q x xs all),
)

all_filtered : {E : Type 0} (P Q : E → Type 0) (test : E → Bool) (xs : List E) → ((x : E) → Q x ↔ (test x ≡ true → P x)) → All P (filter test xs) ↔ All Q xs
all_filtered P Q test [] same = (λ all. All-nil Q, λ all. All-nil P)
all_filtered P Q test (x ∷ xs) same = all_step P Q x xs (filter test xs) (test x) (same x) (all_filtered P Q test xs same)

has_lent : {E : Type 0} (P : E → Type 0) (o : Option (Bor (Vec (Bor E)))) → HasLent P o ↔ Any P (lent_in o)
has_lent P None = (λ h. absurd h, λ any. absurd (any_none P any))
has_lent P (Some v) = any_lent P v.now.items

each_lent : {E : Type 0} (P : E → Type 0) (o : Option (Bor (Vec (Bor E)))) → EachLent P o ↔ All P (lent_in o)
each_lent P None = (λ h. All-nil P, λ all. tt)
each_lent P (Some v) = all_lent P v.now.items

-- what one of the entries listed at a name is, one of all entries is
pub any_found : {E : Type 0} (P Q : E → Type 0) (name : E → Name) (entries : List E) (m : Listed E) (o : Option (Bor (Vec (Bor E)))) (a b c : List ℕ) → IsListing name entries m → lent_in o ≡ listed_at m a b c → ((x : E) → Q x ↔ ((of_name name a b c x ≡ true) × P x)) → HasLent P o ↔ Any Q entries
any_found {E} P Q name entries m o a b c listing is same =
    let all = any_filtered P Q (of_name name a b c) entries same in
    let here = subst (λ (l : List E). HasLent P o ↔ Any P l) (is ∙ listing a b c) (has_lent P o) in
    (λ h. all.0 (here.0 h), λ any. here.1 (all.1 any))

-- what each of the entries listed at a name is, each of that name is among all
pub all_found : {E : Type 0} (P Q : E → Type 0) (name : E → Name) (entries : List E) (m : Listed E) (o : Option (Bor (Vec (Bor E)))) (a b c : List ℕ) → IsListing name entries m → lent_in o ≡ listed_at m a b c → ((x : E) → Q x ↔ (of_name name a b c x ≡ true → P x)) → EachLent P o ↔ All Q entries
all_found {E} P Q name entries m o a b c listing is same =
    let all = all_filtered P Q (of_name name a b c) entries same in
    let here = subst (λ (l : List E). EachLent P o ↔ All P l) (is ∙ listing a b c) (each_lent P o) in
    (λ h. all.0 (here.0 h), λ every. here.1 (all.1 every))

all_kept : {E : Type 0} (xs : List E) → filter (λ x. true) xs ≡ xs
all_kept [] = refl
all_kept (x ∷ xs) = ap (λ l. x ∷ l) (all_kept xs)

-- where each entry is kept all are listed
pub all_listed : {E : Type 0} (named : E → Name) (xs : List E) (m : Listed E) → IsListing named (filter (λ x. true) xs) m → IsListing named xs m
all_listed named xs m listing a b c = listing a b c ∙ ap (λ l. filter (of_name named a b c) l) (all_kept xs)
