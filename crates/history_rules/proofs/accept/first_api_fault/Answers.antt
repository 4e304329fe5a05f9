use Rattle.std.proofs.Common.{ℕ, ◌≡◌, List, refl, sym, subst, inl, inr}
use Rattle.schemas.specs.Dated.{Dated}
use Rattle.lifecycle.specs.declared.entry.ApiEntry.{ApiEntry}
use Rattle.schemas.specs.Places.{Each, Breaks, IsLeast}
use Rattle.schemas.specs.ApiRules.{StandsInOrder, NamesItsKind, DeprecatesFairly, KeepsPlan, ForgetsLate}
use Rattle.schemas.specs.Rules.{last_of, api_checks, FindsFault}
use Rattle.schemas.proofs.PlaceLemmas.{unbroken}
use Rattle.history_rules.proofs.accept.first_api_fault.Goals as goal

-- what is known of the entries that were lent is known of those of the history
moved : (h : Dated) (l : ℕ) (a : List ApiEntry) (P : ℕ → List ApiEntry → Type 0) → last_of h ≡ l → h.apis ≡ a → P l a → P (last_of h) h.apis
moved h l a P p q known = subst (λ (x : ℕ). P x h.apis) (sym p) (subst (λ (x : List ApiEntry). P l x) (sym q) known)

pub returns-in-Some : goal.returns-in-Some
returns-in-Some c = λ (h : Dated) (last : last_of h ≡ c.args.last) (same : h.apis ≡ c.args.apis.now).
    subst (FindsFault h api_checks) (sym c.broken.ensures) (inl (refl, refl, moved h c.args.last c.args.apis.now (λ (l : ℕ) (a : List ApiEntry). IsLeast (Breaks StandsInOrder a) c.in-Some.index) last same c.in-Some.ensures))

pub returns-in-Ok-Some : goal.returns-in-Ok-Some
returns-in-Ok-Some c = λ (h : Dated) (last : last_of h ≡ c.args.last) (same : h.apis ≡ c.args.apis.now).
    subst (FindsFault h api_checks) (sym c.broken-in-Ok-Some.ensures) (inr (unbroken StandsInOrder h.apis (moved h c.args.last c.args.apis.now (λ (l : ℕ) (a : List ApiEntry). Each StandsInOrder a) last same c.in_default.ensures), inl (refl, refl, moved h c.args.last c.args.apis.now (λ (l : ℕ) (a : List ApiEntry). IsLeast (Breaks NamesItsKind a) c.in-Ok-Some.index) last same (rw c.in-Ok-Some.field-0-is at c.in-Ok-Some.ensures))))

pub returns-in-Some-first_unfair_deprecation : goal.returns-in-Some-first_unfair_deprecation
returns-in-Some-first_unfair_deprecation c = λ (h : Dated) (last : last_of h ≡ c.args.last) (same : h.apis ≡ c.args.apis.now).
    subst (FindsFault h api_checks) (sym c.broken-in-Some-first_unfair_deprecation.ensures) (inr (unbroken StandsInOrder h.apis (moved h c.args.last c.args.apis.now (λ (l : ℕ) (a : List ApiEntry). Each StandsInOrder a) last same c.in_default.ensures), inr (unbroken NamesItsKind h.apis (moved h c.args.last c.args.apis.now (λ (l : ℕ) (a : List ApiEntry). Each NamesItsKind a) last same (rw c.in-Ok-None.field-0-is at c.in-Ok-None.ensures)), inl (refl, refl, moved h c.args.last c.args.apis.now (λ (l : ℕ) (a : List ApiEntry). IsLeast (Breaks (DeprecatesFairly a) a) c.in-Some-first_unfair_deprecation.index) last same (subst (λ (d : List ApiEntry). IsLeast (Breaks (DeprecatesFairly d) c.args.apis.now) c.in-Some-first_unfair_deprecation.index) c.in_ok-all.ensures c.in-Some-first_unfair_deprecation.ensures)))))

pub returns-in-Some-first_unplanned : goal.returns-in-Some-first_unplanned
returns-in-Some-first_unplanned c = λ (h : Dated) (last : last_of h ≡ c.args.last) (same : h.apis ≡ c.args.apis.now).
    subst (FindsFault h api_checks) (sym c.broken-in-Some-first_unplanned.ensures) (inr (unbroken StandsInOrder h.apis (moved h c.args.last c.args.apis.now (λ (l : ℕ) (a : List ApiEntry). Each StandsInOrder a) last same c.in_default.ensures), inr (unbroken NamesItsKind h.apis (moved h c.args.last c.args.apis.now (λ (l : ℕ) (a : List ApiEntry). Each NamesItsKind a) last same (rw c.in-Ok-None.field-0-is at c.in-Ok-None.ensures)), inr (unbroken (DeprecatesFairly h.apis) h.apis (moved h c.args.last c.args.apis.now (λ (l : ℕ) (a : List ApiEntry). Each (DeprecatesFairly a) a) last same (subst (λ (d : List ApiEntry). Each (DeprecatesFairly d) c.args.apis.now) c.in_ok-all.ensures c.in_default-first_unfair_deprecation.ensures)), inl (refl, refl, moved h c.args.last c.args.apis.now (λ (l : ℕ) (a : List ApiEntry). IsLeast (Breaks (KeepsPlan a l) a) c.in-Some-first_unplanned.index) last same (subst (λ (d : List ApiEntry). IsLeast (Breaks (KeepsPlan d c.args.last) c.args.apis.now) c.in-Some-first_unplanned.index) c.in_ok-all.ensures c.in-Some-first_unplanned.ensures))))))

pub returns-in-Some-first_early_forgetting : goal.returns-in-Some-first_early_forgetting
returns-in-Some-first_early_forgetting c = λ (h : Dated) (last : last_of h ≡ c.args.last) (same : h.apis ≡ c.args.apis.now).
    subst (FindsFault h api_checks) (sym c.broken-in-Some-first_early_forgetting.ensures) (inr (unbroken StandsInOrder h.apis (moved h c.args.last c.args.apis.now (λ (l : ℕ) (a : List ApiEntry). Each StandsInOrder a) last same c.in_default.ensures), inr (unbroken NamesItsKind h.apis (moved h c.args.last c.args.apis.now (λ (l : ℕ) (a : List ApiEntry). Each NamesItsKind a) last same (rw c.in-Ok-None.field-0-is at c.in-Ok-None.ensures)), inr (unbroken (DeprecatesFairly h.apis) h.apis (moved h c.args.last c.args.apis.now (λ (l : ℕ) (a : List ApiEntry). Each (DeprecatesFairly a) a) last same (subst (λ (d : List ApiEntry). Each (DeprecatesFairly d) c.args.apis.now) c.in_ok-all.ensures c.in_default-first_unfair_deprecation.ensures)), inr (unbroken (KeepsPlan h.apis (last_of h)) h.apis (moved h c.args.last c.args.apis.now (λ (l : ℕ) (a : List ApiEntry). Each (KeepsPlan a l) a) last same (subst (λ (d : List ApiEntry). Each (KeepsPlan d c.args.last) c.args.apis.now) c.in_ok-all.ensures c.in_default-first_unplanned.ensures)), inl (refl, refl, moved h c.args.last c.args.apis.now (λ (l : ℕ) (a : List ApiEntry). IsLeast (Breaks (ForgetsLate a) a) c.in-Some-first_early_forgetting.index) last same (subst (λ (d : List ApiEntry). IsLeast (Breaks (ForgetsLate d) c.args.apis.now) c.in-Some-first_early_forgetting.index) c.in_ok-all.ensures c.in-Some-first_early_forgetting.ensures)))))))

pub returns : goal.returns
returns c = λ (h : Dated) (last : last_of h ≡ c.args.last) (same : h.apis ≡ c.args.apis.now). (unbroken StandsInOrder h.apis (moved h c.args.last c.args.apis.now (λ (l : ℕ) (a : List ApiEntry). Each StandsInOrder a) last same c.in_default.ensures), (unbroken NamesItsKind h.apis (moved h c.args.last c.args.apis.now (λ (l : ℕ) (a : List ApiEntry). Each NamesItsKind a) last same (rw c.in-Ok-None.field-0-is at c.in-Ok-None.ensures)), (unbroken (DeprecatesFairly h.apis) h.apis (moved h c.args.last c.args.apis.now (λ (l : ℕ) (a : List ApiEntry). Each (DeprecatesFairly a) a) last same (subst (λ (d : List ApiEntry). Each (DeprecatesFairly d) c.args.apis.now) c.in_ok-all.ensures c.in_default-first_unfair_deprecation.ensures)), (unbroken (KeepsPlan h.apis (last_of h)) h.apis (moved h c.args.last c.args.apis.now (λ (l : ℕ) (a : List ApiEntry). Each (KeepsPlan a l) a) last same (subst (λ (d : List ApiEntry). Each (KeepsPlan d c.args.last) c.args.apis.now) c.in_ok-all.ensures c.in_default-first_unplanned.ensures)), (unbroken (ForgetsLate h.apis) h.apis (moved h c.args.last c.args.apis.now (λ (l : ℕ) (a : List ApiEntry). Each (ForgetsLate a) a) last same (subst (λ (d : List ApiEntry). Each (ForgetsLate d) c.args.apis.now) c.in_ok-all.ensures c.in_default-first_early_forgetting.ensures)), tt)))))
