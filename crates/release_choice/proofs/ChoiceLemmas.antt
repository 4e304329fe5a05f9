-- A text names one release, so an option gives one release to emulate or one reason to refuse it.
use Rattle.std.proofs.Common.{◌≡◌, ◌≤◌, inl, inr, ℕ, true, false, List, [], ◌∷◌, ◌++◌, Option, Some, None, refl, sym, ◌∙◌, ap, subst, eqb, arith}
use Rattle.std.specs.Prelude.{codes, decimal}
use Rattle.std.proofs.lemmas.Bool.{eq-eqb}
use Rattle.std.proofs.lemmas.Fmt.{decimal_injective}
use Rattle.std.proofs.lemmas.List.{append_cancel_left}
use Rattle.minor_version.specs.Release.{release_text, NamesRelease}
use Rattle.minor_version.specs.Ranges.{IsEmulable}
use Rattle.release_choice.specs.Choice.{IsEmulated, IsRefusedVersion}
use Rattle.release_choice.specs.declared.fault.VersionFault.{VersionFault}
use Rattle.release_choice.specs.declared.fault.VersionFault.TheVariants.{NotAVersion, OutOfRange}

-- ---- texts of releases

abbrev first_byte : List ℕ → ℕ
first_byte [] = 0
first_byte (c ∷ cs) = c

apart : (a b : ℕ) → eqb a b ≡ false → a ≡ b → ⊥
apart a b differ same = let both : true ≡ false = sym (eq-eqb a b same) ∙ differ in cc

-- texts with two first bytes are two
begin_apart : (text one other : List ℕ) → eqb (first_byte one) (first_byte other) ≡ false → text ≡ one → text ≡ other → ⊥
begin_apart text one other differ h k = apart (first_byte one) (first_byte other) differ (ap first_byte (sym h ∙ k))

one_plain : (k j : ℕ) → k ≤ 999 → j ≤ 999 → release_text k ≡ release_text j → k ≡ j
one_plain k j few least same = decimal_injective k j (omega arith) (omega arith) (append_cancel_left (codes "1.") (decimal k) (decimal j) same)

pub one_release : (text : List ℕ) (k j : ℕ) → k ≤ 999 → j ≤ 999 → NamesRelease text k → NamesRelease text j → k ≡ j
one_release text k j a b (inl h) (inl g) = one_plain k j a b (sym h ∙ g)
one_release text k j a b (inr (inl h)) (inr (inl g)) = one_plain k j a b (append_cancel_left (codes "v") (release_text k) (release_text j) (sym h ∙ g))
one_release text k j a b (inr (inr h)) (inr (inr g)) = one_plain k j a b (append_cancel_left (codes "kube=") (release_text k) (release_text j) (sym h ∙ g))
one_release text k j a b (inl h) (inr (inl g)) = absurd (begin_apart text (release_text k) (codes "v" ++ release_text j) refl h g)
one_release text k j a b (inl h) (inr (inr g)) = absurd (begin_apart text (release_text k) (codes "kube=" ++ release_text j) refl h g)
one_release text k j a b (inr (inl h)) (inl g) = absurd (begin_apart text (codes "v" ++ release_text k) (release_text j) refl h g)
one_release text k j a b (inr (inl h)) (inr (inr g)) = absurd (begin_apart text (codes "v" ++ release_text k) (codes "kube=" ++ release_text j) refl h g)
one_release text k j a b (inr (inr h)) (inl g) = absurd (begin_apart text (codes "kube=" ++ release_text k) (release_text j) refl h g)
one_release text k j a b (inr (inr h)) (inr (inl g)) = absurd (begin_apart text (codes "kube=" ++ release_text k) (codes "v" ++ release_text j) refl h g)

-- ---- the release to emulate

module _ (first last : ℕ) (few : last ≤ 999) where
  within : (e : ℕ) → IsEmulable first last e → e ≤ 999
  within e is = let upper : e ≤ last = is.1 in omega arith

  pub one_emulated : (o : Option (List ℕ)) (e f : ℕ) → IsEmulated first last o e → IsEmulated first last o f → e ≡ f
  one_emulated None e f h k = h ∙ sym k
  one_emulated (Some text) e f h k = one_release text e f (within e h.1) (within f k.1) h.0 k.0

  pub one_refusal : (o : Option (List ℕ)) (f g : VersionFault) → IsRefusedVersion first last o f → IsRefusedVersion first last o g → f ≡ g
  one_refusal None f g h k = absurd h
  one_refusal (Some text) NotAVersion NotAVersion h k = refl
  one_refusal (Some text) NotAVersion OutOfRange h k = absurd (h k.0 k.1 k.2)
  one_refusal (Some text) OutOfRange NotAVersion h k = absurd (k h.0 h.1 h.2)
  one_refusal (Some text) OutOfRange OutOfRange h k = refl

  pub refused_or_emulated : (o : Option (List ℕ)) (f : VersionFault) (e : ℕ) → IsRefusedVersion first last o f → IsEmulated first last o e → ⊥
  refused_or_emulated None f e h k = h
  refused_or_emulated (Some text) NotAVersion e h k = h e (within e k.1) k.0
  refused_or_emulated (Some text) OutOfRange e h k =
      h.3 (subst (λ r. IsEmulable first last r) (one_release text e h.0 (within e k.1) h.1 k.0 h.2) k.1)
