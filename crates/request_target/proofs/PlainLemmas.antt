-- Warnings have no line breaks, where names have none.
use Rattle.std.proofs.Common.{◌≡◌, ℕ, ◌≤◌, ◌==◌, not, ◌&&◌, Bool, true, false, List, [], ◌∷◌, ◌++◌, codes, decimal, All, Option, Some, None, refl, sym, ◌∙◌, ap, subst, arith}
use Rattle.std.specs.Prelude.{◌≢◌, IfSome, option_and_then, option_map}
use Rattle.std.specs.Char.{is_ascii_digit}
use Rattle.std.specs.List.{AllByRecursion, list_all}
use Rattle.std.specs.Str.{all_ascii_digits}
use Rattle.std.proofs.lemmas.Bool.{and_parts, false≢true}
use Rattle.std.proofs.lemmas.List.Elements.{recursion_from_All, All-from_recursion, All-contains}
use Rattle.http_front.specs.Replies.{IsPlain}
use Rattle.lifecycle.proofs.DigitLemmas.{all_ascii_digits-decimal}
use Rattle.lifecycle.specs.Names.{group_version}
use Rattle.lifecycle.specs.Tables.{Deprecation}
use Rattle.minor_version.specs.Release.{release_text}
use Rattle.release_view.specs.Known.{deprecation}
use Rattle.release_view.specs.Served.{shown_name}
use Rattle.release_view.specs.Views.{Viewed, version_in}
use Rattle.release_view.specs.declared.known.KnownVersion.{KnownVersion}
use Rattle.release_view.specs.declared.known.Planned.{Planned}
use Rattle.release_view.specs.declared.served.ServedVersion.{ServedVersion}
use Rattle.release_view.proofs.LookupLemmas.{there_version}
use Rattle.request_target.specs.Plain.{HasPlainNames, IsPlainPlan, WarnsPlainly}
use Rattle.request_target.specs.Targets.{Resource, releases, gates, groups, group, resources, everywhere, inside, object}
use Rattle.request_target.specs.Told.{IsResourceIn}
use Rattle.request_target.specs.Warnings.{deprecated_text, instead_text, warning, warning_line}

abbrev Plain : ℕ → Type 0
Plain c = (c ≢ 10) × (c ≢ 13)

abbrev PlainText : List ℕ → Type 0
PlainText text = AllByRecursion Plain text

-- ---- texts

byte_plain : (p : ℕ → Bool) → p 10 ≡ false → p 13 ≡ false → (c : ℕ) → p c ≡ true → Plain c
byte_plain p ten thirteen c h = (
  λ e. false≢true (sym ten ∙ ap p (sym e) ∙ h),
  λ e. false≢true (sym thirteen ∙ ap p (sym e) ∙ h),
)

abbrev is_plain : ℕ → Bool
is_plain c = not (c == 10) && not (c == 13)

word : (text : List ℕ) → list_all is_plain text ≡ true → PlainText text
word [] h = tt
word (c ∷ cs) h =
    let (here, more) = and_parts (is_plain c) (list_all is_plain cs) h in
    (byte_plain is_plain refl refl c here, word cs more)

digits : (text : List ℕ) → all_ascii_digits text ≡ true → PlainText text
digits [] h = tt
digits (c ∷ cs) h =
    let (here, more) = and_parts (is_ascii_digit c) (all_ascii_digits cs) h in
    (byte_plain is_ascii_digit refl refl c here, digits cs more)

both : (a b : List ℕ) → PlainText a → PlainText b → PlainText (a ++ b)
both [] b p q = q
both (c ∷ cs) b p q = (p.0, both cs b p.1 q)

release : (k : ℕ) → k ≤ 999 → PlainText (release_text k)
release k small = both (codes "1.") (decimal k) (word (codes "1.") refl) (digits (decimal k) (all_ascii_digits-decimal k (omega arith)))

named : (g v : List ℕ) → PlainText g → PlainText v → PlainText (group_version g v)
named [] v p q = q
named (c ∷ cs) v p q = both ((c ∷ cs) ++ codes "/") v (both (c ∷ cs) (codes "/") p (word (codes "/") refl)) q

-- ---- a warning

front_plain : (v k n : List ℕ) → PlainText v → PlainText k → PlainText n → PlainText (deprecated_text v k n)
front_plain v k n p q r =
    let last : List ℕ = n ++ codes "+" in
    let told : List ℕ = codes " is deprecated in v" ++ last in
    let of_kind : List ℕ = k ++ told in
    let rest : List ℕ = codes " " ++ of_kind in
    both (codes "299 - \"") (v ++ rest) (word (codes "299 - \"") refl)
    (both v rest p
    (both (codes " ") of_kind (word (codes " ") refl)
    (both k told q
    (both (codes " is deprecated in v") last (word (codes " is deprecated in v") refl)
    (both n (codes "+") r (word (codes "+") refl))))))

back_plain : (n o k : List ℕ) → PlainText n → PlainText o → PlainText k → PlainText (instead_text n o k)
back_plain n o k p q r =
    let last : List ℕ = k ++ codes "\"" in
    let of_kind : List ℕ = codes " " ++ last in
    let use_it : List ℕ = o ++ of_kind in
    let rest : List ℕ = codes "+; use " ++ use_it in
    both (codes ", unavailable in v") (n ++ rest) (word (codes ", unavailable in v") refl)
    (both n rest p
    (both (codes "+; use ") use_it (word (codes "+; use ") refl)
    (both o of_kind q
    (both (codes " ") last (word (codes " ") refl)
    (both k (codes "\"") r (word (codes "\"") refl))))))

line_plain : (s : ServedVersion) (d : Deprecation) → PlainText s.group → PlainText s.version → PlainText s.kind → d.since ≤ 999 → d.removal ≤ 999 → PlainText d.replacement → PlainText (warning_line s d)
line_plain s d g v k since removal other =
    both (deprecated_text (group_version s.group s.version) s.kind (release_text d.since)) (instead_text (release_text d.removal) (group_version s.group d.replacement) s.kind)
    (front_plain (group_version s.group s.version) s.kind (release_text d.since) (named s.group s.version g v) k (release d.since since))
    (back_plain (release_text d.removal) (group_version s.group d.replacement) s.kind (release d.removal removal) (named s.group d.replacement g other) k)

module _ (versions : List KnownVersion) (plain : All HasPlainNames versions) (r : Resource) (told : IsResourceIn versions r) where
  own_names : HasPlainNames told.version
  own_names = All-contains HasPlainNames versions told.version plain told.among

  text_of : (of : ServedVersion → List ℕ) → IsPlain (of r.served) → PlainText (of r.served)
  text_of of h = recursion_from_All Plain (of r.served) h

  by_plan : (o : Option Planned) → IfSome o IsPlainPlan → IfSome (option_map (warning_line r.served) (option_map deprecation o)) IsPlain
  by_plan None h = tt
  by_plan (Some p) h =
      All-from_recursion Plain (warning_line r.served (deprecation p))
      (line_plain r.served (deprecation p)
      (text_of (λ s. s.group) (subst (λ (s : ServedVersion). IsPlain s.group) told.served own_names.group))
      (text_of (λ s. s.version) (subst (λ (s : ServedVersion). IsPlain s.version) told.served own_names.version))
      (text_of (λ s. s.kind) (subst (λ (s : ServedVersion). IsPlain s.kind) told.served own_names.kind))
      h.since h.removal (recursion_from_All Plain p.replacement h.replacement))

  by_version : (o : Option KnownVersion) → version_in versions (shown_name r.served) ≡ o → IfSome (option_map (warning_line r.served) (option_and_then (λ v. option_map deprecation v.warning) o)) IsPlain
  by_version None e = tt
  by_version (Some v) e = by_plan v.warning (All-contains HasPlainNames versions v plain (there_version versions (shown_name r.served) v e).0).plan

  warning_plain : IfSome (option_map (warning_line r.served) (option_and_then (λ v. option_map deprecation v.warning) (version_in versions (shown_name r.served)))) IsPlain
  warning_plain = by_version (version_in versions (shown_name r.served)) refl

pub warns_plainly : (view : Viewed) → All HasPlainNames view.versions → WarnsPlainly view
warns_plainly view plain releases told = tt
warns_plainly view plain gates told = tt
warns_plainly view plain groups told = tt
warns_plainly view plain (group name) told = tt
warns_plainly view plain (resources g v) told = tt
warns_plainly view plain (everywhere of) told = warning_plain view.versions plain of told
warns_plainly view plain (inside of namespace) told = warning_plain view.versions plain of told.0
warns_plainly view plain (object of namespace name) told = warning_plain view.versions plain of told.0
