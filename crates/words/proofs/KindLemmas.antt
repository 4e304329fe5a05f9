-- What holds of a command with a given name holds by its row alone.
use Rattle.std.proofs.Common.{◌≡◌, ℕ, Bool, true, false, List, Option, cond, refl, sym, subst, ◌∙◌, ap, codes}
use Rattle.std.specs.Prelude.{⊤}
use Rattle.std.specs.Str.{bytes_eq}
use Rattle.words.specs.Settings.{Setting}
use Rattle.words.specs.Table.{Fits, Give, row_of}
use Rattle.words.specs.declared.command.Command.{Command}
use Rattle.words.specs.declared.command.Command.TheVariants.{Discover, Gates, Check, Fold, Cut, Convert, Twin, Serve, Replay}
use Rattle.words.specs.declared.command.FlagTexts.{FlagTexts}

-- which row a command is of
pub data Kind : Type 0 where
  discover : Kind
  gates : Kind
  check : Kind
  fold : Kind
  cut : Kind
  convert : Kind
  twin : Kind
  serve : Kind
  replay : Kind
  no_row : Kind

abbrev pub kind : Command → Kind
kind (Discover e r) = discover
kind (Gates e f) = gates
kind Check = check
kind Fold = fold
kind (Cut at) = cut
kind (Convert e o t) = convert
kind (Twin f s n) = twin
kind (Serve f s p n) = serve
kind (Replay f s t) = replay

-- the row that a name is of
abbrev pub kind_named : List ℕ → Kind
kind_named name =
    cond (bytes_eq name (codes "discover")) discover
    (cond (bytes_eq name (codes "gates")) gates
    (cond (bytes_eq name (codes "check")) check
    (cond (bytes_eq name (codes "fold")) fold
    (cond (bytes_eq name (codes "cut")) cut
    (cond (bytes_eq name (codes "convert")) convert
    (cond (bytes_eq name (codes "twin")) twin
    (cond (bytes_eq name (codes "serve")) serve
    (cond (bytes_eq name (codes "replay")) replay no_row))))))))

pub named_so : (c : Command) → kind_named (row_of c).name ≡ kind c
named_so (Discover e r) = refl
named_so (Gates e f) = refl
named_so Check = refl
named_so Fold = refl
named_so (Cut at) = refl
named_so (Convert e o t) = refl
named_so (Twin f s n) = refl
named_so (Serve f s p n) = refl
named_so (Replay f s t) = refl

-- what is to be shown of the commands of a row
abbrev pub OfKind : (Command → Type 0) → Kind → Type 0
OfKind P discover = (e r : Option (List ℕ)) → P (Discover e r)
OfKind P gates = (e f : Option (List ℕ)) → P (Gates e f)
OfKind P check = P Check
OfKind P fold = P Fold
OfKind P cut = (at : List ℕ) → P (Cut at)
OfKind P convert = (e : Option (List ℕ)) (o t : List ℕ) → P (Convert e o t)
OfKind P twin = (f : FlagTexts) (s n : ℕ) → P (Twin f s n)
OfKind P serve = (f : FlagTexts) (s : List ℕ) (p n : ℕ) → P (Serve f s p n)
OfKind P replay = (f : FlagTexts) (s t : List ℕ) → P (Replay f s t)
OfKind P no_row = ⊤

of_kind : (P : Command → Type 0) (c : Command) → OfKind P (kind c) → P c
of_kind P (Discover e r) h = h e r
of_kind P (Gates e f) h = h e f
of_kind P Check h = h
of_kind P Fold h = h
of_kind P (Cut at) h = h at
of_kind P (Convert e o t) h = h e o t
of_kind P (Twin f s n) h = h f s n
of_kind P (Serve f s p n) h = h f s p n
of_kind P (Replay f s t) h = h f s t

-- and so of each command with this name
pub of_name : (P : Command → Type 0) (name : List ℕ) (c : Command) → (row_of c).name ≡ name → OfKind P (kind_named name) → P c
of_name P name c named h = of_kind P c (subst (OfKind P) (sym (ap kind_named named) ∙ named_so c) h)

pub none_fits : (name : List ℕ) (settings : List Setting) (c : Command) → OfKind (λ d. ¬ Give settings (row_of d).options) (kind_named name) → ¬ Fits name settings c
none_fits name settings c h fits = of_name (λ d. ¬ Give settings (row_of d).options) name c fits.named h fits.give

pub not_both : (b : Bool) → b ≡ false → b ≡ true → ⊥
not_both b h k = cc
