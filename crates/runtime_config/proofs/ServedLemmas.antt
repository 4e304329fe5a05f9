-- The versions that a text leaves served.
use Rattle.std.proofs.Common.{◌≡◌, ◌↔◌, ◌&&◌, ℕ, Bool, true, List, [], ◌∷◌, ◌++◌, Option, Some, None, Any, IsTrue, refl, sym, ◌∙◌, ap, subst, find}
use Rattle.std.specs.Prelude.{nat_le}
use Rattle.std.specs.List.Sorted.{IsStrictlySortedBy}
use Rattle.std.specs.Option.{option_map, option_and_then}
use Rattle.std.specs.Str.{bytes_eq}
use Rattle.std.specs.BTreeSet.{insert_key}
use Rattle.std.proofs.lemmas.Bool.{and_parts}
use Rattle.basis.proofs.ElementLemmas.{keys_of-push, keys_of-same, Any-weaker}
use Rattle.flag_text.specs.Pieces.{FlagPiece, last_pieces}
use Rattle.flag_text.specs.Said.{said, last_said, HasSaid, said_in}
use Rattle.flag_text.specs.declared.vocabulary.Vocabulary.TheVariants.{Plain}
use Rattle.lifecycle.specs.Entry.{GroupVersionResource, subject}
use Rattle.lifecycle.specs.Tables.{cutoff, is_of, is_introduction, has_change, live}
use Rattle.lifecycle.specs.declared.entry.ApiEntry.{ApiEntry}
use Rattle.lifecycle.specs.declared.version.VersionWord.{VersionWord}
use Rattle.lifecycle.proofs.TableLemmas.{subject_is, has_change-cutoff}
use Rattle.lifecycle.proofs.WordLemmas.{word_text_injective}
use Rattle.std.proofs.lemmas.List.Folds.{Any-from_list_any}
use Rattle.runtime_config.specs.Keys.{all_key, level_key, version_key, resource_key}
use Rattle.runtime_config.specs.Config.{HasWord, level_said, switched, enabled_by_default, IsServed, AreServed}
use Rattle.runtime_config.specs.Served.{by_name}
use Rattle.runtime_config.specs.Serving.{Booleans, level_in, switched_in, IsSwitched, IsOnIn, AreNamesOn}
use Rattle.runtime_config.proofs.NameLemmas.{exact_names}

-- a text is of at most one version word
pub one_word : (text : List ℕ) (v w : Option VersionWord) → HasWord text v → HasWord text w → v ≡ w
one_word text None None h k = refl
one_word text None (Some w) h k = absurd (h (w, k.0, k.1))
one_word text (Some v) None h k = absurd (k (v, h.0, h.1))
one_word text (Some v) (Some w) h k = ap Some (word_text_injective v w h.0 k.0 (sym h.1 ∙ k.1))

-- the version is on exactly where it was found switched on
pub on_where : (tables : List ApiEntry) (m : Booleans) (name : GroupVersionResource) (text resource version : List ℕ) (enabled on : Bool) → text ≡ name.version → resource ≡ resource_key name → version ≡ version_key name → enabled ≡ enabled_by_default tables name
    → live tables name ≡ true → IsSwitched m text resource version enabled on → (IsTrue on → IsOnIn tables m name) × (IsOnIn tables m name → IsTrue on)
on_where tables m name text resource version enabled on p q r s there switched =
    let w : Option VersionWord = switched.0 in
    let has : HasWord name.version w = subst (λ (t : List ℕ). HasWord t w) p switched.1 in
    let is : on ≡ switched_in m (resource_key name) (version_key name) w (enabled_by_default tables name) =
    switched.2 ∙ ap (λ (k : List ℕ). switched_in m k version w enabled) q ∙ ap (λ (k : List ℕ). switched_in m (resource_key name) k w enabled) r ∙ ap (λ (b : Bool). switched_in m (resource_key name) (version_key name) w b) s in (
      (λ yes'. record { live = there; word = w; has_word = has; on = sym is ∙ yes' }),
      (λ h. is ∙ ap (λ (v : Option VersionWord). switched_in m (resource_key name) (version_key name) v (enabled_by_default tables name)) (one_word name.version w h.word has h.has_word) ∙ h.on),
    )

abbrev Gives : List ApiEntry → Booleans → ApiEntry → GroupVersionResource → Type 0
Gives tables m x name = (subject x ≡ name) × IsOnIn tables m name

pub names_more : (tables : List ApiEntry) (m : Booleans) (first : List ApiEntry) (ks : List GroupVersionResource) (x : ApiEntry) → IsOnIn tables m (subject x) → AreNamesOn tables m first ks → IsStrictlySortedBy by_name (insert_key by_name ks (subject x))
    → AreNamesOn tables m (first ++ x ∷ []) (insert_key by_name ks (subject x))
names_more tables m first ks x on h up = record {
  order = up;
  exact = λ name. keys_of-push by_name exact_names (Gives tables m) first ks x (subject x) name (h.exact name) ((λ g. g.0), (λ same. (same, subst (IsOnIn tables m) same on)));
}

pub names_same : (tables : List ApiEntry) (m : Booleans) (first : List ApiEntry) (ks : List GroupVersionResource) (x : ApiEntry) → (IsOnIn tables m (subject x) → ⊥) → AreNamesOn tables m first ks → AreNamesOn tables m (first ++ x ∷ []) ks
names_same tables m first ks x off h = record {
  order = h.order;
  exact = λ name. keys_of-same (Gives tables m) first ks x name (h.exact name) (λ g. off (subst (IsOnIn tables m) (sym g.0) g.1));
}

given_in : (words-said : Option FlagPiece) → option_and_then (λ b. b) (option_map (said Plain) words-said) ≡ option_and_then (said Plain) words-said
given_in None = refl
given_in (Some p) = refl

-- what the map has under a key is what the text says of it
pub said_is : (ps : List FlagPiece) (m : Booleans) (key : List ℕ) → HasSaid Plain ps m → said_in m key ≡ last_said Plain ps key
said_is ps m key has = ap (option_and_then (λ b. b)) (has key) ∙ given_in (find (λ p. bytes_eq p.name key) (last_pieces ps))

level_is : (ps : List FlagPiece) (m : Booleans) (w : Option VersionWord) → HasSaid Plain ps m → level_in m w ≡ level_said ps w
level_is ps m None has = refl
level_is ps m (Some w) has = said_is ps m (level_key w.level) has

switched_is : (ps : List FlagPiece) (m : Booleans) (name : GroupVersionResource) (w : Option VersionWord) (enabled : Bool) → HasSaid Plain ps m → switched_in m (resource_key name) (version_key name) w enabled ≡ switched ps name w enabled
switched_is ps m name w enabled has = rw (said_is ps m (resource_key name) has, said_is ps m (version_key name) has, level_is ps m w has, said_is ps m all_key has) refl

pub served_where : (tables : List ApiEntry) (ps : List FlagPiece) (m : Booleans) (name : GroupVersionResource) → HasSaid Plain ps m → IsOnIn tables m name ↔ IsServed tables ps name
served_where tables ps m name has = (
  λ h. record { live = h.live; word = h.word; has_word = h.has_word; on = sym (switched_is ps m name h.word (enabled_by_default tables name) has) ∙ h.on },
  λ h. record { live = h.live; word = h.word; has_word = h.has_word; on = switched_is ps m name h.word (enabled_by_default tables name) has ∙ h.on },
)

-- a live version is that of some entry of the history
live_has_entry : (entries : List ApiEntry) (e : ℕ) (name : GroupVersionResource) → live (cutoff entries e) name ≡ true → Any (λ x. subject x ≡ name) entries
live_has_entry entries e name h =
    let introduced : has_change is_introduction (cutoff entries e) name ≡ true = (and_parts (has_change is_introduction (cutoff entries e) name) _ h).0 in
    Any-weaker (λ x. (nat_le x.since e && (is_of name x && is_introduction x.change)) ≡ true) (λ x. subject x ≡ name) entries
    (λ x both. subject_is name x (and_parts (is_of name x) (is_introduction x.change) (and_parts (nat_le x.since e) (is_of name x && is_introduction x.change) both).1).0)
    (Any-from_list_any (λ x. nat_le x.since e && (is_of name x && is_introduction x.change)) entries (sym (has_change-cutoff is_introduction entries e name) ∙ introduced))

pub served_are : (entries : List ApiEntry) (e : ℕ) (ps : List FlagPiece) (m : Booleans) (names : List GroupVersionResource) → HasSaid Plain ps m → AreNamesOn (cutoff entries e) m entries names → AreServed (cutoff entries e) ps names
served_are entries e ps m names has h = record {
  order = h.order;
  exact = λ name. (
    λ c. let some = (h.exact name).0 c in (served_where (cutoff entries e) ps m name has).0 some.4.1,
    λ s.
        let on = (served_where (cutoff entries e) ps m name has).1 s in
        (h.exact name).1 (Any-weaker (λ x. subject x ≡ name) (λ x. (subject x ≡ name) × IsOnIn (cutoff entries e) m name) entries (λ x same. (same, on)) (live_has_entry entries e name s.live)),
  );
}
