-- Lists of changes that say the same of each version.
use Rattle.std.proofs.Common.{◌≡◌, ◌&&◌, not, ℕ, Bool, true, List, Contains, sym, ◌∙◌, ap, subst}
use Rattle.std.specs.List.{list_any}
use Rattle.std.proofs.lemmas.Bool.{and_parts}
use Rattle.std.proofs.lemmas.List.Folds.{Any-from_list_any}
use Rattle.lifecycle.specs.Entry.{GroupVersionResource, subject}
use Rattle.lifecycle.specs.Tables.{is_of, is_introduction, is_removal, first_change, has_change, live, decodable, warning}
use Rattle.lifecycle.specs.Same.{introduced_as, AreSameVersions}
use Rattle.lifecycle.specs.declared.entry.ApiEntry.{ApiEntry}
use Rattle.lifecycle.proofs.TableLemmas.{is_some-find, subject_is}

-- a live version has an entry
pub live_is_spoken_of : (tables : List ApiEntry) (name : GroupVersionResource) → live tables name ≡ true → (x : ApiEntry) × Contains tables x × (subject x ≡ name)
live_is_spoken_of tables name there =
    let introduced : has_change is_introduction tables name ≡ true = (and_parts (has_change is_introduction tables name) (not (has_change is_removal tables name)) there).0 in
    let h = Any-from_list_any (λ x. is_of name x && is_introduction x.change) tables (sym (is_some-find (λ x. is_of name x && is_introduction x.change) tables) ∙ introduced) in
    (h.1, (h.0, h.2, h.3), subject_is name h.1 (and_parts (is_of name h.1) (is_introduction h.1.change) h.4).0)

pub same_versions_back : (xs ys : List ApiEntry) → AreSameVersions xs ys → AreSameVersions ys xs
same_versions_back xs ys h = record {
  live = λ name. sym (h.live name);
  decodable = λ name. sym (h.decodable name);
  warning = λ name. sym (h.warning name);
  live_as = λ name there. sym (h.live_as name (h.live name ∙ there));
  decodable_as = λ name there. sym (h.decodable_as name (h.decodable name ∙ there));
}
