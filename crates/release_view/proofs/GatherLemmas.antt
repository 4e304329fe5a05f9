-- One more entry, for the known versions of which entries speak.
use Rattle.std.proofs.Common.{◌≡◌, ◌↔◌, ◌⊎◌, inl, inr, ℕ, ◌≤◌, ◌<◌, true, false, List, [], ◌∷◌, ◌++◌, length, take, Contains, Equal, refl, sym, ◌∙◌, ap, subst, arith}
use Rattle.std.specs.BTreeSet.{insert_key}
use Rattle.std.proofs.lemmas.Bool.{both_ways}
use Rattle.std.proofs.lemmas.List.{take_all}
use Rattle.basis.proofs.ElementLemmas.{Any-from}
use Rattle.basis.proofs.ElementLemmas.{Any-push_iff}
use Rattle.lifecycle.specs.Entry.{GroupVersionResource, subject}
use Rattle.lifecycle.specs.Tables.{decodable}
use Rattle.lifecycle.specs.declared.entry.ApiEntry.{ApiEntry}
use Rattle.release_view.specs.Known.{Tables, name_of, IsKnown, AreInPlace, Has, by_place}
use Rattle.release_view.specs.Parts.{IsGathered, Speaks}
use Rattle.release_view.specs.declared.known.KnownVersion.{KnownVersion}
use Rattle.release_view.proofs.KnownLemmas.{same_version, tied_known}
use Rattle.release_view.proofs.ListLemmas.{witness, inserted, among_inserted}

module _ (tables : Tables) (on_names : List GroupVersionResource) (first : List ApiEntry) (x : ApiEntry) where
  more : (name : GroupVersionResource) → Speaks (first ++ x ∷ []) name → Speaks first name ⊎ (subject x ≡ name)
  more name h = (Any-push_iff (λ y. subject y ≡ name) first x).0 h

  earlier : (name : GroupVersionResource) → Speaks first name → Speaks (first ++ x ∷ []) name
  earlier name h = (Any-push_iff (λ y. subject y ≡ name) first x).1 (inl h)

  latest : (name : GroupVersionResource) → subject x ≡ name → Speaks (first ++ x ∷ []) name
  latest name h = (Any-push_iff (λ y. subject y ≡ name) first x).1 (inr h)

  -- an entry of a version that isn't read
  pub gathered_same : (versions : List KnownVersion) → decodable tables.apis (subject x) ≡ false → IsGathered tables on_names first versions → IsGathered tables on_names (first ++ x ∷ []) versions
  gathered_same versions unread h = record {
    order = h.order;
    exact = λ v. (
      (λ there. let r = (h.exact v).0 there in (r.0, earlier (name_of v) r.1)),
      (λ known. elim (more (name_of v) known.1) [
        | inl before ↦ (h.exact v).1 (known.0, before)
        | inr here ↦ absurd (both_ways (decodable tables.apis (name_of v)) (ap (decodable tables.apis) (sym here) ∙ unread) (known.0.decodes))
      ]),
    );
    each = λ name speaks reads. elim (more name speaks) [
      | inl before ↦ h.each name before reads
      | inr here ↦ absurd (both_ways (decodable tables.apis name) (ap (decodable tables.apis) (sym here) ∙ unread) reads)
    ];
  }

  module _ (versions : List KnownVersion) (v : KnownVersion) (is_known : IsKnown tables on_names v) (is_named : name_of v ≡ subject x) (h : IsGathered tables on_names first versions) where
    ties : (y : KnownVersion) → Contains versions y → by_place v y ≡ Equal → v ≡ y
    ties y there tied = tied_known tables on_names v y is_known ((h.exact y).0 there).0 tied

    kept : (w : KnownVersion) → Contains versions w → Contains (insert_key by_place versions v) w
    kept w there = inserted by_place v versions w ties (inr there)

    new : Contains (insert_key by_place versions v) v
    new = inserted by_place v versions v ties (inl refl)

    is_exact : (w : KnownVersion) → Contains (insert_key by_place versions v) w ↔ (IsKnown tables on_names w × Speaks (first ++ x ∷ []) (name_of w))
    is_exact w = (
      λ there. elim (among_inserted by_place v versions w there) [
        | inl same ↦ (subst (IsKnown tables on_names) same is_known, latest (name_of w) (sym is_named ∙ ap name_of same))
        | inr before ↦ (let r = (h.exact w).0 before in (r.0, earlier (name_of w) r.1))
      ],
      λ known. elim (more (name_of w) known.1) [
        | inl before ↦ kept w ((h.exact w).1 (known.0, before))
        | inr here ↦ subst (Contains (insert_key by_place versions v)) (same_version tables on_names v w is_known known.0 (is_named ∙ here)) new
      ],
    )

    is_each : (name : GroupVersionResource) → Speaks (first ++ x ∷ []) name → decodable tables.apis name ≡ true → Has (insert_key by_place versions v) name
    is_each name speaks reads = elim (more name speaks) [
      | inl before ↦ (let (w, there, named) = witness (λ y. name_of y ≡ name) versions (h.each name before reads) in Any-from (λ y. name_of y ≡ name) (insert_key by_place versions v) w (kept w there) named)
      | inr here ↦ Any-from (λ y. name_of y ≡ name) (insert_key by_place versions v) v new (is_named ∙ here)
    ]

    -- an entry of a known version
    pub gathered_more : AreInPlace (insert_key by_place versions v) → IsGathered tables on_names (first ++ x ∷ []) (insert_key by_place versions v)
    gathered_more up = record { order = up; exact = is_exact; each = is_each }

pub gathered_none : (tables : Tables) (on_names : List GroupVersionResource) (versions : List KnownVersion) → versions ≡ [] → AreInPlace versions → IsGathered tables on_names [] versions
gathered_none tables on_names versions empty order = record {
  order = order;
  exact = λ v. (
    (λ there. absurd (let c = subst (λ vs. Contains vs v) empty there in let below : c.0 < 0 = c.1 in omega arith)),
    (λ known. absurd (let below : known.1.0 < 0 = known.1.2 in omega arith)),
  );
  each = λ name speaks reads. absurd (let below : speaks.0 < 0 = speaks.2 in omega arith);
}

pub gathered_whole : (tables : Tables) (on_names : List GroupVersionResource) (entries : List ApiEntry) (n : ℕ) (versions : List KnownVersion) → length entries ≤ n → IsGathered tables on_names (take n entries) versions → IsGathered tables on_names entries versions
gathered_whole tables on_names entries n versions all h = subst (λ first. IsGathered tables on_names first versions) (take_all n entries all) h
