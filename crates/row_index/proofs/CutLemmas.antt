-- What passes a test passes a weaker one before it: so what is dated by a release survives a cut at a later one.
use Rattle.std.proofs.Common.{◌≡◌, ◌≤◌, inl, inr, ℕ, Bool, true, Some, List, [], ◌∷◌, refl, sym, ◌∙◌, ap, subst, arith}
use Rattle.std.specs.Prelude.{nat_le, filter}
use Rattle.std.proofs.lemmas.Bool.{cases_Bool, both_ways}
use Rattle.std.proofs.lemmas.Bool.Decides.{nat_tests}
use Rattle.fields.specs.declared.field.Field.{Field}
use Rattle.fields.specs.declared.field.Spell.{Spell}
use Rattle.gate_flags.specs.Values.{Gates}
use Rattle.gate_spec.specs.Gates.{cutoff as gates_by}
use Rattle.gate_spec.specs.declared.entry.GateEntry.{GateEntry}
use Rattle.lifecycle.specs.Tables.{cutoff as apis_by}
use Rattle.lifecycle.specs.declared.entry.ApiEntry.{ApiEntry}
use Rattle.schemas.specs.Cutoff.{cutoff, fields_by, spells_by}
use Rattle.schemas.specs.Dated.{Dated}
use Rattle.row_index.specs.Laws.{AreRowsOf, source_at, KnowsSame}
use Rattle.row_index.specs.Source.{RowSource}

pub filter_within : {X : Type 0} (p q : X → Bool) → ((x : X) → p x ≡ true → q x ≡ true) → (xs : List X) → filter p (filter q xs) ≡ filter p xs
filter_within p q weaker [] = refl
filter_within p q weaker (x ∷ xs) = elim (cases_Bool (q x)) [
  | inl kept ↦ elim (cases_Bool (p x)) [
    | inl passes ↦ rw (kept, passes) (ap (λ ys. x ∷ ys) (filter_within p q weaker xs))
    | inr fails ↦ rw (kept, fails) (filter_within p q weaker xs)
  ]
  | inr left ↦ elim (cases_Bool (p x)) [
    | inl passes ↦ absurd (both_ways (q x) left (weaker x passes))
    | inr fails ↦ rw (left, fails) (filter_within p q weaker xs)
  ]
]

pub later_too : (since e o : ℕ) → e ≤ o → nat_le since e ≡ true → nat_le since o ≡ true
later_too since e o below h = grind (arith, nat_tests)

module _ {X : Type 0} (since : X → ℕ) (e o : ℕ) (below : e ≤ o) where
  pub cut_within : (xs : List X) → filter (λ x. nat_le (since x) e) (filter (λ x. nat_le (since x) o) xs) ≡ filter (λ x. nat_le (since x) e) xs
  cut_within xs = filter_within (λ x. nat_le (since x) e) (λ x. nat_le (since x) o) (λ x. later_too (since x) e o below) xs

module _ (h cut : Dated) (e o : ℕ) (is : cut ≡ cutoff h o) (below : e ≤ o) where
  same_fields : fields_by cut.fields e ≡ fields_by h.fields e
  same_fields = ap (λ (d : Dated). fields_by d.fields e) is ∙ cut_within (λ (f : Field). f.since) e o below h.fields

  same_spells : spells_by cut.spells e ≡ spells_by h.spells e
  same_spells = ap (λ (d : Dated). spells_by d.spells e) is ∙ cut_within (λ (s : Spell). s.since) e o below h.spells

  pub same_apis : apis_by cut.apis e ≡ apis_by h.apis e
  same_apis = ap (λ (d : Dated). apis_by d.apis e) is ∙ cut_within (λ (x : ApiEntry). x.since) e o below h.apis

  pub same_gates : gates_by cut.gates e ≡ gates_by h.gates e
  same_gates = ap (λ (d : Dated). gates_by d.gates e) is ∙ cut_within (λ (x : GateEntry). x.since) e o below h.gates

  pub same_first : cut.first ≡ h.first
  same_first = ap (λ (d : Dated). d.first) is

  pub same_source : (gates : Gates) → source_at cut e gates ≡ source_at h e gates
  same_source gates = λ i. record { fields = same_fields i; spells = same_spells i; gates = gates }

  pub knows_same : KnowsSame h cut e
  knows_same = record {
    again = λ i. record { first = same_first i; last = Some e; gates = same_gates i; apis = same_apis i; fields = same_fields i; spells = same_spells i };
    source = same_source;
    rows = λ gates name rows. (
      λ are. subst (λ (s : RowSource). AreRowsOf s name rows) (sym (same_source gates)) are,
      λ are. subst (λ (s : RowSource). AreRowsOf s name rows) (same_source gates) are,
    );
  }
