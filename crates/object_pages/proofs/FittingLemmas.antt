-- Objects of a version that a view has fit its table.
use Rattle.std.proofs.Common.{◌≡◌, ℕ, Bool, true, false, List, [], ◌∷◌, All, Contains, Option, Some, None, refl, sym, ◌∙◌, ap, subst, cond, suc, arith}
use Rattle.std.specs.Prelude.{filter}
use Rattle.std.specs.Str.{bytes_eq}
use Rattle.std.proofs.lemmas.Bool.{and_parts}
use Rattle.std.proofs.lemmas.List.Elements.{All-contains, All-cons}
use Rattle.std.proofs.lemmas.Slice.Eq.{bytes_eq-Decides}
use Rattle.fields.specs.Fits.{Fits}
use Rattle.fields.specs.declared.table.VersionTable.{VersionTable}
use Rattle.key_order.specs.Stretches.{is_of, is_inside}
use Rattle.object_pages.specs.Documents.{listed}
use Rattle.object_pages.specs.Fitting.{AllFit, AreFitting, FitResource, FitVersions}
use Rattle.object_state.specs.declared.object.Stored.{Stored}
use Rattle.release_view.specs.declared.known.KnownVersion.{KnownVersion}
use Rattle.release_view.specs.declared.served.ServedVersion.{ServedVersion}
use Rattle.request_target.specs.Targets.{Resource}
use Rattle.request_target.specs.Told.{IsResourceIn}

further : {X : Type 0} (x : X) (xs : List X) (y : X) → Contains xs y → Contains (x ∷ xs) y
further x xs y h = (suc h.0, (let below = h.1 in omega arith), h.2)

filter_at : {X : Type 0} (p : X → Bool) (P : X → Type 0) (x : X) (xs : List X) (b : Bool) → p x ≡ b → (p x ≡ true → P x) → All P (filter p xs) → All P (cond b (x ∷ filter p xs) (filter p xs))
filter_at p P x xs true e here rest = All-cons P x (filter p xs) (here e) rest
filter_at p P x xs false e here rest = rest

-- what holds of each element that passes holds of each of the filtered list
all_filter : {X : Type 0} (p : X → Bool) (P : X → Type 0) (xs : List X) → ((x : X) → Contains xs x → p x ≡ true → P x) → All P (filter p xs)
all_filter p P [] h = λ k d below. absurd (omega arith)
all_filter p P (x ∷ xs) h = filter_at p P x xs (p x) refl (h x (0, omega arith, refl)) (all_filter p P xs (λ y there. h y (further x xs y there)))

module _ (versions : List KnownVersion) (objects : List Stored) (fit : FitVersions versions objects) (r : Resource) (told : IsResourceIn versions r) where
  -- what an object of the resource holds fits its table
  pub held_fits : (x : Stored) → Contains objects x → x.key.group ≡ r.served.group → x.key.resource ≡ r.served.resource → Fits r.table.rows x.object.fields
  held_fits x there group resource =
      let own : AreFitting told.version.table objects = All-contains (λ (v : KnownVersion). AreFitting v.table objects) versions told.version fit told.among in
      subst (λ (t : VersionTable). Fits t.rows x.object.fields) told.table
      (All-contains (λ (y : Stored). y.key.group ≡ told.version.table.group → y.key.resource ≡ told.version.table.resource → Fits told.version.table.rows y.object.fields) objects x own there
      (group ∙ ap (λ (s : ServedVersion). s.group) (sym told.served)) (resource ∙ ap (λ (s : ServedVersion). s.resource) (sym told.served)))

  fits_of : (x : Stored) → Contains objects x → is_of r.served.group r.served.resource x.key ≡ true → Fits r.table.rows x.object.fields
  fits_of x there of =
      let (g, s) = and_parts (bytes_eq x.key.group r.served.group) (bytes_eq x.key.resource r.served.resource) of in
      held_fits x there ((bytes_eq-Decides x.key.group r.served.group).0 g) ((bytes_eq-Decides x.key.resource r.served.resource).0 s)

  -- what those that are listed hold fits its table
  pub listed_fit : (namespace : Option (List ℕ)) → AllFit r.table (listed r namespace objects)
  listed_fit None = all_filter (λ x. is_of r.served.group r.served.resource x.key) (λ x. Fits r.table.rows x.object.fields) objects fits_of
  listed_fit (Some namespace) =
      all_filter (λ x. is_inside r.served.group r.served.resource namespace x.key) (λ x. Fits r.table.rows x.object.fields) objects
      (λ x there of. fits_of x there (and_parts (is_of r.served.group r.served.resource x.key) (bytes_eq x.key.namespace namespace) of).0)

  pub fit_resource : FitResource r objects
  fit_resource = record { held = held_fits; all = listed_fit }
