-- A sound change leaves objects that fit.
use Rattle.std.proofs.Common.{◌≡◌, ◌≢◌, ◌⊎◌, inl, inr, List, Contains, Some, sym, ◌∙◌, ap}
use Rattle.std.proofs.lemmas.List.Elements.{All-contains}
use Rattle.fields.specs.Fits.{Fits}
use Rattle.key_order.proofs.OrderLemmas.{all_of}
use Rattle.object_journal.specs.declared.key.Key.{Key}
use Rattle.object_pages.specs.Fitting.{AreFitting, FitVersions}
use Rattle.object_state.specs.Objects.{Holds}
use Rattle.object_state.specs.State.{IsApplied, State}
use Rattle.object_state.specs.declared.object.Change.{Change}
use Rattle.object_state.specs.declared.object.Object.{Object}
use Rattle.object_state.specs.declared.object.Stored.{Stored}
use Rattle.release_view.specs.declared.known.KnownVersion.{KnownVersion}
use Rattle.plain_machine.specs.Sound.{FitsEach}

module _ (versions : List KnownVersion) (old new : State) (change : Change) (fit : FitVersions versions old.objects)
    (fits : (object : Object) → change.object ≡ Some object → FitsEach versions change.key object.fields) (applied : IsApplied old change new) where
  fits_now : (v : KnownVersion) (x : Stored) → Contains versions v → x.key.group ≡ v.table.group → x.key.resource ≡ v.table.resource
      → ((x.key ≡ change.key) × (change.object ≡ Some x.object)) ⊎ ((x.key ≢ change.key) × Holds old.objects x.key x.object) → Fits v.table.rows x.object.fields
  fits_now v x among group resource (inl h) =
      fits x.object h.1 v among (sym group ∙ ap (λ (k : Key). k.group) h.0) (sym resource ∙ ap (λ (k : Key). k.resource) h.0)
  fits_now v x among group resource (inr h) =
      All-contains (λ (y : Stored). y.key.group ≡ v.table.group → y.key.resource ≡ v.table.resource → Fits v.table.rows y.object.fields) old.objects x
      (All-contains (λ (w : KnownVersion). AreFitting w.table old.objects) versions v fit among) h.1 group resource

  pub fit_after : FitVersions versions new.objects
  fit_after =
      all_of (λ (v : KnownVersion). AreFitting v.table new.objects) versions
      (λ v among. all_of (λ (x : Stored). x.key.group ≡ v.table.group → x.key.resource ≡ v.table.resource → Fits v.table.rows x.object.fields) new.objects
      (λ x there group resource. fits_now v x among group resource ((applied.objects.exact x.key x.object).0 there)))
