-- Objects that records stand for fit the versions of their resources.
use Rattle.std.proofs.Common.{◌≡◌, ℕ, List, Contains, ◌∙◌, ap, subst}
use Rattle.fields.specs.Fits.{Fits}
use Rattle.key_order.proofs.OrderLemmas.{all_of}
use Rattle.object_pages.specs.Fitting.{AreFitting}
use Rattle.object_journal.specs.declared.key.Key.{Key}
use Rattle.object_state.specs.State.{State}
use Rattle.object_state.specs.declared.object.Stored.{Stored}
use Rattle.object_store.specs.declared.item.Item.{Item}
use Rattle.release_view.specs.declared.known.KnownVersion.{KnownVersion}
use Rattle.storage_version.specs.Bodies.{IsBodyRead}
use Rattle.storage_version.specs.Laws.{ReadsFitting}
use Rattle.storage_version.specs.Standing.{StandsFor}
use Rattle.served_steps.specs.Laws.{StandFitting}

module _ (versions : List KnownVersion) (fitting : ReadsFitting versions) (items : List Item) (revision : ℕ) (state : State) (stands : StandsFor items revision versions state) where
  object_fits : (v : KnownVersion) (x : Stored) → Contains versions v → Contains state.objects x → x.key.group ≡ v.table.group → x.key.resource ≡ v.table.resource → Fits v.table.rows x.object.fields
  object_fits v x among there group resource =
      let r = (stands.exact x.key x.object).0 there in
      let of_group : r.item.key.group ≡ v.table.group = ap (λ (k : Key). k.group) r.of_key ∙ group in
      let of_resource : r.item.key.resource ≡ v.table.resource = ap (λ (k : Key). k.resource) r.of_key ∙ resource in
      let at_group = subst (λ (g : List ℕ). IsBodyRead versions g r.item.key.resource r.item.body x.object.fields) of_group r.read.fields in
      let at_both = subst (λ (o : List ℕ). IsBodyRead versions v.table.group o r.item.body x.object.fields) of_resource at_group in
      fitting v r.item.body x.object.fields among at_both

pub stand_fitting : (versions : List KnownVersion) → ReadsFitting versions → StandFitting versions
stand_fitting versions fitting = λ items revision state stands.
    all_of (λ (v : KnownVersion). AreFitting v.table state.objects) versions
    (λ v among. all_of (λ (x : Stored). x.key.group ≡ v.table.group → x.key.resource ≡ v.table.resource → Fits v.table.rows x.object.fields) state.objects
    (λ x there group resource. object_fits versions fitting items revision state stands v x among there group resource))
