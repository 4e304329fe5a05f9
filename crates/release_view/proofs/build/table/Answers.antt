use Rattle.std.proofs.Common.{◌≡◌, true, sym, ◌∙◌, subst}
use Rattle.gate_flags.specs.Values.{HasValue}
use Rattle.lifecycle.specs.Entry.{GroupVersionResource, named}
use Rattle.schemas.specs.Rows.{AreRows}
use Rattle.release_view.proofs.build.table.Goals as goal

pub returns : goal.returns
returns c =
    let source = c.args.rows.now in
    let name : GroupVersionResource = record { group = c.in_ok-duplicate.field-0; version = c.in_ok-duplicate-2.field-0; resource = c.in_ok-duplicate-3.field-0 } in
    let same : named c.name.result ≡ name = c.name.ensures ∙ (λ i. record { group = sym c.in_ok-duplicate.ensures i; version = sym c.in_ok-duplicate-2.ensures i; resource = sym c.in_ok-duplicate-3.ensures i }) in
    record {
      of_group = c.in_ok-duplicate.ensures;
      of_version = c.in_ok-duplicate-2.ensures;
      of_resource = c.in_ok-duplicate-3.ensures;
      of_kind = c.in_ok-duplicate-4.ensures;
      rows = subst (λ n. AreRows (λ gate. HasValue source.gates gate true) source.fields source.spells n c.in_ok-rows.rows) same c.in_ok-rows.ensures;
    }
