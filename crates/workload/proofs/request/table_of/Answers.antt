use Rattle.std.proofs.Common.{◌≡◌, Some, None, ◌∙◌, ap}
use Rattle.lifecycle.specs.Entry.{GroupVersionResource}
use Rattle.release_view.specs.Served.{shown_name}
use Rattle.release_view.specs.Views.{table_in}
use Rattle.workload.proofs.TableLemmas.{has_table}
use Rattle.workload.proofs.request.table_of.Goals as goal

pub unreachable-requires : goal.unreachable-requires
unreachable-requires c =
    let versions = c.args.view.now.versions in
    let name : GroupVersionResource = record { group = c.bytes.result.now; version = c.bytes-2.result.now; resource = c.bytes-3.result.now } in
    let same : name ≡ shown_name c.args.served.now = λ i. record { group = c.bytes.ensures i; version = c.bytes-2.ensures i; resource = c.bytes-3.ensures i } in
    let (t, found) = has_table versions c.args.served.now c.view_finds_each.ensures c.requires in
    let clash : None ≡ Some t = c.in-None.ensures.value ∙ ap (table_in versions) same ∙ found in
    cc
