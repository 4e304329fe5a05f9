use Rattle.std.proofs.Common.{sym}
use Rattle.lifecycle.specs.Entry.{named}
use Rattle.request_target.proofs.TargetLemmas.{is_resource, own_table, resource_found}
use Rattle.request_target.proofs.asked.resource_in.Goals as goal

pub invariant_of-result : goal.invariant_of-result
invariant_of-result c = record {
  own = own_table c.args.view.now.versions c.in_ok-served.served.now c.in_ok-table.table.now
      (is_resource c.args.view.now.versions (named c.args.name) c.in_ok-served.served.now c.in_ok-table.table.now c.view_finds_each.ensures
      (sym c.in_ok-served.ensures.value) c.in_ok-served.ensures.name (sym c.in_ok-table.ensures.value)) c.in_ok-table.ensures.lawful;
}

pub returns : goal.returns
returns c = record {
  asked = resource_found c.args.view.now (named c.args.name) c.in_ok-served.served.now c.in_ok-table.table.now c.in_ok-served.ensures.value c.in_ok-table.ensures.value;
  told = is_resource c.args.view.now.versions (named c.args.name) c.in_ok-served.served.now c.in_ok-table.table.now c.view_finds_each.ensures
      (sym c.in_ok-served.ensures.value) c.in_ok-served.ensures.name (sym c.in_ok-table.ensures.value);
}
