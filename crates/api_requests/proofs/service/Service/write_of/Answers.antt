use Rattle.std.proofs.Common.{refl, sym, ap, subst}
use Rattle.object_state.specs.State.{StateRecord}
use Rattle.stored_change.specs.Changes.{IsStorable}
use Rattle.api_requests.proofs.WriteLemmas.{write_ready}
use Rattle.api_requests.specs.Fields.{serving}
use Rattle.api_requests.specs.Serving.{Serving}
use Rattle.api_requests.proofs.service.Service.write_of.Goals as goal

pub returns-clause-write : goal.returns-clause-write
returns-clause-write c =
    let storable = subst (λ (s : Serving). IsStorable s.back s.machine.view s.state c.args.change) (sym c.self.view_is) c.requires.storable in
    write_ready (serving c.self.inside) _ _ storable c.in_ok-ready.ensures.entry c.in_ok-ready.ensures.may refl refl (ap (λ (s : StateRecord). s.state) c.in_ok-reserve.ensures.ok) c.in_ok-ready.ensures.spare
