use Rattle.std.proofs.Common.{sym, ap, subst}
use Rattle.object_state.specs.State.{State, StateRecord}
use Rattle.stored_state.specs.Both.{StandForBoth}
use Rattle.api_requests.proofs.service.start.Goals as goal

pub invariant_of-result : goal.invariant_of-result
invariant_of-result c =
    let (history, one) = c.requires.one in
    let store = c.args.store in
    let state = c.in_ok-state.state.state in
    let earlier = c.readable_records_stand.ensures history one store.items store.journal.revision state c.in_ok-state.ensures.stands c.in_ok-state.ensures.readable in
    let same = ap (λ (s : StateRecord). s.state) c.in_ok-reserve.ensures.ok in
    record {
      serves = record {
        history = history;
        one = one;
        least = c.minor.ensures;
        stand = subst (λ (s : State). StandForBoth c.args.back c.args.view store.items store.journal.revision s) (sym same) (record { later = c.in_ok-state.ensures.stands; earlier = earlier });
      };
      room = λ _. ap (λ (s : StateRecord). s.spare) c.in_ok-reserve.ensures.ok;
    }

pub returns-clause-serves : goal.returns-clause-serves
returns-clause-serves c = (invariant_of-result c).serves
