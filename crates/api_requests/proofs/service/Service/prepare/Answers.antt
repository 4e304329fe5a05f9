use Rattle.std.proofs.Common.{Some, sym, ap, subst, ◌∙◌}
use Rattle.object_state.specs.declared.object.Change.{Change}
use Rattle.plain_machine.specs.Deciding.{IsDecided}
use Rattle.plain_machine.specs.declared.decision.Decided.{Decided}
use Rattle.stored_change.specs.Changes.{IsStorable}
use Rattle.api_requests.proofs.WriteLemmas.{ready_without, ready_written}
use Rattle.api_requests.specs.Serving.{Serving}
use Rattle.api_requests.proofs.service.Service.prepare.Goals as goal

pub decide-requires : goal.decide-requires
decide-requires c =
    c.standing_objects_fit.ensures c.self.inside.store.items c.self.inside.store.journal.revision c.self.inside.state.state c.self.invariant.serves.stand.later

pub returns-in_default-clause-decided : goal.returns-in_default-clause-decided
returns-in_default-clause-decided c =
    let s = c.args.self.now in
    let q = c.args.request.now in
    let d = c.in_ok-reply.field-0 in
    let decided = subst (λ (s : Serving). IsDecided s.machine s.state q d) c.self.view_is c.in_ok-reply.ensures.decided in
    subst (λ (o : Decided). IsDecided s.machine s.state q o) (λ i. record { reply = d.reply; change = c.in_default.is i }) decided

pub returns-in_default-clause-ready : goal.returns-in_default-clause-ready
returns-in_default-clause-ready c =
    ready_without c.args.self.now c.args.request.now c.in_ok-reply.field-0.reply (returns-in_default-clause-decided c)

pub write_of-requires-clause-storable : goal.write_of-requires-clause-storable
write_of-requires-clause-storable c =
    let inside = c.self.inside in
    let serves = c.self.invariant.serves in
    let later = serves.stand.later in
    let fits = c.standing_objects_fit.ensures inside.store.items inside.store.journal.revision inside.state.state later in
    subst (λ (s : Serving). IsStorable s.back s.machine.view s.state c.in-Some.change) c.self.view_is
    (c.changes_are_storable.ensures serves.history serves.one inside.state.state c.args.request.now c.in_ok-reply.field-0 c.in-Some.change later.order fits c.in_ok-reply.ensures.decided c.in-Some.is)

pub returns-clause-decided : goal.returns-clause-decided
returns-clause-decided c =
    let s = c.args.self.now in
    let q = c.args.request.now in
    let d = c.in_ok-reply.field-0 in
    let decided = subst (λ (s : Serving). IsDecided s.machine s.state q d) c.self.view_is c.in_ok-reply.ensures.decided in
    let is = c.in-Some.is ∙ ap (λ (x : Change). Some x) (sym c.in_ok-write_of.ensures.change) in
    subst (λ (o : Decided). IsDecided s.machine s.state q o) (λ i. record { reply = d.reply; change = is i }) decided

pub returns-clause-ready : goal.returns-clause-ready
returns-clause-ready c =
    ready_written c.args.self.now c.write_of.new.self c.args.request.now c.in_ok-reply.field-0.reply c.in_ok-write_of.field-0 c.in_ok-write_of.ensures.same (returns-clause-decided c) c.in_ok-write_of.ensures.write

pub returns-clause-code : goal.returns-clause-code
returns-clause-code c = c.request_has_known_code.ensures.decided c.in_ok-reply.field-0 c.in_ok-reply.ensures.decided
