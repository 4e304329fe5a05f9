-- It tells nothing, so what is said of events and sends holds of it.
use Rattle.std.proofs.Common.{ap}
use Rattle.real_world.specs.Worlds.{beside_of}
use Rattle.real_world.proofs.real.RealWorldFront.TheImpl.Goals as goal

pub next-tells : goal.next-tells
next-tells g c = record {
  first = λ told. absurd told;
  one = λ told. absurd told;
  lawful = λ told. absurd told;
  numbered = c.ensures.numbered;
  bound = c.ensures.bound;
  failed = c.ensures.failed;
  sends = c.ensures.sends;
  cause = c.ensures.cause;
  fine = c.ensures.fine;
  same = λ told. absurd told;
  clock = ap (λ s. s.clock) c.ensures.store;
  faults = ap (λ s. s.faults) c.ensures.store;
}

pub room-tells : goal.room-tells
room-tells g c = record {
  ok = c.ensures.ok;
  err = c.ensures.err;
  beside = ap beside_of c.ensures.same;
  same = λ told. absurd told;
  clock = ap (λ w. w.store.clock) c.ensures.same;
  faults = ap (λ w. w.store.faults) c.ensures.same;
}

pub send-tells : goal.send-tells
send-tells g c = record {
  sends = λ told. absurd told;
  count = λ told. absurd told;
  spare = c.ensures.spare;
  events = c.ensures.events;
  mark = c.ensures.mark;
  cause = c.ensures.cause;
  same = λ told. absurd told;
  time = λ told. absurd told;
  clock = ap (λ s. s.clock) c.ensures.store;
  faults = ap (λ s. s.faults) c.ensures.store;
}
