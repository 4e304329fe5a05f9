-- It tells nothing, so what is said of content holds of it.
use Rattle.real_world.proofs.real.RealWorldDisk.TheImpl.Goals as goal

pub len-tells : goal.len-tells
len-tells g c = record {
  len = λ told. absurd told;
  short = c.ensures.short;
  same = λ told. absurd told;
  clock = c.ensures.clock;
  spares = c.ensures.spares;
}

pub read_at-tells : goal.read_at-tells
read_at-tells g c = record {
  bytes = λ told. absurd told;
  same = λ told. absurd told;
  clock = c.ensures.clock;
  spares = c.ensures.spares;
}

pub write_at-tells : goal.write_at-tells
write_at-tells g c = record {
  written = λ told. absurd told;
  short = c.ensures.short;
  failed = λ told. absurd told;
  too_far = λ told. absurd told;
  others = λ told. absurd told;
  pending = λ told. absurd told;
  time = λ told. absurd told;
  clock = c.ensures.clock;
  at_end = λ told. absurd told;
  spares = c.ensures.spares;
}

pub cut-tells : goal.cut-tells
cut-tells g c = record {
  shortened = λ told. absurd told;
  failed = λ told. absurd told;
  others = λ told. absurd told;
  pending = λ told. absurd told;
  time = λ told. absurd told;
  clock = c.ensures.clock;
  at_end = λ told. absurd told;
  spares = c.ensures.spares;
}

pub sync-tells : goal.sync-tells
sync-tells g c = record {
  still = λ told. absurd told;
  held = λ told. absurd told;
  failed = λ told. absurd told;
  others = λ told. absurd told;
  time = λ told. absurd told;
  clock = c.ensures.clock;
  at_end = λ told. absurd told;
  spares = c.ensures.spares;
}
