use Rattle.std.proofs.Common.{◌≡◌, map, take}
use Rattle.httparse.specs.Spans.{header_bytes}
use Rattle.http1.specs.Fields.{values_named}
use Rattle.http_front.proofs.parts.values_named.Given as goal

abbrev pub invariant-loop-line : goal.invariant-loop-line
invariant-loop-line l = map (λ r. r.now) l.values.items ≡ values_named l.name (map (header_bytes l.head) (take l.line-index l.lines))
