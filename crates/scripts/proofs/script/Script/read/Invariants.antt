use Rattle.std.proofs.Common.{◌≡◌, map, take}
use Rattle.scripts.specs.Lines.{lines}
use Rattle.scripts.specs.Reading.{AreOf}
use Rattle.scripts.proofs.script.Script.read.Given as goal

abbrev pub invariant-loop-index : goal.invariant-loop-index
invariant-loop-index l = record {
  read : AreOf (take l.index (map (λ r. r.now) l.line-items)) l.reading;
  whole : map (λ r. r.now) l.line-items ≡ lines l.text;
}
