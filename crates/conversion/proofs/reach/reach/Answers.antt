use Rattle.std.proofs.Common.{inl, inr, ◌<◌, Some, sym, ◌∙◌, ap, arith}
use Rattle.serde_json.specs.Find.{get}
use Rattle.serde_json.specs.View.{view}
use Rattle.conversion.specs.Trees.{IsObject}
use Rattle.conversion.proofs.ReachLemmas.{object_so, object_not, blocked_at, absent_at, stands_more, null_so, null_not, found_none, found_some}
use Rattle.conversion.proofs.reach.reach.Goals as goal
use Rattle.conversion.proofs.reach.reach.Goals.{else-i-gt0-via-then-i-gt0+else-not-is_object, else-i-gt0-via-else-i-gt0}

pub returns-then-not-is_object-clause-blocked : goal.returns-then-not-is_object-clause-blocked
returns-then-not-is_object-clause-blocked c =
    blocked_at (view c.args.json.now) c.args.path.now c.loop-i.i (view c.loop-i.current.now) c.loop-i.invariant.0 (c.loop-i.invariant.1 c.if-i-gt0.true)
    (object_not (view c.loop-i.current.now) (sym c.is_object.ensures ∙ c.if-not-is_object.true)) c.if-i-gt0.true (omega arith)

pub returns-in_default-clause-there : goal.returns-in_default-clause-there
returns-in_default-clause-there c =
    let is_object : 0 < c.loop-i.i → IsObject (view c.loop-i.current.now) = λ first. elim c.else-i-gt0.branch [
      | else-i-gt0-via-then-i-gt0+else-not-is_object w ↦ object_so (view c.loop-i.current.now) (sym w.is_object.ensures ∙ w.if-not-is_object.false)
      | else-i-gt0-via-else-i-gt0 w ↦ absurd (omega arith)
    ] in
    absent_at (view c.args.json.now) c.args.path.now c.loop-i.i c.index-path-i.result (view c.loop-i.current.now) c.loop-i.invariant.0 is_object (omega arith) c.index-path-i.is
    (inl (found_none c.get.result c.index-path-i.result (view c.loop-i.current.now) (c.get.ensures ∙ ap (λ n. get n (view c.loop-i.current.now)) c.as_str.ensures) c.in_default.is))

pub returns-then-is_null-clause-there : goal.returns-then-is_null-clause-there
returns-then-is_null-clause-there c =
    let is_object : 0 < c.loop-i.i → IsObject (view c.loop-i.current.now) = λ first. elim c.else-i-gt0.branch [
      | else-i-gt0-via-then-i-gt0+else-not-is_object w ↦ object_so (view c.loop-i.current.now) (sym w.is_object.ensures ∙ w.if-not-is_object.false)
      | else-i-gt0-via-else-i-gt0 w ↦ absurd (omega arith)
    ] in
    let found = found_some c.get.result c.index-path-i.result (view c.loop-i.current.now) c.in-Some.inner (c.get.ensures ∙ ap (λ n. get n (view c.loop-i.current.now)) c.as_str.ensures) c.in-Some.is in
    absent_at (view c.args.json.now) c.args.path.now c.loop-i.i c.index-path-i.result (view c.loop-i.current.now) c.loop-i.invariant.0 is_object (omega arith) c.index-path-i.is
    (inr (found ∙ ap Some (null_so (view c.in-Some.inner.now) (sym c.is_null.ensures ∙ c.if-is_null.true))))

pub loop-i-preserved : goal.loop-i-preserved
loop-i-preserved c =
    let found = found_some c.get.result c.index-path-i.result (view c.loop-i.current.now) c.in-Some.inner (c.get.ensures ∙ ap (λ n. get n (view c.loop-i.current.now)) c.as_str.ensures) c.in-Some.is in (
      stands_more (view c.args.json.now) c.args.path.now c.loop-i.i c.index-path-i.result (view c.loop-i.current.now) (view c.in-Some.inner.now) c.loop-i.invariant.0 (omega arith) c.index-path-i.is found,
      λ _. null_not (view c.in-Some.inner.now) (sym c.is_null.ensures ∙ c.if-is_null.false),
    )
