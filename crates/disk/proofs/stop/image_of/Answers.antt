use Rattle.std.proofs.Common.{◌≡◌, ℕ, ◌<◌, Result, Ok, Err, IfOk, ◌+◌, ◌++◌, ◌∷◌, [], List, take, subst, sym, ap, ◌∙◌, arith}
use Rattle.std.proofs.lemmas.List.{take_more, take_all}
use Rattle.basis.specs.declared.memory.Memory.{Memory}
use Rattle.disk.specs.MemDisk.{State, replay, resting_state}
use Rattle.disk.specs.Stops.{IsLeft, IsPicked}
use Rattle.disk.proofs.MemLemmas.{replay_more, replay_spans}
use Rattle.disk.proofs.stop.image_of.Goals as goal

pub loop-entry-preserved : goal.loop-entry-preserved
loop-entry-preserved c =
    let inv = c.loop-entry.invariant in
    let e = c.entry-item.result in
    let n = c.loop-entry.entry-index in
    let s = replay c.args.t c.args.file (take n c.args.log.now) (resting_state c.args.first.now) in
    let here : take (n + 1) c.args.log.now ≡ take n c.args.log.now ++ e ∷ [] = take_more c.args.log.now n e c.loop-entry-test.true ∙ ap (λ x. take n c.args.log.now ++ x ∷ []) (sym c.entry-item.is) in
    let more = replay_more c.args.t c.args.file c.args.log.now n e (resting_state c.args.first.now) here in
    record {
      held = ap (λ (x : State). x.held) more ∙ c.in-Ok.ensures.held s inv.held;
      left = subst (λ (x : State). IsLeft c.args.pick x.pending c.next.new.left.items) (sym more) (c.in-Ok.ensures.left s inv.held (replay_spans c.args.t c.args.file (take n c.args.log.now) c.args.first.now).longer inv.left);
    }

copied : (r : Result (List ℕ) Memory) (x : List ℕ) (pick : ℕ) (s : State) → IfOk r (λ b. b ≡ x) → IsPicked pick s x → IfOk r (λ b. IsPicked pick s b)
copied (Ok b) x pick s is picked = subst (IsPicked pick s) (sym is) picked
copied (Err e) x pick s is picked = tt

picked_held : (pick : ℕ) (s : State) (held : List ℕ) → pick ≡ 1 → s.held ≡ held → IsPicked pick s held
picked_held pick s held one is = record {
  lost = λ (none : pick ≡ 0). absurd (omega (arith, one, none));
  kept = λ _. sym is;
  filled = λ (more : 1 < pick). absurd (omega (arith, one, more));
}

picked_left : (pick : ℕ) (s : State) (left : List ℕ) → (pick ≡ 1 → ⊥) → IsLeft pick s.pending left → IsPicked pick s left
picked_left pick s left other is = record {
  lost = λ (none : pick ≡ 0). is.lost (omega (arith, none));
  kept = λ one. absurd (other one);
  filled = is.filled;
}

pub returns-then-pick-eq1 : goal.returns-then-pick-eq1
returns-then-pick-eq1 c =
    let whole : take c.loop-entry.entry-index c.args.log.now ≡ c.args.log.now = take_all _ _ (omega (arith, c.loop-entry-test.false)) in
    let s = replay c.args.t c.args.file c.args.log.now (resting_state c.args.first.now) in
    let held : s.held ≡ c.as_slice.result.now = ap (λ l. (replay c.args.t c.args.file l (resting_state c.args.first.now)).held) (sym whole) ∙ c.loop-entry.invariant.held ∙ sym c.as_slice.ensures.value in
    copied c.copy.result c.as_slice.result.now c.args.pick s c.copy.ensures (picked_held c.args.pick s c.as_slice.result.now c.if-pick-eq1.true held)

pub returns : goal.returns
returns c =
    let whole : take c.loop-entry.entry-index c.args.log.now ≡ c.args.log.now = take_all _ _ (omega (arith, c.loop-entry-test.false)) in
    let s = replay c.args.t c.args.file c.args.log.now (resting_state c.args.first.now) in
    let left : IsLeft c.args.pick s.pending c.as_slice-2.result.now =
    subst (λ l. IsLeft c.args.pick (replay c.args.t c.args.file l (resting_state c.args.first.now)).pending c.as_slice-2.result.now) whole
    (subst (λ (b : List ℕ). IsLeft c.args.pick (replay c.args.t c.args.file (take c.loop-entry.entry-index c.args.log.now) (resting_state c.args.first.now)).pending b) (sym c.as_slice-2.ensures.value) c.loop-entry.invariant.left) in
    copied c.copy-2.result c.as_slice-2.result.now c.args.pick s c.copy-2.ensures (picked_left c.args.pick s c.as_slice-2.result.now c.if-pick-eq1.false left)
