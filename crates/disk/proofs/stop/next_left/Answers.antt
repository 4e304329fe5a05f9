use Rattle.std.proofs.Common.{◌≡◌, ◌≤◌, ⊎_elim, subst, sym, arith}
use Rattle.disk.specs.Images.{after_cut}
use Rattle.disk.specs.declared.log.Change.TheVariants.{Cut, CutFailed}
use Rattle.disk.specs.MemDisk.{step}
use Rattle.disk.specs.Stops.{IsLeft}
use Rattle.disk.specs.declared.log.Change.{Change}
use Rattle.disk.proofs.stop.next_left.Goals as goal

pub returns-then-pick-gt1-3 : goal.returns-then-pick-gt1-3
returns-then-pick-gt1-3 c s is long left =
    let freed : IsLeft c.args.pick (after_cut c.in-Cut.to s.pending) c.free_cut.new.left.items = record {
      lost = λ (le : c.args.pick ≤ 1). absurd (omega (arith, le, c.if-pick-gt1-3.true));
      filled = λ gt. c.free_cut.ensures s.pending (left.filled gt);
    } in
    ⊎_elim
    (λ (good : c.args.change.now ≡ Cut c.in-Cut.to). subst (λ (change : Change). IsLeft c.args.pick (step change s).pending c.free_cut.new.left.items) (sym good) freed)
    (λ (bad : c.args.change.now ≡ CutFailed c.in-Cut.to). subst (λ (change : Change). IsLeft c.args.pick (step change s).pending c.free_cut.new.left.items) (sym bad) freed)
    c.in-Cut.is
