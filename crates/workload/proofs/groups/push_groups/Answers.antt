use Rattle.std.proofs.Common.{◌++◌, ◌∙◌, ap}
use Rattle.workload.specs.Groups.{group_events}
use Rattle.workload.proofs.EventLemmas.{groups_more}
use Rattle.workload.proofs.groups.push_groups.Goals as goal

pub loop-k-preserved : goal.loop-k-preserved
loop-k-preserved c = record {
  ready = c.in_ok-push_group.ensures.ready;
  so_far = groups_more c.args.script.now c.loop-k.script c.push_group.new.script c.loop-k.k c.args.requests.now c.loop-k.invariant.so_far
      (c.in_ok-push_group.ensures.pieces ∙ ap (λ group. c.loop-k.script ++ group_events group) c.slice_at.ensures);
}
