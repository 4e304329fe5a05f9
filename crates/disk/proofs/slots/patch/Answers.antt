use Rattle.std.proofs.Common.{◌∙◌, arith}
use Rattle.disk.proofs.PatchLemmas.{patched_by_parts, whole}
use Rattle.disk.proofs.slots.patch.Goals as goal

pub returns-in-Ok-clause-ok : goal.returns-in-Ok-clause-ok
returns-in-Ok-clause-ok c =
    whole _ c.overwrite.new.held c.extend_from_slice.new.self.items (omega arith) (omega arith)
    ∙ patched_by_parts c.args.held.now.items c.args.bytes.now c.split_at.result.0.now c.split_at.result.1.now c.as_mut_slice.result.now c.overwrite.new.held c.args.at c.min.result c.requires (omega arith) c.split_at.ensures.front c.split_at.ensures.back
    (c.as_mut_slice.ensures.value ∙ c.in-Ok.ensures.items) c.overwrite.auto.held c.overwrite.ensures.inside c.overwrite.ensures.outside
