use Rattle.std.proofs.Common.{[], ◌∷◌}
use Rattle.std.specs.Int.{w64, to_be_bytes}
use Rattle.object_journal.proofs.Fields.{three_put}
use Rattle.object_journal.proofs.framed.put_numbers.Goals as goal

pub returns : goal.returns
returns c = three_put c.args.bytes.now.items (c.args.tag ∷ []) (to_be_bytes w64 c.args.revision) (to_be_bytes w64 c.args.created) _ _ _ _ _ c.to_be_bytes.ensures c.to_be_bytes-2.ensures c.in_ok-push.ensures.items c.in_ok-extend_from_slice.ensures.items c.in_ok-extend_from_slice-2.ensures.items
