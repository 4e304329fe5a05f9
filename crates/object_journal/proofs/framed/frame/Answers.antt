use Rattle.std.proofs.Common.{arith, sym, ap}
use Rattle.object_journal.specs.declared.entry.Entry.{Entry}
use Rattle.object_journal.proofs.Fields.{entry_of_frame, is_frame_of}
use Rattle.object_journal.proofs.framed.frame.Goals as goal

pub invariant_of-result : goal.invariant_of-result
invariant_of-result c =
    let fits = c.in-Ok.ensures.fits in
    record {
      frame = is_frame_of c.args.entry.now _ c.requires fits.0 fits.1 c.in-Ok.ensures.frame (omega (arith, c.if-size-gt-LONGEST_PAYLOAD.false, c.payload_length-size.ensures));
      revision = sym (ap (λ (e : Entry). e.revision) (entry_of_frame c.args.entry.now _ (record { short = c.requires; revision = fits.0; created = fits.1 }) c.in-Ok.ensures.frame));
    }

pub returns-in-Ok-clause-ok : goal.returns-in-Ok-clause-ok
returns-in-Ok-clause-ok c =
    let fits = c.in-Ok.ensures.fits in
    entry_of_frame c.args.entry.now _ (record { short = c.requires; revision = fits.0; created = fits.1 }) c.in-Ok.ensures.frame
