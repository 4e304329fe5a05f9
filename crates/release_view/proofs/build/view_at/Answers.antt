use Rattle.std.proofs.Common.{subst}
use Rattle.gate_flags.specs.Values.{AreInOrder}
use Rattle.release_view.specs.Known.{tables_at}
use Rattle.release_view.specs.Views.{Viewed}
use Rattle.release_view.proofs.KeptLemmas.{is_kept}
use Rattle.release_view.proofs.build.view_at.Goals as goal

pub new-requires-clause-kept : goal.new-requires-clause-kept
new-requires-clause-kept c =
    let view : Viewed = record { minor = c.args.e; gates = c.args.gates; versions = c.in_ok-versions.versions.items } in
    is_kept (tables_at c.args.a.now c.args.e c.args.gates) c.args.on view c.in_ok-versions.ensures.known c.requires.lives c.in_ok-versions.ensures.lawful c.in_ok-versions.ensures.alike
    (subst AreInOrder c.gates.view_is c.gates.invariant)
