use Rattle.std.proofs.Common.{List, sym, ◌∙◌}
use Rattle.std.specs.Prelude.{nat_le}
use Rattle.std.proofs.lemmas.Bool.{and_parts}
use Rattle.gate_spec.specs.Gates.{is_spec}
use Rattle.gate_spec.specs.declared.entry.GateEntry.{GateEntry as TheGate}
use Rattle.listing.proofs.ListingLemmas.{on_ok}
use Rattle.history_fold.proofs.ByNameLemmas.{other, outrun, put_in}
use Rattle.history_fold.proofs.past.take_spec.Goals as goal
use Rattle.history_fold.proofs.past.take_spec.Goals.{then-not-is_spec_by-via-then-not-is_spec_by, then-not-is_spec_by-via-else-not-is_spec_by+then-has_later}

pub returns-then-not-is_spec_by : goal.returns-then-not-is_spec_by
returns-then-not-is_spec_by c = λ (gates : List TheGate) has.
    elim c.then-not-is_spec_by.branch [
      | then-not-is_spec_by-via-then-not-is_spec_by w ↦ other c.args.floor gates c.args.entry.now c.args.latest.now (sym c.is_spec_by.ensures ∙ w.if-not-is_spec_by.true) has
      | then-not-is_spec_by-via-else-not-is_spec_by+then-has_later w ↦ outrun c.args.floor gates c.args.entry.now c.args.latest.now (sym w.has_later.ensures ∙ w.if-has_later.true) has
    ]

pub returns : goal.returns
returns c =
    let y = c.args.entry.now in
    let parts = and_parts (is_spec y.change) (nat_le y.since c.args.floor) (sym c.is_spec_by.ensures ∙ c.if-not-is_spec_by.false) in
    on_ok c.put.result
    (λ puts (gates : List TheGate) has. put_in c.args.floor gates y c.args.latest.now c.put.new.map c.bytes.result.now c.bytes.ensures puts parts.0 parts.1 (sym c.has_later.ensures ∙ c.if-has_later.false) has)
    c.put.ensures.ok
