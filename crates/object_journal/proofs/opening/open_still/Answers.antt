use Rattle.std.proofs.Common.{ℕ, List, length, refl, sym, ap, subst, ◌∙◌, arith, ◌<◌}
use Rattle.std.specs.Prelude.{Err}
use Rattle.disk.specs.Images.{Images, end_of_lengths}
use Rattle.object_journal.specs.Journal.{IsJournal, IsRefusal}
use Rattle.object_journal.specs.Standing.{chosen, IsMended}
use Rattle.disk.proofs.ImageLemmas.{weaker}
use Rattle.object_journal.proofs.OpenLemmas.{read_on_moments, end_short, mended_gated, one_refusal}
use Rattle.object_journal.proofs.opening.open_still.Goals as goal

pub returns-in-Err-BrokenAt-clause-refused : goal.returns-in-Err-BrokenAt-clause-refused
returns-in-Err-BrokenAt-clause-refused g c told file at is =
    let one = one_refusal c.in-Err-BrokenAt.at at file _ refl is in
    let held : IsRefusal (g.D.Disk.held c.args.disk.now chosen) c.in-Err-BrokenAt.at = subst (λ (t : List ℕ). IsRefusal t c.in-Err-BrokenAt.at) (c.as_slice.ensures.value ∙ c.in-Ok.ensures.bytes told) (c.in-Err-BrokenAt.ensures.broken c.in-Err-BrokenAt.at (ap Err c.in-Err-BrokenAt.field-0-is)) in
    (one.0, subst (λ (n : ℕ). IsRefusal (g.D.Disk.held c.args.disk.now chosen) n) (sym one.1) held, (c.in-Ok.ensures.same told).held)

pub returns-in_default-clause-time : goal.returns-in_default-clause-time
returns-in_default-clause-time g c told =
    let d = g.D.Disk in
    let same = c.in-Ok.ensures.same told in
    let base = c.in-Ok-read_journal.read.0.base in
    let all = c.in-Ok-read_journal.ensures.ok in
    let read : IsJournal (d.held c.read_whole.new.disk chosen) base all.entries = subst (λ (t : List ℕ). IsJournal t base all.entries) (c.as_slice.ensures.value ∙ c.in-Ok.ensures.bytes told ∙ ap (λ (h : Images). h chosen) (sym same.held)) all.whole.means in
    read_on_moments d.clock d.may_leave d.held d.pending c.args.disk.now c.read_whole.new.disk c.mend.new.disk same c.in-Ok.ensures.clock (weaker d.clock d.may_leave c.read_whole.new.disk c.mend.new.disk _ _ (λ t i above le l. l base all.entries read) (c.mend.ensures.writes told).time)

pub returns-clause-time : goal.returns-clause-time
returns-clause-time g c told =
    let d = g.D.Disk in
    let same = c.in-Ok.ensures.same told in
    let base = c.in-Ok-read_journal.read.0.base in
    let all = c.in-Ok-read_journal.ensures.ok in
    let read : IsJournal (d.held c.read_whole.new.disk chosen) base all.entries = subst (λ (t : List ℕ). IsJournal t base all.entries) (c.as_slice.ensures.value ∙ c.in-Ok.ensures.bytes told ∙ ap (λ (h : Images). h chosen) (sym same.held)) all.whole.means in
    read_on_moments d.clock d.may_leave d.held d.pending c.args.disk.now c.read_whole.new.disk c.mend.new.disk same c.in-Ok.ensures.clock (weaker d.clock d.may_leave c.read_whole.new.disk c.mend.new.disk _ _ (λ t i above le l. l base all.entries read) (c.mend.ensures.writes told).time)

pub returns-clause-opened : goal.returns-clause-opened
returns-clause-opened g c =
    let d = g.D.Disk in
    let base = c.in-Ok-read_journal.read.0.base in
    let place = c.in-Ok-read_journal.read.2 in
    let all = c.in-Ok-read_journal.ensures.ok in
    let entries = all.entries in
    let whole = all.whole in
    let short : length c.as_slice.result.now < end_of_lengths = omega (arith, c.in-Ok.ensures.short, ap length c.as_slice.ensures.value) in (
      entries,
      all.made,
      record {
        going = refl;
        base_fits = whole.state.base_fits;
        lawful = whole.state.lawful;
        revision = whole.state.revision;
        end_is = whole.gate;
        short = end_short c.as_slice.result.now base entries place whole.means whole.gate short;
        still = λ told. (c.in-Ok-mend.ensures.writes told).still refl;
        gated = λ told.
            let same = c.in-Ok.ensures.same told in
            let read : IsJournal (d.held c.read_whole.new.disk chosen) base entries = subst (λ (t : List ℕ). IsJournal t base entries) (c.as_slice.ensures.value ∙ c.in-Ok.ensures.bytes told ∙ ap (λ (h : Images). h chosen) (sym same.held)) whole.means in
            mended_gated (d.held c.read_whole.new.disk chosen) (d.held c.mend.new.disk chosen) base entries read whole.state.base_fits whole.state.lawful (c.in-Ok-mend.ensures.mended told base entries read);
      },
      (λ told. subst (λ (t : List ℕ). IsJournal t base entries) (c.as_slice.ensures.value ∙ c.in-Ok.ensures.bytes told) whole.means),
    )

pub returns-clause-mended : goal.returns-clause-mended
returns-clause-mended g c told =
    let d = g.D.Disk in
    let same = c.in-Ok.ensures.same told in
    let base = c.in-Ok-read_journal.read.0.base in
    let all = c.in-Ok-read_journal.ensures.ok in
    let read : IsJournal (d.held c.read_whole.new.disk chosen) base all.entries = subst (λ (t : List ℕ). IsJournal t base all.entries) (c.as_slice.ensures.value ∙ c.in-Ok.ensures.bytes told ∙ ap (λ (h : Images). h chosen) (sym same.held)) all.whole.means in
    subst (λ (h : Images). IsMended (h chosen) base (d.held c.mend.new.disk chosen)) same.held (c.in-Ok-mend.ensures.mended told base all.entries read)
