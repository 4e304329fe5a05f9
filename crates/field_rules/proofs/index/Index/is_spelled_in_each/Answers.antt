use Rattle.std.proofs.Common.{◌≤◌, List, Option, length, refl, sym, subst, rules, arith}
use Rattle.std.specs.Prelude.{All}
use Rattle.std.specs.Borrow.{Bor}
use Rattle.std.specs.Global.{Vec}
use Rattle.std.proofs.lemmas.Bool.{false≢true}
use Rattle.lifecycle.specs.declared.entry.ApiEntry.{ApiEntry}
use Rattle.field_rules.specs.Answers.{IsSpelledIn}
use Rattle.listing.specs.Listing.{EachLent}
use Rattle.field_rules.proofs.PassLemmas.{not_all, below_whole}
use Rattle.field_rules.proofs.index.Index.is_spelled_in_each.Goals as goal

pub returns-then-not-is_spelled_in : goal.returns-then-not-is_spelled_in
returns-then-not-is_spelled_in c =
    let P : Bor ApiEntry → Type 0 = λ x. IsSpelledIn c.args.self.now c.args.field.now x.now in
    let fails : ¬ P c.entry-item.result = search rules in
    let broken : ¬ All P c.deref-entry-items.result.now = not_all P c.deref-entry-items.result.now c.loop-entry.entry-index c.entry-item.result c.loop-entry-test.true c.entry-item.is fails in (
      λ t. absurd (false≢true t),
      λ (each : EachLent (IsSpelledIn c.args.self.now c.args.field.now) c.args.entries).
          let all : All P c.in-Some.entries.now.items = subst (λ (o : Option (Bor (Vec (Bor ApiEntry)))). EachLent (IsSpelledIn c.args.self.now c.args.field.now) o) c.in-Some.is each in
          absurd (broken (subst (λ (l : List (Bor ApiEntry)). All P l) (sym c.deref-entry-items.ensures.value) all)),
    )

pub returns : goal.returns
returns c =
    let P : Bor ApiEntry → Type 0 = λ x. IsSpelledIn c.args.self.now c.args.field.now x.now in
    let past : length c.deref-entry-items.result.now ≤ c.loop-entry.entry-index = omega arith in
    let all : All P c.deref-entry-items.result.now = below_whole P c.deref-entry-items.result.now c.loop-entry.entry-index past c.loop-entry.invariant in (
      λ t. subst (λ (o : Option (Bor (Vec (Bor ApiEntry)))). EachLent (IsSpelledIn c.args.self.now c.args.field.now) o) (sym c.in-Some.is) (subst (λ (l : List (Bor ApiEntry)). All P l) c.deref-entry-items.ensures.value all),
      λ each. refl,
    )
