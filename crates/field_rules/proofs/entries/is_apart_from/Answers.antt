use Rattle.std.proofs.Common.{◌↔◌, Option, sym, subst, IsTrue, rules}
use Rattle.std.specs.Borrow.{Bor}
use Rattle.std.specs.Global.{Vec}
use Rattle.std.proofs.lemmas.Iterator.{cases_from_all, YieldsList-from_slice}
use borrow.Author.Tests.{tests}
use Rattle.fields.specs.declared.field.Spell.{Spell}
use Rattle.listing.specs.Listing.{EachLent}
use Rattle.fields.specs.Table.{AreApart}
use Rattle.field_rules.proofs.PassLemmas.{each_told}
use Rattle.field_rules.proofs.entries.is_apart_from.Goals as goal

pub returns-in-Some : goal.returns-in-Some
returns-in-Some c =
    let h = cases_from_all _ _ _ (λ (x : Bor Spell). AreApart c.args.spell.now.path x.now.path) (λ (x : Bor Spell). ¬ AreApart c.args.spell.now.path x.now.path) c.all.ensures.ran (YieldsList-from_slice c.in-Some.entries.now.items cc) (λ x q k. search (rules, tests)) (λ x q k. search (rules, tests)) in
    subst (λ (o : Option (Bor (Vec (Bor Spell)))). IsTrue c.all.result ↔ EachLent (λ x. AreApart c.args.spell.now.path x.path) o) (sym c.in-Some.is)
    (each_told (λ (x : Bor Spell). AreApart c.args.spell.now.path x.now.path) c.in-Some.entries.now.items c.all.result h)
