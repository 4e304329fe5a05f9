use Rattle.std.proofs.Common.{rules, arith, ◌≡◌, ◌+◌, ◌↔◌, List, [], ◌∷◌, ◌++◌, take, sym, ap, subst, ◌∙◌, IsTrue}
use Rattle.std.proofs.lemmas.List.{take_more}
use Rattle.fields.specs.declared.field.Spell.{Spell}
use Rattle.schemas.specs.SpellRules.{SpellsPairOnce}
use Rattle.listing.specs.Keys.{version_of_spell}
use Rattle.listing.specs.Listing.{IsListing}
use Rattle.schemas.proofs.PlaceLemmas.{each_more, each_whole, first_broken}
use Rattle.field_rules.proofs.on_spellings.first_unpaired.Goals as goal

pub returns-then-not-spells_pair_once : goal.returns-then-not-spells_pair_once
returns-then-not-spells_pair_once c =
    let told : IsTrue c.spells_pair_once.result ↔ SpellsPairOnce c.args.index.now.apis c.args.index.now.fields (take c.loop-i.i c.args.spells.now) c.index-spells-i.result = c.spells_pair_once.ensures (take c.loop-i.i c.args.spells.now) c.loop-i.invariant.earlier in
    first_broken (SpellsPairOnce c.args.index.now.apis c.args.index.now.fields) c.args.spells.now c.loop-i.i c.index-spells-i.result c.loop-i-test.true c.index-spells-i.is c.loop-i.invariant.before (search rules)

pub loop-i-preserved : goal.loop-i-preserved
loop-i-preserved c =
    let told : IsTrue c.spells_pair_once.result ↔ SpellsPairOnce c.args.index.now.apis c.args.index.now.fields (take c.loop-i.i c.args.spells.now) c.index-spells-i.result = c.spells_pair_once.ensures (take c.loop-i.i c.args.spells.now) c.loop-i.invariant.earlier in
    let here : SpellsPairOnce c.args.index.now.apis c.args.index.now.fields (take c.loop-i.i c.args.spells.now) c.index-spells-i.result = told.0 (search rules) in
    let more : take (c.loop-i.i + 1) c.args.spells.now ≡ take c.loop-i.i c.args.spells.now ++ c.index-spells-i.result ∷ [] =
    take_more c.args.spells.now c.loop-i.i c.index-spells-i.result c.loop-i-test.true ∙ ap (λ (x : Spell). take c.loop-i.i c.args.spells.now ++ x ∷ []) (sym c.index-spells-i.is) in
    record {
      before = each_more (SpellsPairOnce c.args.index.now.apis c.args.index.now.fields) c.args.spells.now c.loop-i.i c.index-spells-i.result c.loop-i-test.true c.index-spells-i.is c.loop-i.invariant.before here;
      earlier = subst (λ (l : List Spell). IsListing version_of_spell l c.take_spell.new.spells) (sym more) (c.in_ok-take_spell.ensures (take c.loop-i.i c.args.spells.now) c.loop-i.invariant.earlier);
    }

pub returns : goal.returns
returns c = each_whole (SpellsPairOnce c.args.index.now.apis c.args.index.now.fields) c.args.spells.now c.loop-i.i (omega arith) c.loop-i.invariant.before
