use Rattle.std.proofs.Common.{rules, arith, ◌≡◌, ◌+◌, ◌↔◌, List, [], ◌∷◌, ◌++◌, take, sym, ap, subst, ◌∙◌, IsTrue}
use Rattle.std.proofs.lemmas.List.{take_more}
use Rattle.fields.specs.declared.field.Spell.{Spell}
use Rattle.schemas.specs.SpellRules.{HasOwnPath}
use Rattle.listing.specs.Keys.{version_of_spell}
use Rattle.listing.specs.Listing.{IsListing}
use Rattle.schemas.proofs.PlaceLemmas.{each_more, each_whole, first_broken}
use Rattle.field_rules.proofs.on_spellings.first_met_path.Goals as goal

pub returns-then-not-has_own_path : goal.returns-then-not-has_own_path
returns-then-not-has_own_path c =
    let told : IsTrue c.has_own_path.result ↔ HasOwnPath (take c.loop-i.i c.args.spells.now) c.index-spells-i.result = c.has_own_path.ensures (take c.loop-i.i c.args.spells.now) c.loop-i.invariant.earlier in
    first_broken (HasOwnPath) c.args.spells.now c.loop-i.i c.index-spells-i.result c.loop-i-test.true c.index-spells-i.is c.loop-i.invariant.before (search rules)

pub loop-i-preserved : goal.loop-i-preserved
loop-i-preserved c =
    let told : IsTrue c.has_own_path.result ↔ HasOwnPath (take c.loop-i.i c.args.spells.now) c.index-spells-i.result = c.has_own_path.ensures (take c.loop-i.i c.args.spells.now) c.loop-i.invariant.earlier in
    let here : HasOwnPath (take c.loop-i.i c.args.spells.now) c.index-spells-i.result = told.0 (search rules) in
    let more : take (c.loop-i.i + 1) c.args.spells.now ≡ take c.loop-i.i c.args.spells.now ++ c.index-spells-i.result ∷ [] =
    take_more c.args.spells.now c.loop-i.i c.index-spells-i.result c.loop-i-test.true ∙ ap (λ (x : Spell). take c.loop-i.i c.args.spells.now ++ x ∷ []) (sym c.index-spells-i.is) in
    record {
      before = each_more (HasOwnPath) c.args.spells.now c.loop-i.i c.index-spells-i.result c.loop-i-test.true c.index-spells-i.is c.loop-i.invariant.before here;
      earlier = subst (λ (l : List Spell). IsListing version_of_spell l c.take_spell.new.spells) (sym more) (c.in_ok-take_spell.ensures (take c.loop-i.i c.args.spells.now) c.loop-i.invariant.earlier);
    }

pub returns : goal.returns
returns c = each_whole (HasOwnPath) c.args.spells.now c.loop-i.i (omega arith) c.loop-i.invariant.before
