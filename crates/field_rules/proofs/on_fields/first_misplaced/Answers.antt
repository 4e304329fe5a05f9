use Rattle.std.proofs.Common.{rules, arith, ◌≡◌, ◌+◌, ◌↔◌, List, [], ◌∷◌, ◌++◌, take, sym, ap, subst, ◌∙◌, IsTrue}
use Rattle.std.proofs.lemmas.List.{take_more}
use Rattle.fields.specs.declared.field.Field.{Field}
use Rattle.schemas.specs.FieldRules.{BelongsToResource}
use Rattle.listing.specs.Keys.{resource_of_field}
use Rattle.listing.specs.Listing.{IsListing}
use Rattle.schemas.specs.Rules.{first_of}
use Rattle.schemas.proofs.PlaceLemmas.{each_more, each_whole, first_broken}
use Rattle.field_rules.proofs.on_fields.first_misplaced.Goals as goal

pub returns-then-not-belongs : goal.returns-then-not-belongs
returns-then-not-belongs c =
    let told : IsTrue c.belongs.result ↔ BelongsToResource (first_of c.args.index.now) c.args.index.now.apis (take c.loop-i.i c.args.fields.now) c.index-fields-i.result = c.belongs.ensures (take c.loop-i.i c.args.fields.now) c.loop-i.invariant.earlier in
    first_broken (BelongsToResource (first_of c.args.index.now) c.args.index.now.apis) c.args.fields.now c.loop-i.i c.index-fields-i.result c.loop-i-test.true c.index-fields-i.is c.loop-i.invariant.before (search rules)

pub loop-i-preserved : goal.loop-i-preserved
loop-i-preserved c =
    let told : IsTrue c.belongs.result ↔ BelongsToResource (first_of c.args.index.now) c.args.index.now.apis (take c.loop-i.i c.args.fields.now) c.index-fields-i.result = c.belongs.ensures (take c.loop-i.i c.args.fields.now) c.loop-i.invariant.earlier in
    let here : BelongsToResource (first_of c.args.index.now) c.args.index.now.apis (take c.loop-i.i c.args.fields.now) c.index-fields-i.result = told.0 (search rules) in
    let more : take (c.loop-i.i + 1) c.args.fields.now ≡ take c.loop-i.i c.args.fields.now ++ c.index-fields-i.result ∷ [] =
    take_more c.args.fields.now c.loop-i.i c.index-fields-i.result c.loop-i-test.true ∙ ap (λ (x : Field). take c.loop-i.i c.args.fields.now ++ x ∷ []) (sym c.index-fields-i.is) in
    record {
      before = each_more (BelongsToResource (first_of c.args.index.now) c.args.index.now.apis) c.args.fields.now c.loop-i.i c.index-fields-i.result c.loop-i-test.true c.index-fields-i.is c.loop-i.invariant.before here;
      earlier = subst (λ (l : List Field). IsListing resource_of_field l c.take_field.new.fields) (sym more) (c.in_ok-take_field.ensures (take c.loop-i.i c.args.fields.now) c.loop-i.invariant.earlier);
    }

pub returns : goal.returns
returns c = each_whole (BelongsToResource (first_of c.args.index.now) c.args.index.now.apis) c.args.fields.now c.loop-i.i (omega arith) c.loop-i.invariant.before
