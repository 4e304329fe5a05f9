use Rattle.std.proofs.Common.{◌≡◌, length, refl, subst, arith, Some, Less, Equal, Greater, nat_cmp}
use Rattle.std.specs.Cmp.Lexicographic.{slice_cmp}
use Rattle.std.specs.List.{slice_get}
use Rattle.std.proofs.lemmas.List.Elements.{All-more}
use Rattle.std.proofs.lemmas.Map.Lookups.{exact_bytes}
use Rattle.std.proofs.lemmas.Option.{slice_get_read}
use Rattle.fields.specs.Order.{IsBelow}
use Rattle.fields.specs.declared.map.FieldPair.{FieldPair}
use Rattle.fields.proofs.MapLemmas.{flip}
use Rattle.fields.proofs.map.place_of.Goals as goal

pub returns-in-Equal : goal.returns-in-Equal
returns-in-Equal c =
    let is : slice_cmp nat_cmp c.index-pairs-i.result.id c.args.id.now ≡ Equal = cc in
    record {
      pair = c.index-pairs-i.result;
      there = slice_get_read c.args.pairs.now (length c.args.pairs.now) c.loop-i.i c.index-pairs-i.result refl (omega arith) c.index-pairs-i.is;
      named = exact_bytes c.index-pairs-i.result.id c.args.id.now is;
      before = c.loop-i.invariant;
    }

pub returns-in-Greater : goal.returns-in-Greater
returns-in-Greater c =
    let is : slice_cmp nat_cmp c.index-pairs-i.result.id c.args.id.now ≡ Greater = cc in
    let there : slice_get c.args.pairs.now c.loop-i.i ≡ Some c.index-pairs-i.result = slice_get_read c.args.pairs.now (length c.args.pairs.now) c.loop-i.i c.index-pairs-i.result refl (omega arith) c.index-pairs-i.is in
    record {
      within = omega arith;
      before = c.loop-i.invariant;
      next = λ p here. let same : c.index-pairs-i.result ≡ p = cc in subst (λ (x : FieldPair). IsBelow c.args.id.now x.id) same (flip c.index-pairs-i.result.id c.args.id.now is);
    }

pub loop-i-preserved : goal.loop-i-preserved
loop-i-preserved c =
    let is : slice_cmp nat_cmp c.index-pairs-i.result.id c.args.id.now ≡ Less = cc in
    All-more (λ p. IsBelow p.id c.args.id.now) c.args.pairs.now c.loop-i.i c.index-pairs-i.result (omega arith) c.loop-i.invariant (rw (← c.index-pairs-i.is) is)
