use Rattle.std.proofs.Common.{rules, ◌≡◌, ◌++◌, ℕ, Bool, List, [], ◌∷◌, OnOk, Some, cond, subst, ap, ◌∙◌}
use Rattle.basis.specs.NameMap.{value_at, is_same_name}
use Rattle.listing.specs.Listing.{lent, listed_at}
use Rattle.basis.proofs.NameLemmas.{same_name}
use Rattle.listing.proofs.ListingLemmas.{PutAt, listed_in, lent_push, added, kept, grown, on_ok}
use Rattle.listing.proofs.add.Goals as goal

pub returns-in-Ok : goal.returns-in-Ok
returns-in-Ok g c =
    let old = c.args.listing.now in
    let new = c.get_mut.follows.lender c.push.new.self in
    let written = (c.get_mut.follows.holds c.push.new.self).3 (search rules) in
    let put : PutAt old c.args.a.now c.args.b.now c.args.c.now c.push.new.self new = λ (x y z : List ℕ).
    written.0 (record { ref_ptr = (0, 0); now = x }, record { ref_ptr = (0, 0); now = y }, record { ref_ptr = (0, 0); now = z })
    ∙ ap (λ (t : Bool). cond t (Some c.push.new.self) (value_at old x y z)) (same_name c.args.a.now c.args.b.now c.args.c.now x y z) in
    let pushed : lent c.push.new.self.items ≡ listed_at old c.args.a.now c.args.b.now c.args.c.now ++ c.args.entry.now ∷ [] =
    ap lent c.in-Ok.ensures.items ∙ lent_push c.in-Some.items.now.items c.args.entry ∙ ap (λ l. listed_in l ++ c.args.entry.now ∷ []) c.in-Some.ensures.value in
    let puts = added old new c.args.a.now c.args.b.now c.args.c.now c.push.new.self c.args.entry.now put pushed in
    record { puts = puts; grows = λ named entries same listing. grown named entries c.args.entry.now c.args.a.now c.args.b.now c.args.c.now old new puts same listing; err = tt }

pub returns-in-Err-clause-err : goal.returns-in-Err-clause-err
returns-in-Err-clause-err g c =
    let old = c.args.listing.now in
    let new = c.get_mut.follows.lender c.push.new.self in
    let written = (c.get_mut.follows.holds c.push.new.self).3 (search rules) in
    let put : PutAt old c.args.a.now c.args.b.now c.args.c.now c.push.new.self new = λ (x y z : List ℕ).
    written.0 (record { ref_ptr = (0, 0); now = x }, record { ref_ptr = (0, 0); now = y }, record { ref_ptr = (0, 0); now = z })
    ∙ ap (λ (t : Bool). cond t (Some c.push.new.self) (value_at old x y z)) (same_name c.args.a.now c.args.b.now c.args.c.now x y z) in
    kept old new c.args.a.now c.args.b.now c.args.c.now c.push.new.self put (ap lent c.in-Err.ensures.items ∙ ap listed_in c.in-Some.ensures.value)

pub returns-in-Ok-push : goal.returns-in-Ok-push
returns-in-Ok-push g c =
    let old = c.args.listing.now in
    let x = c.args.entry.now in
    let pushed : lent c.push-2.new.self.items ≡ listed_at old c.args.a.now c.args.b.now c.args.c.now ++ x ∷ [] =
    ap lent (c.in-Ok-push.ensures.items ∙ ap (λ l. l ++ c.args.entry ∷ []) c.new-items.ensures.items) ∙ ap (λ l. listed_in l ++ x ∷ []) c.in_default.ensures.value in
    let puts : OnOk c.put.result ((p q r : List ℕ) → listed_at c.put.new.map p q r ≡ cond (is_same_name c.args.a.now c.args.b.now c.args.c.now p q r) (listed_at old p q r ++ x ∷ []) (listed_at old p q r)) =
    on_ok c.put.result (λ put. added old c.put.new.map c.args.a.now c.args.b.now c.args.c.now c.push-2.new.self x (subst (λ m. PutAt m c.args.a.now c.args.b.now c.args.c.now c.push-2.new.self c.put.new.map) c.get_mut.follows.holds-at-none put) pushed) c.put.ensures.ok in
    record { puts = puts; grows = on_ok c.put.result (λ put named entries same listing. grown named entries x c.args.a.now c.args.b.now c.args.c.now old c.put.new.map put same listing) puts; err = search rules }
