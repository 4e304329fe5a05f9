use Rattle.std.proofs.Common.{◌≡◌, true, false, get_or, sym, ◌∙◌, subst}
use Rattle.std.proofs.lemmas.List.{get_or_default}
use Rattle.basis.specs.First.{IsFirst}
use Rattle.basis.proofs.FirstLemmas.{first_at}
use Rattle.serde_json.specs.View.{view}
use Rattle.request_body.specs.Members.{FitsMember}
use Rattle.request_body.specs.Places.{place_seen}
use Rattle.request_body.specs.declared.member.Member.{Member}
use Rattle.request_body.specs.declared.member.Member.TheVariants.{Version}
use Rattle.request_body.proofs.TestLemmas.{all_more}
use Rattle.request_body.proofs.members.misfit.Goals as goal

pub returns-then-not-fits-clause-some : goal.returns-then-not-fits-clause-some
returns-then-not-fits-clause-some c =
    let Fine = λ (x : Member). FitsMember (place_seen c.args.place) (view c.args.tree.now) x in
    let Faulty = λ (x : Member). ¬ FitsMember (place_seen c.args.place) (view c.args.tree.now) x in
    let members = c.members_of-member-items.result.now in
    let i = c.loop-member.member-index in
    let x = get_or members i Version in
    let misfit : Faulty x = λ fits. (let both : true ≡ false = sym (c.fits.ensures.1 fits) ∙ c.if-not-fits.true in cc) in
    subst (λ xs. IsFirst Fine Faulty xs x) c.members_of-member-items.ensures
    (first_at Fine Faulty members i x c.loop-member-test.true (get_or_default members i Version x c.loop-member-test.true) c.loop-member.invariant misfit)

pub loop-member-preserved : goal.loop-member-preserved
loop-member-preserved c =
    let members = c.members_of-member-items.result.now in
    let i = c.loop-member.member-index in
    let x = get_or members i Version in
    all_more (λ (x : Member). FitsMember (place_seen c.args.place) (view c.args.tree.now) x) members i x c.loop-member-test.true
    (get_or_default members i Version x c.loop-member-test.true) c.loop-member.invariant (c.fits.ensures.0 c.if-not-fits.false)
