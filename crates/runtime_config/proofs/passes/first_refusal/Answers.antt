use Rattle.std.proofs.Common.{◌≡◌, ℕ, List, Option, sym, ap, ◌∙◌, rules}
use Rattle.std.specs.Ordering.{nat_cmp}
use Rattle.std.specs.Cmp.Lexicographic.{slice_cmp}
use Rattle.std.specs.BTreeMap.{BTreeMap, get}
use Rattle.flag_text.specs.Pieces.{FlagPiece}
use Rattle.flag_text.proofs.PassLemmas.{first_at, fine_more, fine_all}
use Rattle.lifecycle.specs.declared.entry.ApiEntry.{ApiEntry}
use Rattle.lifecycle.specs.Tables.{cutoff}
use Rattle.runtime_config.specs.Config.{IsTakenKey}
use Rattle.runtime_config.specs.Standings.{standing, HasStandings}
use Rattle.runtime_config.specs.declared.standing.Standing.{Standing}
use Rattle.runtime_config.proofs.passes.first_refusal.Goals as goal

abbrev Taken : List ApiEntry → ℕ → FlagPiece → Type 0
Taken entries e p = IsTakenKey (cutoff entries e) p.name

found_at : (entries : List ApiEntry) (e : ℕ) (m : BTreeMap (List ℕ) Standing) (name key : List ℕ) (found : Option Standing) → HasStandings (cutoff entries e) e entries m → key ≡ name → found ≡ get (slice_cmp nat_cmp) m key → found ≡ standing (cutoff entries e) e entries name
found_at entries e m name key found has same is = is ∙ ap (get (slice_cmp nat_cmp) m) same ∙ has.at name

pub returns-in-Some-clause-some : goal.returns-in-Some-clause-some
returns-in-Some-clause-some c = λ entries e has.
    let x = c.piece-item.result in
    let at = found_at entries e c.args.known.now x.name c.piece.inside.name.now c.standing_in.result has (ap (λ p. p.name) c.piece.view_is) c.standing_in.ensures in
    first_at (Taken entries e) _ c.args.last.now c.loop-piece.piece-index x _ c.loop-piece-test.true c.piece-item.is (c.loop-piece.invariant entries e has) (c.in-Some.ensures.some entries e at) (sym (ap (λ p. p.place) c.piece.view_is))

pub loop-piece-preserved : goal.loop-piece-preserved
loop-piece-preserved c = λ entries e has.
    let x = c.piece-item.result in
    let at = found_at entries e c.args.known.now x.name c.piece.inside.name.now c.standing_in.result has (ap (λ p. p.name) c.piece.view_is) c.standing_in.ensures in
    fine_more (Taken entries e) c.args.last.now c.loop-piece.piece-index x c.loop-piece-test.true c.piece-item.is (c.loop-piece.invariant entries e has) (c.in_default.ensures.none entries e at)

pub returns-clause-none : goal.returns-clause-none
returns-clause-none c = λ entries e has. fine_all (Taken entries e) c.args.last.now c.loop-piece.piece-index (search rules) (c.loop-piece.invariant entries e has)
