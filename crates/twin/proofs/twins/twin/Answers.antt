use Rattle.std.proofs.Common.{ℕ, List, sym, subst}
use Rattle.history_fold.specs.Folded.{folded}
use Rattle.schemas.specs.Cutoff.{cutoff}
use Rattle.twin.specs.Runs.{IsRunOf}
use Rattle.twin.specs.declared.count.TwinCount.{TwinCount}
use Rattle.twin.proofs.twins.twin.Goals as goal

pub returns-clause-numbers : goal.returns-clause-numbers
returns-clause-numbers c =
    let h = c.args.accepted.now in
    let e = c.in_ok-releases.releases.e in
    let m = c.in_ok-releases.releases.m in
    let same = c.is_same_count.ensures.0 c.if-not-is_same_count.false in
    let requests = sym same.0 in
    let bytes = sym same.1 in
    let revision = sym same.2 in
    record {
      e = e;
      m = m;
      accepts = c.in_ok-releases.ensures.accepts;
      cut = subst (λ (p : List ℕ × List ℕ). IsRunOf (cutoff h e) e m p.0 p.1 c.args.seed c.args.size c.in_ok-own.own.count)
          (λ i. (c.bytes_of-features.ensures i, c.bytes_of-runtime.ensures i)) c.in_ok-own.ensures;
      folds = subst (λ (p : List ℕ × List ℕ × TwinCount). IsRunOf (folded h) e m p.0 p.1 c.args.seed c.args.size p.2)
          (λ i. (c.bytes_of-features.ensures i, c.bytes_of-runtime.ensures i, record { requests = requests i; bytes = bytes i; revision = revision i }))
          c.in_ok-other.ensures;
    }
