-- What steps keep.
use Rattle.std.proofs.Common.{◌≡◌, ◌≤◌, List, [], ◌∷◌, Contains, refl, sym, ap, subst, arith, ⊎_elim, lit<}
use Rattle.http_front.specs.Items.{Item, taken_request, refused}
use Rattle.http_front.specs.Replies.{reply_codes, IsBadReply}
use Rattle.http_front.specs.declared.reply.Reply.{Reply}
use Rattle.http_front.specs.declared.request.Request.{Request}
use Rattle.key_order.proofs.OrderLemmas.{none_there, head_or_tail}
use Rattle.object_pages.specs.Fitting.{FitVersions}
use Rattle.object_state.specs.State.{State}
use Rattle.plain_machine.proofs.CodeLemmas.{known_code}
use Rattle.plain_machine.proofs.FittingLemmas.{goes_on_fitting}
use Rattle.plain_machine.proofs.LawLemmas.{changes_one_key}
use Rattle.plain_machine.specs.Steps.{Step}
use Rattle.plain_machine.specs.declared.machine.Machine.{Machine}
use Rattle.release_view.specs.Kept.{IsKept}
use Rattle.release_view.specs.Laws.{FindsEach}
use Rattle.served_steps.specs.Laws.{KeepWhatHolds}
use Rattle.served_steps.specs.Steps.{Exchange, IsAnswered, Steps}

-- ---- one step

same_revision : (a b : State) → a ≡ b → b.revision ≤ a.revision
same_revision a b e = let same : a.revision ≡ b.revision = ap (λ (z : State). z.revision) e in omega arith

step_later : (m : Machine) (s after : State) (q : Request) (reply : Reply) → Step m s q reply after → s.revision ≤ after.revision
step_later m s after q reply step = ⊎_elim
    (λ same. same_revision after s same)
    (λ other. let next = other.1.next in omega (arith, next))
    (changes_one_key s m q reply after step)

pub answered_later : (m : Machine) (s after : State) (item : Item) (reply : Reply) → IsAnswered m s item reply after → s.revision ≤ after.revision
answered_later m s after (taken_request q) reply h = step_later m s after q reply h
answered_later m s after refused reply h = same_revision after s h.1

bad_code : (reply : Reply) → IsBadReply reply → Contains reply_codes reply.code
bad_code reply bad = subst (Contains reply_codes) (sym bad.code) (2, lit< tt, refl)

answered_code : (m : Machine) (s after : State) (item : Item) (reply : Reply) → IsAnswered m s item reply after → Contains reply_codes reply.code
answered_code m s after (taken_request q) reply h = (known_code m s q).replied reply after h
answered_code m s after refused reply h = bad_code reply h.0

module _ (m : Machine) (finds : FindsEach m.view.versions) (kept : IsKept m.view) where
  answered_fitting : (s after : State) (item : Item) (reply : Reply) → FitVersions m.view.versions s.objects → IsAnswered m s item reply after → FitVersions m.view.versions after.objects
  answered_fitting s after (taken_request q) reply fit h = goes_on_fitting s q m finds kept reply after fit h
  answered_fitting s after refused reply fit h = subst (λ (z : State). FitVersions m.view.versions z.objects) (sym h.1) fit

  -- ---- all steps

  later : (s : State) (xs : List Exchange) (after : State) → Steps m s xs after → s.revision ≤ after.revision
  later s [] after h = same_revision after s h
  later s (x ∷ xs) after h =
      let first = answered_later m s h.0 x.item x.reply h.1 in
      let rest = later h.0 xs after h.2 in
      omega (arith, first, rest)

  fitting : (s : State) (xs : List Exchange) (after : State) → FitVersions m.view.versions s.objects → Steps m s xs after → FitVersions m.view.versions after.objects
  fitting s [] after fit h = subst (λ (z : State). FitVersions m.view.versions z.objects) (sym h) fit
  fitting s (x ∷ xs) after fit h = fitting h.0 xs after (answered_fitting s h.0 x.item x.reply fit h.1) h.2

  codes_known : (s : State) (xs : List Exchange) (after : State) (x : Exchange) → Steps m s xs after → Contains xs x → Contains reply_codes x.reply.code
  codes_known s [] after x h there = absurd (none_there x there)
  codes_known s (y ∷ ys) after x h there = ⊎_elim
      (λ (same : y ≡ x). subst (λ (z : Exchange). Contains reply_codes z.reply.code) same (answered_code m s h.0 y.item y.reply h.1))
      (λ (rest : Contains ys x). codes_known h.0 ys after x h.2 rest)
      (head_or_tail y x ys there)

  pub keep_what_holds : (s : State) → KeepWhatHolds m s
  keep_what_holds s = record {
    later = λ xs after h. later s xs after h;
    fitting = λ xs after fit h. fitting s xs after fit h;
    codes_known = λ xs after x h there. codes_known s xs after x h there;
  }
