-- What is kept of a server over calls.
use Rattle.std.proofs.Common.{◌≡◌, ◌≤◌, ℕ, Result, Ok, Err, IsErrOf, length, refl, ◌∙◌, subst, sym, ap, arith}
use Rattle.api_requests.proofs.RoomLemmas.{stands_through}
use Rattle.api_requests.specs.Finishing.{RestoresNow, StandsOnDisk}
use Rattle.api_requests.proofs.WriteLemmas.{recalls_of}
use Rattle.api_requests.specs.Serving.{IsServing, Serving}
use Rattle.basis.specs.Counts.{Rose}
use Rattle.disk.specs.Beside.{Beside}
use Rattle.disk.specs.Images.{Pending, Images, Each}
use Rattle.disk.specs.declared.file.File.{File}
use Rattle.session.specs.Calls.{IsReady, Keeps}
use Rattle.session_course.proofs.ServerLemmas.{continues_join, continues_self}
use Rattle.session_course.specs.Courses.{IsPresent}
use Rattle.session_step.specs.Taken.{IsMarked, TakesNone, server_of}
use Rattle.stored_state.specs.Both.{AreWithin}
use Rattle.stored_state.specs.Laws.{HoldsWithin}
use Rattle.world.specs.Fronts.{IsAtStart}

pub takes_none_join : (a b d : Beside) → TakesNone a b → TakesNone b d → TakesNone a d
takes_none_join a b d h k = record { opened = k.opened ∙ h.opened; taken = k.taken ∙ h.taken; coming = k.coming ∙ h.coming }

pub takes_none : (a : Beside) → TakesNone a a
takes_none a = record { opened = refl; taken = refl; coming = refl }

-- an answer isn't a fault
pub not_failed : {T E : Type 0} (x : T) (e : E) → IsErrOf {T = T} {E = E} (Ok x) e → ⊥
not_failed x e failed = absurd (let same : Ok x ≡ Err e = failed in cc)

pub not_failed_as : {T E : Type 0} (r : Result T E) (x : T) (e : E) → r ≡ Ok x → IsErrOf {T = T} {E = E} r e → ⊥
not_failed_as r x e is failed = not_failed x e (sym is ∙ failed)

-- it is the same fault in another answer
pub fault_there : {T S E : Type 0} (r : Result T E) (e x : E) → r ≡ Err e → IsErrOf {T = S} {E = E} (Err e) x → IsErrOf {T = T} {E = E} r x
fault_there r e x is failed =
    let same : e ≡ x = cc failed in
    is ∙ ap Err same

pub fault_back : {T S E : Type 0} (r : Result T E) (e x : E) → r ≡ Err e → IsErrOf {T = T} {E = E} r x → IsErrOf {T = S} {E = E} (Err e) x
fault_back r e x is failed =
    let both : Err e ≡ Err x = sym is ∙ failed in
    let same : e ≡ x = cc both in
    ap Err same

module _ {W : Type 0} (faults : W → ℕ) where
  pub keeps_still : (s : Serving) (from to : W) (failed : Type 0) → ¬ failed → faults to ≡ faults from → Keeps faults s s from to failed
  keeps_still s from to failed unfailed same = record {
    continues = continues_self (server_of s);
    ended = λ f. absurd (unfailed f);
    counted = record { later = omega (arith, same); cause = λ f. absurd (unfailed f); fine = λ _. same };
  }

  pub keeps_join : (a b d : Serving) (first second third : W) (none failed : Type 0) → Keeps faults a b first second none → ¬ none → Keeps faults b d second third failed
      → Keeps faults a d first third failed
  keeps_join a b d first second third none failed h unfailed k =
      let same : faults second ≡ faults first = h.counted.fine unfailed in
      let later : faults second ≤ faults third = k.counted.later in
      record {
        continues = continues_join (server_of a) (server_of b) (server_of d) h.continues k.continues;
        ended = k.ended;
        counted = record {
          later = omega (arith, same, later);
          cause = λ f. subst (λ (n : ℕ). Rose n (faults third)) same (k.counted.cause f);
          fine = λ f. k.counted.fine f ∙ same;
        };
      }

  -- the same where it is told by another fact that the disk failed
  pub keeps_as : (a b : Serving) (from to : W) (failed other : Type 0) → (other → failed) → (failed → other) → Keeps faults a b from to failed → Keeps faults a b from to other
  keeps_as a b from to failed other there back k = record {
    continues = k.continues;
    ended = λ f. k.ended (there f);
    counted = record {
      later = k.counted.later;
      cause = λ f. k.counted.cause (there f);
      fine = λ unfailed. k.counted.fine (λ f. unfailed (back f));
    };
  }

  -- a call that answered, after others that did
  pub keeps_on : (a b d : Serving) (first second third : W) (failed other : Type 0) → Keeps faults a b first second ⊥ → Keeps faults b d second third failed → ¬ failed → ¬ other
      → Keeps faults a d first third other
  keeps_on a b d first second third failed other h k unfailed none =
      keeps_as a d first third failed other (λ f. absurd (none f)) (λ f. absurd (unfailed f)) (keeps_join a b d first second third ⊥ failed h (λ f. f) k)

module _ {W : Type 0} (tells : Type 0) (held : W → Images) (pending : W → File → Pending) where
  pub present_of : (clock : W → ℕ) (may_leave : W → ℕ → Images → Type 0) (s : Serving) (w : W) → RestoresNow tells (held w) (pending w) s → StandsOnDisk tells (held w) (pending w) s
      → tells → ((images : Images) → tells → may_leave w (clock w) images → Each (pending w) images) → IsPresent clock may_leave (server_of s) w
  present_of clock may_leave s w restores stands told now = λ images left. restores stands told images (now images told left)

  -- a call that changes nothing on the disk, and sends nothing
  pub ready_still : (beside : W → Beside) (s : Serving) (from to : W) → (tells → held to ≡ held from) → (tells → pending to ≡ pending from) → IsMarked (beside to)
      → (beside to).sends ≡ (beside from).sends → IsReady tells held pending beside s from → IsReady tells held pending beside s to
  ready_still beside s from to same_held same_pending marked sends h = record {
    stands = stands_through tells (held from) (held to) (pending from) (pending to) s s same_held same_pending refl h.stands;
    marked = marked;
    few = λ told. let few = h.few told in omega (arith, few, ap length sends);
  }

-- no record of a server is above its revision
pub within_of : (tells : Type 0) (held : Images) (pending : File → Pending) (s : Serving) → IsServing s → HoldsWithin s.store → StandsOnDisk tells held pending s → AreWithin s.store.items s.state.revision
within_of tells held pending s serves within stands item there =
    let low = within stands.0 (recalls_of tells held pending s.store stands.0 stands.1) item there in
    let at = serves.stand.later.at_revision in
    omega (arith, low, at)

-- the front at its start
pub ready_start : {W : Type 0} (tells : Type 0) (held : W → Images) (pending : W → File → Pending) (beside : W → Beside) (s : Serving) (w : W) → IsAtStart (beside w) → StandsOnDisk tells (held w) (pending w) s
    → IsReady tells held pending beside s w
ready_start tells held pending beside s w start stands = record {
  stands = stands;
  marked = let same = start.unfailed in omega (arith, same);
  few = λ told. omega (arith, ap length start.sends);
}
