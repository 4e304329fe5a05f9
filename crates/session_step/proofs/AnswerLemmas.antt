-- The course of an answer: sent, only begun, or not begun.
use Rattle.std.proofs.Common.{◌≡◌, ℕ, ◌≤◌, Bool, true, false, not, ◌&&◌, ◌||◌, [], ◌∷◌, ◌++◌, length, refl, sym, ap, subst, ◌∙◌}
use Rattle.std.specs.Prelude.{Result, Ok, Err, IsErrAnd, IsErrOf}
use Rattle.api_requests.specs.Finishing.{RestoresNow, StandsOnDisk}
use Rattle.api_requests.specs.Serving.{Serving}
use Rattle.api_requests.specs.declared.fault.HandleFault.{HandleFault}
use Rattle.disk.specs.Beside.{Beside, Sent}
use Rattle.disk.specs.Counted.{counted}
use Rattle.disk.specs.Images.{Pending, Images, Each}
use Rattle.disk.specs.Moments.{Unchanged}
use Rattle.disk.specs.declared.file.File.{File}
use Rattle.http_front.specs.Items.{Item, is_final}
use Rattle.session_course.proofs.CourseLemmas.{course_answer, course_idle, course_tried}
use Rattle.session_course.specs.Courses.{Course, IsPresent}
use Rattle.session_course.specs.Servers.{Server}
use Rattle.session_step.specs.Carried.{IsCarriedOut, IsSafe, IsTried, MakesRoom}
use Rattle.session_step.specs.Taken.{IsTurnOf, server_of}
use Rattle.session_step.specs.declared.outgoing.Outgoing.{Outgoing}
use Rattle.session_turns.specs.Turns.{Turn, ends_connection}

-- ---- a fault that is handed on

abbrev err_part : {T E : Type 0} → E → Result T E → E
err_part d (Ok x) = d
err_part d (Err e) = e

same_fault : (r : Result Bool HandleFault) (x e : HandleFault) → IsErrAnd r (λ y. y ≡ x) → IsErrOf r e → x ≡ e
same_fault (Ok b) x e h k = absurd h
same_fault (Err y) x e h k = sym h ∙ ap (err_part y) k

pub raised : (r : Result Bool HandleFault) (x e : HandleFault) → IsErrAnd r (λ y. y ≡ x) → IsErrOf r e → IsErrOf {T = Outgoing} {E = HandleFault} (Err x) e
raised r x e h k = let same : x ≡ e = same_fault r x e h k in λ i. Err (same i)

pub no_fault : (o : Outgoing) (e : HandleFault) → IsErrOf {T = Outgoing} {E = HandleFault} (Ok o) e → ⊥
no_fault o e h = cc

-- ---- whether the connection goes on

going : (went last : Bool) → (went && not last) ≡ not (last || not went)
going true true = refl
going true false = refl
going false true = refl
going false false = refl

module _ {W : Type 0} (tells : Type 0) (clock : W → ℕ) (may_leave : W → ℕ → Images → Type 0) (held : W → Images) (pending : W → File → Pending) (beside : W → Beside)
    (images_now : (w : W) (images : Images) → tells → may_leave w (clock w) images → Each (pending w) images) where
  pub present_of : (s : Serving) (w : W) → RestoresNow tells (held w) (pending w) s → StandsOnDisk tells (held w) (pending w) s → tells → IsPresent clock may_leave (server_of s) w
  present_of s w restores stands told = λ images left. restores stands told images (images_now w images told left)

  present_behind : (s : Serving) (first second : W) → RestoresNow tells (held first) (pending first) s → StandsOnDisk tells (held first) (pending first) s → tells
      → Unchanged clock may_leave held pending first second → IsPresent clock may_leave (server_of s) second
  present_behind s first second restores stands told same = λ images left.
      restores stands told images (subst (λ (p : File → Pending). Each p images) same.pending (images_now second images told left))

  -- ---- no turn

  pub course_memory : (old new : Server) (from to : W) → IsPresent clock may_leave old from → new ≡ old → clock to ≡ clock from → MakesRoom (beside from) (beside to)
      → Unchanged clock may_leave held pending from to → Course clock may_leave beside old new from to [] []
  course_memory old new from to present same time room idle =
      subst (λ (s : Server). Course clock may_leave beside old s from to [] []) (sym same)
      (course_idle clock may_leave beside old from to present time (ap (λ (b : Beside). b.sends) room) idle.kept)

  -- ---- a turn that was only begun

  pub course_disk : (old new : Server) (item : Item) (c : ℕ) (from to : W) → IsPresent clock may_leave old from → new ≡ old → MakesRoom (beside from) (beside to)
      → IsTried clock may_leave old item from to
      → (t : Turn) × IsTurnOf c item (beside from) t × Course clock may_leave beside old new from to [] (t ∷ [])
  course_disk old new item c from to present same room tried =
      let t : Turn = record { c = c; seen = length (beside from).taken; item = item; reply = tried.reply; went = false } in (
        t,
        record { of_c = refl; seen = refl; of_item = refl },
        subst (λ (s : Server). Course clock may_leave beside old s from to [] (t ∷ [])) (sym same)
            (course_tried clock may_leave beside old from to t tried.next present tried.safe tried.answered (ap (λ (b : Beside). b.sends) room)),
      )

  -- ---- a turn

  pub course_sent : (old new : Serving) (item : Item) (c : ℕ) (o : Outgoing) (went goes_on : Bool) (first second third : W) → goes_on ≡ (went && not o.last)
      → IsPresent clock may_leave (server_of old) first → IsCarriedOut old new item o → IsSafe clock may_leave (server_of old) new.state first second
      → MakesRoom (beside first) (beside second)
      → (beside third).sends ≡ (beside second).sends ++ record {
        at = clock third;
        seen = length (beside second).taken;
        c = c;
        bytes = o.bytes;
        last = o.last;
        went = went;
      } ∷ []
      → clock third ≡ counted (clock second) → clock second ≤ clock third → Unchanged clock may_leave held pending second third
      → RestoresNow tells (held second) (pending second) new → StandsOnDisk tells (held second) (pending second) new → tells
      → (t : Turn) × IsTurnOf c item (beside first) t × (goes_on ≡ not (ends_connection t))
      × Course clock may_leave beside (server_of old) (server_of new) first third (t ∷ []) []
  course_sent old new item c o went goes_on first second third goes present done safe room sends ticks later same restores stands told =
      let t : Turn = record { c = c; seen = length (beside first).taken; item = item; reply = done.reply; went = went } in
      let s : Sent = record { at = clock third; seen = length (beside second).taken; c = c; bytes = o.bytes; last = o.last; went = went } in
      let seen : length (beside second).taken ≡ length (beside first).taken = ap (λ (b : Beside). length b.taken) room in
      let final : o.last ≡ is_final item = done.last ∙ done.final in (
        t,
        record { of_c = refl; seen = refl; of_item = refl },
        goes ∙ (going went o.last ∙ ap (λ (last : Bool). not (last || not went)) final),
        course_answer clock may_leave beside (server_of old) (server_of new) first second third t s present safe done.answered done.continues
            (ap (λ (b : Beside). b.sends) room) ticks later same.kept sends refl
            (λ i. record { seen = seen i; c = c; bytes = done.bytes i; last = done.last i; went = went })
            (present_behind new second third restores stands told same),
      )
