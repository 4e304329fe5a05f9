-- A session behind the opening of its store.
use Rattle.std.proofs.Common.{◌≡◌, ◌⊎◌, inl, inr, ⊎_elim, ℕ, ◌+◌, ◌≤◌, ◌<◌, List, [], ◌∷◌, ◌++◌, All, Result, Ok, Err, refl, sym, ◌∙◌, ap, subst, arith}
use Rattle.std.proofs.lemmas.Bool.{cases_lt}
use Rattle.std.specs.Prelude.{IfOk}
use Rattle.disk.proofs.ImageLemmas.{image_now}
use Rattle.disk.specs.Beside.{Beside, Sent}
use Rattle.disk.specs.Images.{Each, Images, Pending}
use Rattle.disk.specs.Moments.{Moments}
use Rattle.disk.specs.declared.file.File.{File}
use Rattle.object_journal.specs.Standing.{chosen}
use Rattle.object_store.specs.Records.{RecoversTo}
use Rattle.object_store.specs.Stores.{KeepsRecords}
use Rattle.served_steps.specs.Steps.{Exchange}
use Rattle.session_course.proofs.SendLemmas.{answered_none}
use Rattle.session_course.proofs.ServerLemmas.{after_none}
use Rattle.session_course.specs.Courses.{LeavesFound}
use Rattle.session_course.specs.Sends.{exchanges}
use Rattle.session_course.specs.Servers.{IsAfterOrNext, Server}
use Rattle.session_ends.specs.Ends.{Serves}
use Rattle.session_ends.specs.declared.fault.SessionFault.{SessionFault}
use Rattle.session_ends.specs.declared.served.Served.{Served}
use Rattle.storage_version.specs.Kept.{AreKept}
use Rattle.store_session.specs.Ends.{IsSession, IsStoreEnd}
use Rattle.store_session.specs.Steps.{ServesAs}
use Rattle.store_session.specs.declared.fault.StoreFault.{StoreFault}
use Rattle.store_session.specs.declared.fault.StoreFault.TheVariants as fault
use Rattle.stored_state.specs.Both.{StandForBoth}

module _ (s : Server) (stand : StandForBoth s.back s.machine.view s.items s.revision s.state) (own : AreKept s.back.versions s.machine.view.versions s.items s.state s.items s.revision) where
  -- before anything was answered, what gives the records of the start leaves the state of the start
  found_before : (xs : List Exchange) (sends : List Sent) (t at : ℕ) (images : Images) → t < at → All (λ x. at ≤ x.at) sends → RecoversTo (images chosen) s.items s.revision → LeavesFound s xs sends t images
  found_before xs sends t at images before since recovers = (
    s.state,
    subst (λ (n : ℕ). IsAfterOrNext s xs n s.state) (sym (answered_none t at sends before since)) (inl (after_none s xs)),
    record { records = s.items; revision = s.revision; recovers = recovers; stand = stand; kept = own },
  )

  module _ {W : Type 0} (clock : W → ℕ) (may_leave : W → ℕ → Images → Type 0) (held : W → Images) (pending : W → File → Pending) (beside : W → Beside) (old mid new : W)
      (recovered : RecoversTo (held old chosen) s.items s.revision) (opening : Moments clock may_leave old mid (λ _ images. KeepsRecords (held old chosen) (images chosen))) (begun : clock old < clock mid)
      (present : (images : Images) → may_leave old (clock old) images → Each (pending old) images) (after : Server) where
    session_of : (result : Result Served SessionFault) → Serves clock may_leave beside s after mid new result → IfOk result (λ served. served.revision ≡ after.state.revision)
        → IsSession clock may_leave held pending beside s.machine s.back old new result
    session_of result k revision_is = record {
      items = s.items;
      revision = s.revision;
      recovered = recovered;
      state = s.state;
      stand = stand;
      turns = k.turns;
      sent = k.sent;
      last = after.state;
      steps = k.steps;
      further = k.further;
      begun = k.begun;
      ends = k.ends;
      revision_is = revision_is;
      leaves = record {
        later = omega (arith, opening.later, k.leaves.later);
        kept = λ t images past.
            let both = k.leaves.kept t images (omega (arith, opening.later, past)) in
            let rest = opening.kept t images past in
            (λ x. rest.0 (both.0 x), λ x. both.1 (rest.1 x));
        added = λ t images above to now. ⊎_elim
            (λ (before : t < clock mid). found_before (exchanges (k.turns ++ k.further)) (beside new).sends t (clock mid) images before k.since
            (opening.added t images above (omega (arith, before)) ((k.leaves.kept t images (omega (arith, before))).0 now) s.items s.revision recovered))
            (λ (from : clock mid ≤ t). k.leaves.holds t images from to now)
            (cases_lt t (clock mid));
      };
      rested = λ still images now.
          found_before (exchanges (k.turns ++ k.further)) (beside new).sends (clock old) (clock mid) images begun k.since
          (subst (λ (bytes : List ℕ). RecoversTo bytes s.items s.revision) (sym (image_now (held old) (pending old) chosen images still (present images now))) recovered);
    }

    -- by the answer that stands for the session's own
    pub end_of : (result : Result Served StoreFault) → ServesAs clock may_leave beside s after mid new result → IfOk result (λ served. served.revision ≡ after.state.revision)
        → IsStoreEnd clock may_leave held pending beside s.machine s.back old new result
    end_of (Ok served) k revision_is = session_of (Ok served) k revision_is
    end_of (Err fault.Disk) k revision_is = inr (session_of _ k tt)
    end_of (Err fault.Front) k revision_is = session_of _ k tt
    end_of (Err fault.Spent) k revision_is = session_of _ k tt
    end_of (Err fault.Memory) k revision_is = inr (session_of _ k tt)
    end_of (Err (fault.NotAStore file at)) k revision_is = absurd k
    end_of (Err (fault.Undecodable key version minor)) k revision_is = absurd k
