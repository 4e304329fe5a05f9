-- What an opening leaves, from its first sync on.
use Rattle.std.proofs.Common.{◌≡◌, inl, inr, ⊎_elim, ℕ, ◌-◌, ◌^◌, ◌≤◌, ◌<◌, List, [], ◌∷◌, ◌++◌, length, sym, ap, subst, ◌∙◌, arith}
use Rattle.std.specs.Prelude.{false, true, Result, Ok, Err, IsErr, IsErrOf}
use Rattle.std.proofs.lemmas.Bool.{cases_lt}
use Rattle.disk.specs.Counted.{counted}
use Rattle.disk.specs.declared.file.File.{File}
use Rattle.disk.specs.declared.file.File.TheVariants.{Left}
use Rattle.disk.specs.Images.{Pending, Images, Each, IsStill, OthersWithin, end_of_lengths}
use Rattle.disk.specs.Moments.{Moments, Ticks, Unchanged}
use Rattle.disk.specs.ImageLaws.{within_image}
use Rattle.disk.proofs.ImageLemmas.{image_now, goes_on, weaker}
use Rattle.object_journal.specs.declared.entry.Entry.{Entry}
use Rattle.object_journal.specs.declared.opening.OpenFault.{OpenFault}
use Rattle.object_journal.specs.declared.opening.OpenFault.TheVariants.{NotAStore, Disk, Memory}
use Rattle.object_journal.specs.Frames.{closed_gate}
use Rattle.object_journal.specs.Journal.{IsJournal, IsGated, AreLawful, last_revision, header_of, records_of}
use Rattle.object_journal.specs.Standing.{chosen, MeansSame, LeavesMeaning, IsSynced, IsMended}
use Rattle.object_journal.proofs.Readings.{long_header}
use Rattle.object_journal.proofs.AppendLemmas.{gate_inside, not_open}
use Rattle.object_journal.proofs.MendLemmas.{no_entries}

same_bytes : (b c : List ℕ) → c ≡ b → MeansSame b c
same_bytes b c is = record { means = λ base es j. subst (λ (t : List ℕ). IsJournal t base es) (sym is) j; refused = λ place r. is }

-- a call whose result is good raises the clock
pub rises : {T E : Type 0} (before now : ℕ) (r : Result T E) (v : T) → r ≡ Ok v → Ticks before now r → before < now
rises before now r v is ticks = ⊎_elim
    (λ (less : before < 2 ^ 64 - 1). omega (arith, less, ticks.by_one))
    (λ (most : 2 ^ 64 - 1 ≤ before). absurd (
    let last : before ≡ 2 ^ 64 - 1 = omega (arith, most, ticks.later, ticks.by_one) in
    let e : false ≡ true = subst IsErr is (ticks.ends last) in cc))
    (cases_lt before (2 ^ 64 - 1))

-- what a still file may leave
pub leaves_still : (held : Images) (pending : File → Pending) (i : Images) → IsStill held pending chosen → Each pending i → LeavesMeaning held pending i
leaves_still held pending i still each = record { file = same_bytes (held chosen) (i chosen) (image_now held pending chosen i still each); long = λ more. image_now held pending chosen i still each; others = λ f other. each f }

leaves_from : (held_old held_mid : Images) (pending_old pending_mid : File → Pending) (i : Images) → held_mid ≡ held_old → OthersWithin chosen pending_old pending_mid → LeavesMeaning held_mid pending_mid i → LeavesMeaning held_old pending_old i
leaves_from held_old held_mid pending_old pending_mid i same within l = record {
  file = subst (λ (h : Images). MeansSame (h chosen) (i chosen)) same l.file;
  long = subst (λ (h : Images). 17 < length (h chosen) → i chosen ≡ h chosen) same l.long;
  others = λ f other. within_image _ _ (i f) (within f other) (l.others f other);
}

module _ {D : Type 0} (clock : D → ℕ) (may_leave : D → ℕ → Images → Type 0) (held : D → Images) (pending : D → File → Pending) where
  -- calls that only read
  pub read_moments : (old new : D) (P : ℕ → Images → Type 0) → Unchanged clock may_leave held pending old new → clock new ≡ clock old → Moments clock may_leave old new P
  read_moments old new P same still = record {
    later = omega (arith, still);
    kept = λ t i le. same.kept t i le;
    added = λ t i above le now. absurd (omega (arith, above, le, still));
  }

  pub read_on_moments : (old mid new : D) → Unchanged clock may_leave held pending old mid → clock mid ≡ clock old
      → Moments clock may_leave mid new (λ _. LeavesMeaning (held mid) (pending mid)) → Moments clock may_leave old new (λ _. LeavesMeaning (held old) (pending old))
  read_on_moments old mid new same still m = goes_on clock may_leave old mid new _ (read_moments old mid _ same still)
      (subst (λ (s : Images × (File → Pending)). Moments clock may_leave mid new (λ _. LeavesMeaning s.0 s.1)) (λ i. (same.held i, same.pending i)) m)

  pub opens : (old mid new : D) → clock old < clock mid → clock mid ≡ counted (clock old) → held mid ≡ held old → IsStill (held mid) (pending mid) chosen → OthersWithin chosen (pending old) (pending mid)
      → ((i : Images) → may_leave mid (clock mid) i → Each (pending mid) i)
      → Moments clock may_leave old mid (λ _. Each (pending old)) → Moments clock may_leave mid new (λ _. LeavesMeaning (held mid) (pending mid)) → IsSynced clock may_leave held pending old new
  opens old mid new rose by_one same still within present first second =
      let back : (i : Images) → LeavesMeaning (held mid) (pending mid) i → LeavesMeaning (held old) (pending old) i = λ i l. leaves_from (held old) (held mid) (pending old) (pending mid) i same within l in
      record {
        begun = omega (arith, rose, second.later);
        time = goes_on clock may_leave old mid new _
            (record {
              later = first.later;
              kept = first.kept;
              added = λ t i above le now.
                  let is : t ≡ clock mid = omega (arith, above, le, by_one) in
                  back i (leaves_still (held mid) (pending mid) i still (present i (subst (λ (n : ℕ). may_leave mid n i) is now)));
            })
            (weaker clock may_leave mid new _ _ (λ t i above le l. back i l) second);
      }

  pub still_first : (old new : D) → IsStill (held old) (pending old) chosen → Moments clock may_leave old new (λ _. Each (pending old)) → Moments clock may_leave old new (λ _. LeavesMeaning (held old) (pending old))
  still_first old new still m = weaker clock may_leave old new (λ _. Each (pending old)) _ (λ t i above le each. leaves_still (held old) (pending old) i still each) m

  pub opens_still : (old mid new : D) → IsStill (held old) (pending old) chosen → held mid ≡ held old → OthersWithin chosen (pending old) (pending mid)
      → Moments clock may_leave old mid (λ _. Each (pending old)) → Moments clock may_leave mid new (λ _. LeavesMeaning (held mid) (pending mid)) → Moments clock may_leave old new (λ _. LeavesMeaning (held old) (pending old))
  opens_still old mid new still same within first second = goes_on clock may_leave old mid new _ (still_first old mid still first)
      (weaker clock may_leave mid new _ _ (λ t i above le l. leaves_from (held old) (held mid) (pending old) (pending mid) i same within l) second)

-- ---- what was read

pub end_short : (b : List ℕ) (base : ℕ) (es : List Entry) (place : ℕ) → IsJournal b base es → place ≡ length (header_of base ++ records_of es) → length b < end_of_lengths → place < end_of_lengths
end_short b base es place (inl j) is short = omega (arith, is ∙ ap (λ (xs : List Entry). length (header_of base ++ records_of xs)) j.2)
end_short b base es place (inr (inl j)) is short = omega (arith, is ∙ ap (λ (xs : List Entry). length (header_of base ++ records_of xs)) j.1)
end_short b base es place (inr (inr j)) is short = omega (arith, gate_inside b base es place (record { gated = j; place_is = is }), short)

long_gated : (b : List ℕ) (base : ℕ) (es : List Entry) → 17 < length b → IsJournal b base es → IsGated b base es
long_gated b base es long (inl j) = absurd (omega (arith, j.0, long))
long_gated b base es long (inr (inl j)) = absurd (omega (arith, long_header b base j.0, long))
long_gated b base es long (inr (inr j)) = j

-- what a mended file holds
pub mended_gated : (b c : List ℕ) (base : ℕ) (es : List Entry) → IsJournal b base es → base ≤ last_revision → AreLawful base es → IsMended b base c → IsGated c base es
mended_gated b c base es j fits lawful m = ⊎_elim
    (λ (long : 17 < length b). subst (λ (t : List ℕ). IsGated t base es) (sym (m.long long)) (long_gated b base es long j))
    (λ (short : length b ≤ 17). record {
      gate = closed_gate;
      behind = [];
      parts = m.short short ∙ ap (λ (xs : List Entry). header_of base ++ (records_of xs ++ closed_gate ∷ [])) (sym (no_entries b base es short j));
      base_fits = fits;
      lawful = lawful;
      closed = not_open;
    })
    (cases_lt 17 (length b))

abbrev fault_in : {T : Type 0} → Result T OpenFault → OpenFault
fault_in (Ok v) = Memory
fault_in (Err fault) = fault

abbrev file_in : OpenFault → File
file_in (NotAStore file at) = file
file_in Disk = Left
file_in Memory = Left

abbrev place_in : OpenFault → ℕ
place_in (NotAStore file at) = at
place_in Disk = 0
place_in Memory = 0

pub one_refusal : {T : Type 0} (a file_place : ℕ) (file : File) (r : Result T OpenFault) → r ≡ Err (NotAStore chosen a) → r ≡ Err (NotAStore file file_place) → (file ≡ chosen) × (file_place ≡ a)
one_refusal a file_place file r p q =
    let e : fault_in r ≡ NotAStore chosen a = ap fault_in p in
    let f : fault_in r ≡ NotAStore file file_place = ap fault_in q in
    (ap file_in (sym f ∙ e), ap place_in (sym f ∙ e))

-- a fault of the disk tells of no place
pub not_refused : {T : Type 0} (r : Result T OpenFault) (file : File) (at : ℕ) → r ≡ Err Disk → IsErrOf r (NotAStore file at) → ⊥
not_refused r file at bad is = let e : Disk ≡ NotAStore file at = ap fault_in (sym bad ∙ is) in cc
