-- What only grows while a front is called.
use Rattle.std.proofs.Common.{◌≡◌, List, [], ◌∷◌, ◌++◌, refl, sym, ◌∙◌, ap, subst, arith, append_assoc}
use Rattle.std.specs.Prelude.{Contains}
use Rattle.std.proofs.lemmas.List.{append-nil}
use Rattle.std.proofs.lemmas.List.Elements.{Contains-push, Contains-append_left}
use Rattle.disk.specs.Beside.{Sent, Beside}
use Rattle.world.specs.Events.{part_of}
use Rattle.world.specs.Growth.{GrowsByNothing, GrowsInTurn, GrowsByTaking, GrowsByFailing, GrowsByRoom, GrowsBySending, ShutsAtLast, StaysShut}

same_behind : {A : Type 0} (old new : List A) → new ≡ old → (later : List A) × (new ≡ old ++ later)
same_behind old new e = ([], e ∙ sym (append-nil old))

more_behind : {A : Type 0} (old mid new : List A) → (later : List A) × (mid ≡ old ++ later) → (later : List A) × (new ≡ mid ++ later)
    → (later : List A) × (new ≡ old ++ later)
more_behind old mid new first second =
    (first.0 ++ second.0, second.1 ∙ ap (λ l. l ++ second.0) first.1 ∙ append_assoc old first.0 second.0)

pub grows_by_nothing : GrowsByNothing
grows_by_nothing b = record {
  sends = same_behind b.sends b.sends refl;
  taken = same_behind b.taken b.taken refl;
  opened = omega arith;
  faults = omega arith;
}

pub grows_in_turn : GrowsInTurn
grows_in_turn old mid new first second = record {
  sends = more_behind old.sends mid.sends new.sends first.sends second.sends;
  taken = more_behind old.taken mid.taken new.taken first.taken second.taken;
  opened = omega (arith, first.opened, second.opened);
  faults = omega (arith, first.faults, second.faults);
}

pub grows_by_taking : GrowsByTaking
grows_by_taking room event old new takes leaves opened faults = record {
  sends = same_behind old.sends new.sends leaves.sends;
  taken = (part_of room old.coming, takes.taken);
  opened = opened;
  faults = faults;
}

pub grows_by_failing : GrowsByFailing
grows_by_failing old new events leaves faults = record {
  sends = same_behind old.sends new.sends leaves.sends;
  taken = same_behind old.taken new.taken events.taken;
  opened = omega (arith, events.opened);
  faults = faults;
}

pub grows_by_room : GrowsByRoom
grows_by_room old new is = record {
  sends = same_behind old.sends new.sends (ap (λ (b : Beside). b.sends) is);
  taken = same_behind old.taken new.taken (ap (λ (b : Beside). b.taken) is);
  opened = omega (arith, ap (λ (b : Beside). b.opened) is);
  faults = omega (arith, ap (λ (b : Beside). b.front_faults) is);
}

pub grows_by_sending : GrowsBySending
grows_by_sending sent old new sends events faults = record {
  sends = (sent ∷ [], sends);
  taken = same_behind old.taken new.taken events.taken;
  opened = omega (arith, events.opened);
  faults = faults;
}

pub shuts_at_last : ShutsAtLast
shuts_at_last sent old new sends ends =
    (sent, subst (λ (l : List Sent). Contains l sent) (sym sends) (Contains-push old.sends sent), refl, ends)

pub stays_shut : StaysShut
stays_shut c old new grows shut =
    (shut.0, subst (λ (l : List Sent). Contains l shut.0) (sym grows.sends.1) (Contains-append_left old.sends grows.sends.0 shut.0 shut.1), shut.2, shut.3)
