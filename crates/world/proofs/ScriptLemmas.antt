-- The events of a lawful script are lawful.
use Rattle.std.proofs.Common.{◌≡◌, ⊎_elim, ℕ, ◌+◌, ◌≤◌, ◌<◌, false, cond, List, [], ◌∷◌, ◌++◌, length, get_or, suc, zero, refl, sym, ◌∙◌, ap, subst, arith, append_assoc}
use Rattle.std.specs.Prelude.{Contains}
use Rattle.std.proofs.lemmas.List.Elements.{Contains-append_left, Contains-append_cases, Contains-push}
use Rattle.std.proofs.lemmas.List.Sums.{sum_by-append}
use Rattle.scripts.specs.Lawful.{opens, closes, opened, closed, MayFollow, IsLawful as IsLawfulScript}
use Rattle.scripts.specs.Weights.{weight_of_all}
use Rattle.scripts.specs.declared.script.ScriptEvent.{ScriptEvent}
use Rattle.scripts.specs.declared.script.ScriptEvent.TheVariants.{Open, Piece, Close}
use Rattle.world.specs.declared.place.Place.{Place}
use Rattle.world.specs.Rules.{Past, nothing_taken, IsOpen, AreInTurn, IsLawful}
use Rattle.world.specs.Tapes.{told_from, told, calls_for, IsKept}
use Rattle.world.proofs.StepLemmas.{ahead_start, inside_at}

-- what was taken is what these events of a script tell
record TellsBefore (before : List ScriptEvent) (past : Past) : Type 0 where
  opened_ : past.opened ≡ opened before
  closed_ : length past.closed ≡ closed before
  each : (c : ℕ) → Contains past.closed c → Contains before (Close c)
  goes : past.ended ≡ false

opened_push : (before : List ScriptEvent) (event : ScriptEvent) → opened (before ++ event ∷ []) ≡ opened before + opened (event ∷ [])
opened_push before event = sum_by-append (λ x. cond (opens x) 1 0) before (event ∷ [])

closed_push : (before : List ScriptEvent) (event : ScriptEvent) → closed (before ++ event ∷ []) ≡ closed before + closed (event ∷ [])
closed_push before event = sum_by-append (λ x. cond (closes x) 1 0) before (event ∷ [])

tells_open : (before : List ScriptEvent) (past : Past) → TellsBefore before past → TellsBefore (before ++ Open ∷ []) (record past { opened = past.opened + 1 })
tells_open before past h = record {
  opened_ = omega (arith, h.opened_, opened_push before Open);
  closed_ = omega (arith, h.closed_, closed_push before Open);
  each = λ c is. Contains-append_left before (Open ∷ []) (Close c) (h.each c is);
  goes = h.goes;
}

tells_piece : (before : List ScriptEvent) (past : Past) (c : ℕ) (bytes : List ℕ) → TellsBefore before past → TellsBefore (before ++ Piece c bytes ∷ []) past
tells_piece before past c bytes h = record {
  opened_ = omega (arith, h.opened_, opened_push before (Piece c bytes));
  closed_ = omega (arith, h.closed_, closed_push before (Piece c bytes));
  each = λ d is. Contains-append_left before (Piece c bytes ∷ []) (Close d) (h.each d is);
  goes = h.goes;
}

at_one : (c d k : ℕ) → k < length (c ∷ []) → get_or (c ∷ []) k d ≡ d → c ≡ d
at_one c d zero lt e = e
at_one c d (suc k) lt e = absurd (omega (arith, lt))

only : (c d : ℕ) → Contains (c ∷ []) d → c ≡ d
only c d h = at_one c d h.0 h.1 h.2

tells_close : (before : List ScriptEvent) (past : Past) (c : ℕ) → TellsBefore before past → TellsBefore (before ++ Close c ∷ []) (record past { closed = c ∷ past.closed })
tells_close before past c h = record {
  opened_ = omega (arith, h.opened_, opened_push before (Close c));
  closed_ = omega (arith, h.closed_, closed_push before (Close c));
  each = λ d is. ⊎_elim
      (λ (here : Contains (c ∷ []) d). subst (λ (x : ℕ). Contains (before ++ Close c ∷ []) (Close x)) (only c d here) (Contains-push before (Close c)))
      (λ (there : Contains past.closed d). Contains-append_left before (Close c ∷ []) (Close d) (h.each d there))
      (Contains-append_cases (c ∷ []) past.closed d is);
  goes = h.goes;
}

open_told : (before : List ScriptEvent) (past : Past) (c : ℕ) → TellsBefore before past → (c < opened before) × ¬ Contains before (Close c) → IsOpen past c
open_told before past c h is = (omega (arith, is.0, h.opened_), λ there. is.1 (h.each c there))

in_turn : (before after : List ScriptEvent) (past : Past) → TellsBefore before past
    → ((b : List ScriptEvent) (e : ScriptEvent) (a : List ScriptEvent) → before ++ after ≡ b ++ e ∷ a → MayFollow b e)
    → AreInTurn past (told_from past.opened after)
in_turn before [] past h may = (h.goes, tt, tt)
in_turn before (Open ∷ after) past h may =
    let here : MayFollow before Open = may before Open after refl in (
      h.goes,
      (refl, omega (arith, here.0, h.opened_, h.closed_)),
      in_turn (before ++ Open ∷ []) after (record past { opened = past.opened + 1 }) (tells_open before past h) (λ b e a is. may b e a (sym (append_assoc before (Open ∷ []) after) ∙ is)),
    )
in_turn before (Piece c bytes ∷ after) past h may =
    let here : MayFollow before (Piece c bytes) = may before (Piece c bytes) after refl in (
      h.goes,
      (open_told before past c h here.0, here.1),
      in_turn (before ++ Piece c bytes ∷ []) after past (tells_piece before past c bytes h) (λ b e a is. may b e a (sym (append_assoc before (Piece c bytes ∷ []) after) ∙ is)),
    )
in_turn before (Close c ∷ after) past h may =
    let here : MayFollow before (Close c) = may before (Close c) after refl in (
      h.goes,
      open_told before past c h here,
      in_turn (before ++ Close c ∷ []) after (record past { closed = c ∷ past.closed }) (tells_close before past c h) (λ b e a is. may b e a (sym (append_assoc before (Close c ∷ []) after) ∙ is)),
    )

tells_nothing : TellsBefore [] nothing_taken
tells_nothing = record { opened_ = refl; closed_ = refl; each = λ c h. absurd (omega (arith, h.1)); goes = refl }

lawful_told : (events : List ScriptEvent) → IsLawfulScript events → IsLawful (told events)
lawful_told events lawful = in_turn [] events nothing_taken tells_nothing (λ b e a is. lawful.each b e a is)

calls_told : (n : ℕ) (events : List ScriptEvent) → calls_for (told_from n events) ≡ weight_of_all events
calls_told n [] = refl
calls_told n (Open ∷ events) = ap (λ k. 1 + k) (calls_told (n + 1) events)
calls_told n (Piece c bytes ∷ events) = ap (λ k. length bytes + k) (calls_told n events)
calls_told n (Close c ∷ events) = ap (λ k. 1 + k) (calls_told n events)

abbrev first_place : Place
first_place = record { index = 0; offset = 0; opened = 0 }

-- a tape of which nothing was taken
pub kept_first : (events : List ScriptEvent) (noted : List ℕ) (room : ℕ) → IsLawfulScript events → weight_of_all events ≤ room → noted ≡ []
    → IsKept events noted room first_place false
kept_first events noted room lawful fits fresh = subst (λ (l : List ℕ). IsKept events l room first_place false) (sym fresh) (record {
  script = lawful;
  counts = record { within = omega arith; counted = refl; inside = inside_at events 0 lawful };
  here = sym (ahead_start 0 events);
  lawful = lawful_told events lawful;
  room = omega (arith, calls_told 0 events, fits);
  counted = refl;
  at_end = λ e. cc;
  end_taken = λ e. cc;
})
