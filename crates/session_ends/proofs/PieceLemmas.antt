-- The items of a piece, one further, and the turns that they have.
use Rattle.std.proofs.Common.{◌≢◌, ◌⊎◌, ⊎_elim, ℕ, ◌+◌, ◌≤◌, ◌<◌, List, [], ◌∷◌, ◌++◌, Some, refl, sym, ◌∙◌, subst, append_assoc, arith}
use Rattle.std.proofs.lemmas.List.{append-nil}
use Rattle.conn_mux.specs.Held.{Held, Appends, KeepsOthers, Takes}
use Rattle.conn_mux.specs.Items.{item_of}
use Rattle.conn_mux.specs.Orders.{Streams}
use Rattle.conn_mux.specs.declared.incoming.Incoming.{Incoming}
use Rattle.disk.specs.Beside.{Piece}
use Rattle.http_front.specs.Items.{Item}
use Rattle.session_ends.specs.Laws.{GivesFirst, GivesTurns}
use Rattle.session_ends.specs.Pieces.{AreFresh, GaveAll, GaveItems, GaveLast}
use Rattle.session_turns.proofs.CaughtLemmas.{amid_begins, amid_drop, amid_ends, amid_takes}
use Rattle.session_turns.proofs.TurnLemmas.{behind_ended, behind_going, piece_cut, piece_first, piece_whole, some_ended}
use Rattle.session_turns.specs.Caught.{AreCaughtUp, IsAmid}
use Rattle.session_turns.specs.Turns.{Turn, AreOf, AreTurnsOf, Position, behind, items_in}

-- ---- items that a mux gave

pub gave_none : (held : Held) (c : ℕ) → GaveItems held c [] held
gave_none held c = record {
  amid = λ streams bytes before amid.
      subst (λ (items : List Item). IsAmid streams c bytes items held) (sym (append-nil before)) amid;
  others = λ other apart. refl;
}

pub gave_more : (old mid new : Held) (c : ℕ) (items : List Item) (taken : Incoming) → GaveItems old c items mid → Takes mid c (Some taken) new → GaveItems old c (items ++ item_of taken ∷ []) new
gave_more old mid new c items taken gave takes = record {
  amid = λ streams bytes before amid.
      subst (λ (all : List Item). IsAmid streams c bytes all new) (append_assoc before items (item_of taken ∷ []))
      (amid_takes streams c bytes (before ++ items) taken mid new (gave.amid streams bytes before amid) takes);
  others = λ other apart. takes.others other apart ∙ gave.others other apart;
}

-- ---- the turns of a piece

-- amid the piece, behind the items
amid_gave : (p : Position) (c : ℕ) (bytes : List ℕ) (items : List Item) (old mid given : Held) → AreCaughtUp p.streams old → Appends old c bytes mid → GaveItems mid c items given → IsAmid p.streams c bytes items given
amid_gave p c bytes items old mid given caught appends gave =
    gave.amid p.streams bytes [] (amid_begins p.streams c bytes old mid caught appends)

all_going : (p : Position) (c : ℕ) (bytes : List ℕ) (turns : List Turn) (old mid new : Held) → AreCaughtUp p.streams old → Appends old c bytes mid → AreOf c (p.seen + 1) turns → GaveAll mid c turns new
    → AreTurnsOf p (Piece c bytes) turns × AreCaughtUp (behind p (Piece c bytes) turns).streams new
all_going p c bytes turns old mid new caught appends of all =
    let given : Held = all.1.0 in
    let amid = amid_gave p c bytes (items_in turns) old mid given caught appends all.1.1 in
    let ends = amid_ends p.streams c bytes (items_in turns) given new amid all.1.2 in (
      piece_whole p c bytes turns of all.0 ends.0,
      subst (λ (streams : Streams). AreCaughtUp streams new) (sym (behind_going p c bytes turns all.0)) ends.1,
    )

all_ended : (p : Position) (c : ℕ) (bytes : List ℕ) (turns : List Turn) (old mid new : Held) → AreCaughtUp p.streams old → Appends old c bytes mid → AreOf c (p.seen + 1) turns → GaveLast mid c turns new
    → AreTurnsOf p (Piece c bytes) turns × AreCaughtUp (behind p (Piece c bytes) turns).streams new
all_ended p c bytes turns old mid new caught appends of last =
    let given : Held = last.1.0 in
    let amid = amid_gave p c bytes (items_in turns) old mid given caught appends last.1.1 in (
      piece_cut p c bytes turns given of last.0 amid,
      subst (λ (streams : Streams). AreCaughtUp streams new) (sym (behind_ended p c bytes turns (some_ended turns last.0)))
          (amid_drop p.streams c bytes (items_in turns) given new amid last.1.2),
    )

pub turns_of_all : GivesTurns
turns_of_all p c bytes turns old mid new caught appends h = ⊎_elim
    (λ (all : GaveAll mid c turns new). all_going p c bytes turns old mid new caught appends h.0 all)
    (λ (last : GaveLast mid c turns new). all_ended p c bytes turns old mid new caught appends h.0 last)
    h.1

pub turns_of_some : GivesFirst
turns_of_some p c bytes turns old mid caught appends h =
    piece_first p c bytes turns h.2.0 h.0 h.1 (amid_gave p c bytes (items_in turns) old mid h.2.0 caught appends h.2.1)

-- ---- connections that aren't open yet

-- a call on a connection before them leaves them so
pub fresh_others : (opened c : ℕ) (old new : Held) → c < opened → AreFresh opened old → KeepsOthers old c new → AreFresh opened new
fresh_others opened c old new before fresh others = λ d from.
    let apart : d ≢ c = λ same. omega (arith, before, from, same) in
    others d apart ∙ fresh d from

pub fresh_more : (opened now : ℕ) (held : Held) → opened ≤ now → AreFresh opened held → AreFresh now held
fresh_more opened now held later fresh = λ c from. fresh c (omega (arith, later, from))

pub fresh_nothing : (opened : ℕ) → AreFresh opened []
fresh_nothing opened = λ c from. refl
