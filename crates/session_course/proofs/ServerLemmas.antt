-- What goes on of a server: the state after some exchanges, the records that are kept, the bytes that restore it.
use Rattle.std.proofs.Common.{◌≡◌, inl, inr, ⊎_elim, ℕ, ◌+◌, ◌≤◌, List, [], ◌∷◌, ◌++◌, length, refl, sym, ◌∙◌, ap, subst, arith}
use Rattle.std.proofs.lemmas.List.{append_assoc, length-append}
use Rattle.object_state.specs.State.{State}
use Rattle.object_store.specs.declared.item.Item.{Item}
use Rattle.plain_machine.specs.declared.machine.Machine.{Machine}
use Rattle.release_view.specs.Views.{Viewed}
use Rattle.served_steps.proofs.JoinLemmas.{are_joined}
use Rattle.served_steps.specs.Steps.{Exchange, IsAnswered, Steps}
use Rattle.storage_version.specs.Kept.{AreKept}
use Rattle.stored_state.specs.Both.{AreWithin, GoOnKept, Restores}
use Rattle.session_course.specs.Servers.{Continues, IsAfter, IsAfterOrNext, IsFound, IsRestored, Server}

-- ---- the state after some exchanges

pub after_none : (s : Server) (xs : List Exchange) → IsAfter s xs 0 s.state
after_none s xs = record { front = []; behind = xs; parts = refl; many = refl; steps = refl }

pub after_one : (s : Server) (x : Exchange) (next : State) → IsAnswered s.machine s.state x.item x.reply next → IsAfter s (x ∷ []) 1 next
after_one s x next h = record { front = x ∷ []; behind = []; parts = refl; many = refl; steps = (next, h, refl) }

pub after_more : (s : Server) (xs ys : List Exchange) (n : ℕ) (state : State) → IsAfter s xs n state → IsAfter s (xs ++ ys) n state
after_more s xs ys n state h = record {
  front = h.front;
  behind = h.behind ++ ys;
  parts = ap (λ l. l ++ ys) h.parts ∙ append_assoc h.front h.behind ys;
  many = h.many;
  steps = h.steps;
}

-- steps of the later server, behind those that lead to it
pub steps_join : (a b : Server) (xs ys : List Exchange) (state : State) → b.machine ≡ a.machine → Steps a.machine a.state xs b.state → Steps b.machine b.state ys state
    → Steps a.machine a.state (xs ++ ys) state
steps_join a b xs ys state same h k =
    (are_joined a.machine a.state).joined xs ys b.state state h (subst (λ (m : Machine). Steps m b.state ys state) same k)

pub after_join : (a b : Server) (xs ys : List Exchange) (n : ℕ) (state : State) → b.machine ≡ a.machine → Steps a.machine a.state xs b.state → IsAfter b ys n state
    → IsAfter a (xs ++ ys) (length xs + n) state
after_join a b xs ys n state same h k = record {
  front = xs ++ k.front;
  behind = k.behind;
  parts = ap (λ l. xs ++ l) k.parts ∙ sym (append_assoc xs k.front k.behind);
  many = length-append xs k.front ∙ ap (λ m. length xs + m) k.many;
  steps = steps_join a b xs k.front state same h k.steps;
}

pub next_more : (s : Server) (xs ys : List Exchange) (n : ℕ) (state : State) → IsAfterOrNext s xs n state → IsAfterOrNext s (xs ++ ys) n state
next_more s xs ys n state h = ⊎_elim
    (λ (k : IsAfter s xs n state). inl (after_more s xs ys n state k))
    (λ (k : IsAfter s xs (n + 1) state). inr (after_more s xs ys (n + 1) state k))
    h

pub next_join : (a b : Server) (xs ys : List Exchange) (n : ℕ) (state : State) → b.machine ≡ a.machine → Steps a.machine a.state xs b.state → IsAfterOrNext b ys n state
    → IsAfterOrNext a (xs ++ ys) (length xs + n) state
next_join a b xs ys n state same h k = ⊎_elim
    (λ (j : IsAfter b ys n state). inl (after_join a b xs ys n state same h j))
    (λ (j : IsAfter b ys (n + 1) state).
    let e : length xs + (n + 1) ≡ (length xs + n) + 1 = omega arith in
    inr (subst (λ (m : ℕ). IsAfter a (xs ++ ys) m state) e (after_join a b xs ys (n + 1) state same h j)))
    k

-- ---- what goes on

-- what goes on to a later state goes on from there
go_on : (back view : Viewed) (old now later : List Item) (r q p : ℕ) (s t u : State) → s.revision ≤ t.revision → GoOnKept back view old r s now q t → GoOnKept back view now q t later p u
    → GoOnKept back view old r s later p u
go_on back view old now later r q p s t u rises h k items within kept =
    k items (λ item there. let least : item.revision ≤ s.revision = within item there in omega (arith, least, rises)) (h items within kept)

pub continues_self : (s : Server) → Continues s s
continues_self s = record {
  machine = refl;
  back = refl;
  later = omega arith;
  kept = λ items within kept. kept;
}

pub continues_join : (a b c : Server) → Continues a b → Continues b c → Continues a c
continues_join a b c h k =
    let by_back = subst (λ (v : Viewed). GoOnKept v b.machine.view b.items b.revision b.state c.items c.revision c.state) h.back k.kept in
    let by_both = subst (λ (m : Machine). GoOnKept a.back m.view b.items b.revision b.state c.items c.revision c.state) h.machine by_back in
    let rises = h.later in
    let rises_on = k.later in
    record {
      machine = k.machine ∙ h.machine;
      back = k.back ∙ h.back;
      later = omega (arith, rises, rises_on);
      kept = go_on a.back a.machine.view a.items b.items c.items a.revision b.revision c.revision a.state b.state c.state h.later h.kept by_both;
    }

-- ---- what bytes restore

pub restored_join : (a b : Server) (bytes : List ℕ) (state : State) → Continues a b → IsRestored b bytes state → IsRestored a bytes state
restored_join a b bytes state h k =
    let by_back = subst (λ (v : Viewed). Restores v b.machine.view b.items b.revision b.state bytes state) h.back k in
    let by_both = subst (λ (m : Machine). Restores a.back m.view b.items b.revision b.state bytes state) h.machine by_back in
    record {
      records = by_both.records;
      at_revision = by_both.at_revision;
      recovers = by_both.recovers;
      stand = by_both.stand;
      kept = go_on a.back a.machine.view a.items b.items by_both.records a.revision b.revision by_both.at_revision a.state b.state state h.later h.kept by_both.kept;
    }

pub restored_found : (s : Server) (bytes : List ℕ) (state : State) → AreWithin s.items s.state.revision → AreKept s.back.versions s.machine.view.versions s.items s.state s.items s.revision
    → IsRestored s bytes state → IsFound s bytes state
restored_found s bytes state within own h = record {
  records = h.records;
  revision = h.at_revision;
  recovers = h.recovers;
  stand = h.stand;
  kept = h.kept s.items within own;
}

-- a server's own records, after what it did
pub kept_at_end : (s new : Server) → AreWithin s.items s.state.revision → AreKept s.back.versions s.machine.view.versions s.items s.state s.items s.revision → Continues s new
    → AreKept s.back.versions s.machine.view.versions s.items new.state new.items new.revision
kept_at_end s new within own h = h.kept s.items within own
