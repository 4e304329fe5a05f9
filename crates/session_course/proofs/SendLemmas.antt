-- How many sends had returned by a moment, and the sends of turns.
use Rattle.std.proofs.Common.{◌≡◌, ℕ, ◌+◌, ◌<◌, ◌≤◌, List, Bool, true, false, [], ◌∷◌, ◌++◌, length, map, All, cond, refl, sym, ◌∙◌, ap, arith}
use Rattle.std.specs.Prelude.{nat_le}
use Rattle.std.proofs.lemmas.Bool.{le-leb, lt-leb}
use Rattle.std.proofs.lemmas.List.{length-map, map-append}
use Rattle.std.proofs.lemmas.List.Elements.{All-head, All-tail}
use Rattle.std.proofs.lemmas.List.Sums.{sum_by-append, sum_by-cons}
use Rattle.disk.specs.Beside.{Sent}
use Rattle.session_turns.specs.Turns.{Turn}
use Rattle.session_course.specs.Sends.{AreSent, answered, exchange_of, exchanges, reply_of, reply_sent}

counts : (t : ℕ) (s : Sent) (sends : List Sent) → answered t (s ∷ sends) ≡ cond (nat_le s.at t) 1 0 + answered t sends
counts t s sends = sum_by-cons (λ (x : Sent). cond (nat_le x.at t) 1 0) s sends

none_more : (b : Bool) (n : ℕ) → b ≡ false → n ≡ 0 → cond b 1 0 + n ≡ 0
none_more true n h e = let absent : true ≡ false = h in cc
none_more false n h e = omega (arith, e)

one_more : (b : Bool) (n m : ℕ) → b ≡ true → n ≡ m → cond b 1 0 + n ≡ m + 1
one_more true n m h e = omega (arith, e)
one_more false n m h e = let absent : false ≡ true = h in cc

-- before the moment of the first send none had returned
pub answered_none : (t now : ℕ) (sends : List Sent) → t < now → All (λ s. now ≤ s.at) sends → answered t sends ≡ 0
answered_none t now [] before since = refl
answered_none t now (s ∷ sends) before since =
    let first : now ≤ s.at = All-head (λ (x : Sent). now ≤ x.at) s sends since in
    let later = answered_none t now sends before (All-tail (λ (x : Sent). now ≤ x.at) s sends since) in
    counts t s sends ∙ none_more (nat_le s.at t) (answered t sends) (lt-leb s.at t (omega (arith, first, before))) later

-- from the moment of the last send on all had returned
pub answered_all : (t now : ℕ) (sends : List Sent) → now ≤ t → All (λ s. s.at ≤ now) sends → answered t sends ≡ length sends
answered_all t now [] behind until = refl
answered_all t now (s ∷ sends) behind until =
    let first : s.at ≤ now = All-head (λ (x : Sent). x.at ≤ now) s sends until in
    let later = answered_all t now sends behind (All-tail (λ (x : Sent). x.at ≤ now) s sends until) in
    let step : answered t (s ∷ sends) ≡ length sends + 1 = counts t s sends ∙ one_more (nat_le s.at t) (answered t sends) (length sends) (le-leb s.at t (omega (arith, first, behind))) later in
    grind (arith, step)

pub answered_join : (t : ℕ) (xs ys : List Sent) → answered t (xs ++ ys) ≡ answered t xs + answered t ys
answered_join t xs ys = sum_by-append (λ (x : Sent). cond (nat_le x.at t) 1 0) xs ys

pub sent_length : (turns : List Turn) (sends : List Sent) → AreSent turns sends → length sends ≡ length turns
sent_length turns sends sent = sym (length-map sends reply_sent) ∙ (ap length sent ∙ length-map turns reply_of)

pub sent_join : (xs ys : List Turn) (first second : List Sent) → AreSent xs first → AreSent ys second → AreSent (xs ++ ys) (first ++ second)
sent_join xs ys first second h k =
    map-append reply_sent first second ∙ ((ap (λ l. l ++ map reply_sent second) h ∙ ap (λ l. map reply_of xs ++ l) k) ∙ sym (map-append reply_of xs ys))

pub exchanges_join : (xs ys : List Turn) → exchanges (xs ++ ys) ≡ exchanges xs ++ exchanges ys
exchanges_join xs ys = map-append exchange_of xs ys

pub exchanges_length : (turns : List Turn) → length (exchanges turns) ≡ length turns
exchanges_length turns = length-map turns exchange_of
