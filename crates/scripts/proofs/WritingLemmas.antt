-- A line writes one event.
use Rattle.std.proofs.Common.{◌≡◌, ◌⊎◌, inl, inr, ℕ, ◌<◌, ◌^◌, List, ◌++◌, Option, Some, None, get_or, refl, sym, ◌∙◌, ap, ap₂, subst, arith, decimal}
use Rattle.std.specs.Prelude.{codes, IfSome, IfNone}
use Rattle.std.proofs.lemmas.List.{append_cancel_left}
use Rattle.std.proofs.lemmas.Fmt.{decimal_injective}
use Rattle.serde_json.specs.Data.{string}
use Rattle.serde_json.specs.Read.{read}
use Rattle.scripts.specs.declared.script.ScriptEvent.{ScriptEvent}
use Rattle.scripts.specs.declared.script.ScriptEvent.TheVariants.{Open, Piece, Close}
use Rattle.scripts.specs.Writing.{IsJsonString, IsHex, numbered, WritesText, WritesHex, WritesClose, Writes}
use Rattle.scripts.proofs.HexLemmas.{hex_once}
use Rattle.scripts.proofs.SpaceLemmas.{numbered_once}

first_of : (line word rest : List ℕ) (n : ℕ) → line ≡ word ++ rest → get_or (word ++ rest) 0 0 ≡ n → get_or line 0 0 ≡ n
first_of line word rest n e is = ap (λ l. get_or l 0 0) e ∙ is

open_first : (line : List ℕ) → line ≡ codes "open" → get_or line 0 0 ≡ 111
open_first line e = ap (λ l. get_or l 0 0) e

close_first : (line : List ℕ) (c : ℕ) → WritesClose line c → get_or line 0 0 ≡ 99
close_first line c h = first_of line (codes "close ") (decimal c) 99 h.whole refl

text_first : (line : List ℕ) (c : ℕ) (bytes : List ℕ) → WritesText line c bytes → get_or line 0 0 ≡ 112
text_first line c bytes h = first_of line (codes "piece ") (numbered c h.json) 112 h.whole refl

hex_first : (line : List ℕ) (c : ℕ) (bytes : List ℕ) → WritesHex line c bytes → get_or line 0 0 ≡ 98
hex_first line c bytes h = first_of line (codes "bytes ") (numbered c h.hex) 98 h.whole refl

piece_first : (line : List ℕ) (c : ℕ) (bytes : List ℕ) → WritesText line c bytes ⊎ WritesHex line c bytes → (get_or line 0 0 ≡ 112) ⊎ (get_or line 0 0 ≡ 98)
piece_first line c bytes (inl h) = inl (text_first line c bytes h)
piece_first line c bytes (inr h) = inr (hex_first line c bytes h)

two_firsts : (line : List ℕ) (m : ℕ) → get_or line 0 0 ≡ m → (m ≡ 111) ⊎ (m ≡ 99) → (get_or line 0 0 ≡ 112) ⊎ (get_or line 0 0 ≡ 98) → ⊥
two_firsts line m is (inl e) (inl f) = omega arith
two_firsts line m is (inl e) (inr f) = omega arith
two_firsts line m is (inr e) (inl f) = omega arith
two_firsts line m is (inr e) (inr f) = omega arith

json_once : (j i a b : List ℕ) → j ≡ i → IsJsonString j a → IsJsonString i b → a ≡ b
json_once j i a b same h k = let both : Some (string a) ≡ Some (string b) = sym h.reads ∙ ap read same ∙ k.reads in cc

texts_once : (line : List ℕ) (c d : ℕ) (a b : List ℕ) → WritesText line c a → WritesText line d b → Piece c a ≡ Piece d b
texts_once line c d a b h k =
    let rests = append_cancel_left (codes "piece ") (numbered c h.json) (numbered d k.json) (sym h.whole ∙ k.whole) in
    let once = numbered_once c d h.json k.json h.small k.small rests in
    ap₂ Piece once.0 (json_once h.json k.json a b once.1 h.writes k.writes)

hexes_once : (line : List ℕ) (c d : ℕ) (a b : List ℕ) → WritesHex line c a → WritesHex line d b → Piece c a ≡ Piece d b
hexes_once line c d a b h k =
    let rests = append_cancel_left (codes "bytes ") (numbered c h.hex) (numbered d k.hex) (sym h.whole ∙ k.whole) in
    let once = numbered_once c d h.hex k.hex h.small k.small rests in
    ap₂ Piece once.0 (hex_once k.hex a b (subst (λ (hex : List ℕ). IsHex hex a) once.1 h.writes) k.writes)

text_no_hex : (line : List ℕ) (c d : ℕ) (a b : List ℕ) → WritesText line c a → WritesHex line d b → ⊥
text_no_hex line c d a b h k = let one : 112 ≡ 98 = sym (text_first line c a h) ∙ hex_first line d b k in omega (arith, one)

pieces_once : (line : List ℕ) (c d : ℕ) (a b : List ℕ) → WritesText line c a ⊎ WritesHex line c a → WritesText line d b ⊎ WritesHex line d b → Piece c a ≡ Piece d b
pieces_once line c d a b (inl h) (inl k) = texts_once line c d a b h k
pieces_once line c d a b (inr h) (inr k) = hexes_once line c d a b h k
pieces_once line c d a b (inl h) (inr k) = absurd (text_no_hex line c d a b h k)
pieces_once line c d a b (inr h) (inl k) = absurd (text_no_hex line d c b a k h)

closes_once : (line : List ℕ) (c d : ℕ) → WritesClose line c → WritesClose line d → Close c ≡ Close d
closes_once line c d h k =
    let digits = append_cancel_left (codes "close ") (decimal c) (decimal d) (sym h.whole ∙ k.whole) in
    let small : c < 2 ^ 32 = h.small in
    let low : d < 2 ^ 32 = k.small in
    ap Close (decimal_injective c d (omega arith) (omega arith) digits)

open_no_close : (line : List ℕ) (c : ℕ) → line ≡ codes "open" → WritesClose line c → ⊥
open_no_close line c h k = let one : 111 ≡ 99 = sym (open_first line h) ∙ close_first line c k in omega (arith, one)

pub writes_once : (line : List ℕ) (a b : ScriptEvent) → Writes line a → Writes line b → a ≡ b
writes_once line Open Open h k = refl
writes_once line Open (Piece d b) h k = absurd (two_firsts line 111 (open_first line h) (inl refl) (piece_first line d b k))
writes_once line Open (Close d) h k = absurd (open_no_close line d h k)
writes_once line (Piece c a) Open h k = absurd (two_firsts line 111 (open_first line k) (inl refl) (piece_first line c a h))
writes_once line (Piece c a) (Piece d b) h k = pieces_once line c d a b h k
writes_once line (Piece c a) (Close d) h k = absurd (two_firsts line 99 (close_first line d k) (inr refl) (piece_first line c a h))
writes_once line (Close c) Open h k = absurd (open_no_close line c k h)
writes_once line (Close c) (Piece d b) h k = absurd (two_firsts line 99 (close_first line c h) (inr refl) (piece_first line d b k))
writes_once line (Close c) (Close d) h k = closes_once line c d h k

-- ---- lines that write no piece

-- what holds where there is nothing
pub none_holds : {A : Type 0} (o : Option A) (P : Type 0) → o ≡ None → IfNone o P → P
none_holds None P is h = h
none_holds (Some x) P is h = absurd cc

pub no_hex : (line : List ℕ) (c : ℕ) (hex : List ℕ) → c < 2 ^ 32 → line ≡ codes "bytes " ++ numbered c hex → ((bytes : List ℕ) → IsHex hex bytes → ⊥) → (d : ℕ) (bytes : List ℕ) → WritesHex line d bytes → ⊥
no_hex line c hex small whole none d bytes h =
    let rests = append_cancel_left (codes "bytes ") (numbered d h.hex) (numbered c hex) (sym h.whole ∙ whole) in
    let once = numbered_once d c h.hex hex h.small small rests in
    none bytes (subst (λ (digits : List ℕ). IsHex digits bytes) once.1 h.writes)

pub no_text : (line : List ℕ) (c : ℕ) (json : List ℕ) → c < 2 ^ 32 → line ≡ codes "piece " ++ numbered c json → ((bytes : List ℕ) → IsJsonString json bytes → ⊥) → (d : ℕ) (bytes : List ℕ) → WritesText line d bytes → ⊥
no_text line c json small whole none d bytes h =
    let rests = append_cancel_left (codes "piece ") (numbered d h.json) (numbered c json) (sym h.whole ∙ whole) in
    let once = numbered_once d c h.json json h.small small rests in
    none bytes (subst (λ (text : List ℕ). IsJsonString text bytes) once.1 h.writes)

pub neither : (line : List ℕ) → ((c : ℕ) (bytes : List ℕ) → WritesText line c bytes → ⊥) → ((c : ℕ) (bytes : List ℕ) → WritesHex line c bytes → ⊥) → (c : ℕ) (bytes : List ℕ) → WritesText line c bytes ⊎ WritesHex line c bytes → ⊥
neither line no_texts no_hexes c bytes (inl h) = no_texts c bytes h
neither line no_texts no_hexes c bytes (inr h) = no_hexes c bytes h

-- what holds of the one that is there
pub some_holds : {A : Type 0} (o : Option A) (x : A) (P : A → Type 0) → o ≡ Some x → IfSome o P → P x
some_holds None x P is h = absurd cc
some_holds (Some y) x P is h = let same : y ≡ x = cc in subst P same h
