-- A stream has one front: the empty lines that are skipped, and the head behind them.
use Rattle.std.proofs.Common.{◌≡◌, ◌⊎◌, inl, inr, ℕ, ◌+◌, ◌-◌, ◌<◌, ◌≤◌, ◌==◌, Bool, true, false, IsTrue, List, [], ◌∷◌, ◌++◌, length, take, drop, refl, sym, ◌∙◌, ap, subst, arith, append_assoc}
use Rattle.std.specs.Prelude.{◌↔◌}
use Rattle.std.specs.List.{starts_with, ends_with}
use Rattle.std.proofs.lemmas.List.{append-nil, drop-drop, length-append, length-drop, length-take, length-take-le, nil_from_length, take-append-drop}
use Rattle.std.proofs.lemmas.List.Sums.{sum_by-append}
use Rattle.std.proofs.Math.Seq.{take-append_seam, take-append-add}
use Rattle.std.proofs.lemmas.Bool.{false≢true, eq-eqb}
use Rattle.std.proofs.lemmas.Bool.Decides.{Decides-eqb}
use Rattle.std.proofs.lemmas.Slice.Eq.{starts_is, ends_is}
use Rattle.std.proofs.Common.{eqb, cond}
use Rattle.httparse.specs.Grammar.{LineEnd, crlf, lf, print_end, print_blank}
use Rattle.httparse.proofs.ReadLemmas.{blank_more}
use Rattle.http_front.specs.Heads.{BeginsEmptyLine, EndsHead, IsHeadText, IsFront, HasNoHead, IsOfOneHead, IsFirstEnd, IsFrontOf, front_bytes, line_feeds}

-- of two fronts of a list, one is a front of the other
pub fronts : (a b c d : List ℕ) → a ++ b ≡ c ++ d → ((x : List ℕ) × (c ≡ a ++ x) × (b ≡ x ++ d)) ⊎ ((x : List ℕ) × (a ≡ c ++ x) × (d ≡ x ++ b))
fronts [] b c d e = inl (c, refl, e)
fronts (y ∷ a) b [] d e = inr (y ∷ a, refl, sym e)
fronts (y ∷ a) b (z ∷ c) d e =
    let same : y ∷ (a ++ b) ≡ z ∷ (c ++ d) = e in
    let first : z ≡ y = cc in
    let tail : a ++ b ≡ c ++ d = cc in
    elim (fronts a b c d tail) [
      | inl w ↦ inl (w.0, (λ i. first i ∷ w.1 i), w.2)
      | inr w ↦ inr (w.0, (λ i. (sym first) i ∷ w.1 i), w.2)
    ]

-- where neither can go on beyond the other, two fronts are one
pub one_front : (a b c d : List ℕ) → ((x : List ℕ) → c ≡ a ++ x → x ≡ []) → ((x : List ℕ) → a ≡ c ++ x → x ≡ []) → a ++ b ≡ c ++ d → (a ≡ c) × (b ≡ d)
one_front a b c d p q e = elim (fronts a b c d e) [
  | inl w ↦
      let none : w.0 ≡ [] = p w.0 w.1 in
      (sym (w.1 ∙ ap (λ (z : List ℕ). a ++ z) none ∙ append-nil a), w.2 ∙ ap (λ (z : List ℕ). z ++ d) none)
  | inr w ↦
      let none : w.0 ≡ [] = q w.0 w.1 in
      (w.1 ∙ ap (λ (z : List ℕ). c ++ z) none ∙ append-nil c, sym (w.2 ∙ ap (λ (z : List ℕ). z ++ b) none))
]

no_more : (a c x : List ℕ) → length a ≡ length c → c ≡ a ++ x → x ≡ []
no_more a c x n e = nil_from_length x (omega (arith, n, ap length e, length-append a x))

-- fronts of one length are one
pub same_length : (a b c d : List ℕ) → length a ≡ length c → a ++ b ≡ c ++ d → (a ≡ c) × (b ≡ d)
same_length a b c d n e = one_front a b c d (λ x k. no_more a c x n k) (λ x k. no_more c a x (sym n) k) e

heads_differ : (a b : ℕ) (x y : List ℕ) → (a == b) ≡ false → a ∷ x ≡ b ∷ y → ⊥
heads_differ a b x y apart e =
    let same : a ∷ x ≡ b ∷ y = e in
    let first : a ≡ b = cc in
    false≢true (sym apart ∙ eq-eqb a b first)

begins : (end : LineEnd) (ends : List LineEnd) (bytes rest : List ℕ) → bytes ≡ print_blank (end ∷ ends) ++ rest → BeginsEmptyLine bytes
begins end ends bytes rest e = (end, print_blank ends ++ rest, e ∙ append_assoc (print_end end) (print_blank ends) rest)

-- empty lines are skipped in one way
pub skipped_once : (a b : List LineEnd) (s t : List ℕ) → ¬ (BeginsEmptyLine s) → ¬ (BeginsEmptyLine t) → print_blank a ++ s ≡ print_blank b ++ t → (a ≡ b) × (s ≡ t)
skipped_once [] [] s t p q e = (refl, e)
skipped_once [] (end ∷ b) s t p q e = absurd (p (begins end b s t e))
skipped_once (end ∷ a) [] s t p q e = absurd (q (begins end a t s (sym e)))
skipped_once (lf ∷ a) (lf ∷ b) s t p q e =
    let same : 10 ∷ (print_blank a ++ s) ≡ 10 ∷ (print_blank b ++ t) = e in
    let tail : print_blank a ++ s ≡ print_blank b ++ t = cc in
    let later = skipped_once a b s t p q tail in
    ((λ i. lf ∷ later.0 i), later.1)
skipped_once (crlf ∷ a) (crlf ∷ b) s t p q e =
    let same : 13 ∷ (10 ∷ (print_blank a ++ s)) ≡ 13 ∷ (10 ∷ (print_blank b ++ t)) = e in
    let tail : print_blank a ++ s ≡ print_blank b ++ t = cc in
    let later = skipped_once a b s t p q tail in
    ((λ i. crlf ∷ later.0 i), later.1)
skipped_once (lf ∷ a) (crlf ∷ b) s t p q e =
    let same : 10 ∷ (print_blank a ++ s) ≡ 13 ∷ (10 ∷ (print_blank b ++ t)) = e in
    absurd (heads_differ 10 13 (print_blank a ++ s) (10 ∷ (print_blank b ++ t)) refl same)
skipped_once (crlf ∷ a) (lf ∷ b) s t p q e =
    let same : 13 ∷ (10 ∷ (print_blank a ++ s)) ≡ 10 ∷ (print_blank b ++ t) = e in
    absurd (heads_differ 13 10 (10 ∷ (print_blank a ++ s)) (print_blank b ++ t) refl same)

two_bytes : (head lines : List ℕ) (end : LineEnd) → head ≡ lines ++ (10 ∷ print_end end) → 2 ≤ length head
two_bytes head lines lf e = omega (arith, length-append lines (10 ∷ 10 ∷ []), ap length e)
two_bytes head lines crlf e = omega (arith, length-append lines (10 ∷ 13 ∷ 10 ∷ []), ap length e)

pub ends_long : (head : List ℕ) → EndsHead head → 2 ≤ length head
ends_long head h = two_bytes head h.0 h.1 h.2

line_first : (c d : ℕ) (t rest : List ℕ) (end : LineEnd) (more : List ℕ) → c ∷ (d ∷ (t ++ rest)) ≡ print_end end ++ more → BeginsEmptyLine (c ∷ (d ∷ t))
line_first c d t rest lf more e =
    let same : c ∷ (d ∷ (t ++ rest)) ≡ 10 ∷ more = e in
    let first : c ≡ 10 = cc in
    (lf, d ∷ t, (λ i. first i ∷ (d ∷ t)))
line_first c d t rest crlf more e =
    let same : c ∷ (d ∷ (t ++ rest)) ≡ 13 ∷ (10 ∷ more) = e in
    let first : c ≡ 13 = cc in
    let second : d ≡ 10 = cc in
    (crlf, t, (λ i. first i ∷ (second i ∷ t)))

begins_in_head : (head rest : List ℕ) → 2 ≤ length head → BeginsEmptyLine (head ++ rest) → BeginsEmptyLine head
begins_in_head [] rest two b = absurd (omega arith)
begins_in_head (c ∷ []) rest two b = absurd (omega arith)
begins_in_head (c ∷ d ∷ t) rest two b = line_first c d t rest b.0 b.1 b.2

pub not_begun : (head rest : List ℕ) → IsHeadText head → ¬ (BeginsEmptyLine (head ++ rest))
not_begun head rest h = λ b. h.starts (begins_in_head head rest (ends_long head h.ends) b)

pub front_once : (stream : List ℕ) (a b : List LineEnd) (h k r q : List ℕ) → IsFront stream a h r → IsFront stream b k q → (a ≡ b) × (h ≡ k) × (r ≡ q)
front_once stream a b h k r q x y =
    let skip = skipped_once a b (h ++ r) (k ++ q) (not_begun h r x.lawful) (not_begun k q y.lawful) (sym x.whole ∙ y.whole) in
    let same = one_front h r k q (λ z e. y.lawful.first h z e x.lawful.ends) (λ z e. x.lawful.first k z e y.lawful.ends) skip.1 in
    (skip.0, same.0, same.1)

pub front_longer : (stream more : List ℕ) (a : List LineEnd) (h r : List ℕ) → IsFront stream a h r → IsFront (stream ++ more) a h (r ++ more)
front_longer stream more a h r x = record {
  lawful = x.lawful;
  whole = ap (λ (s : List ℕ). s ++ more) x.whole ∙ append_assoc (print_blank a) (h ++ r) more ∙ ap (λ (s : List ℕ). print_blank a ++ s) (append_assoc h r more);
}

-- what is skipped and the head, with a rest
pub front_with : (bytes : List ℕ) (a : List LineEnd) (h r : List ℕ) → IsHeadText h → bytes ≡ front_bytes a h ++ r → IsFront bytes a h r
front_with bytes a h r lawful e = record { lawful = lawful; whole = e ∙ append_assoc (print_blank a) h r }

pub front_whole : (stream : List ℕ) (a : List LineEnd) (h r : List ℕ) → IsFront stream a h r → stream ≡ front_bytes a h ++ r
front_whole stream a h r x = x.whole ∙ sym (append_assoc (print_blank a) h r)

pub line_feeds-append : (a b : List ℕ) → line_feeds (a ++ b) ≡ line_feeds a + line_feeds b
line_feeds-append a b = sum_by-append (λ c. cond (c == 10) 1 0) a b

pub one_head_from_none : (bytes : List ℕ) → HasNoHead bytes → IsOfOneHead bytes
one_head_from_none bytes none = λ a h r x. absurd (none a h r x)

pub one_head_from_front : (bytes : List ℕ) (a : List LineEnd) (h : List ℕ) → IsFront bytes a h [] → IsOfOneHead bytes
one_head_from_front bytes a h x = λ b k r y. sym (front_once bytes a b h k [] r x y).2

-- ---- where they are found

pub no_line : (bytes : List ℕ) (a b : Bool) → a ≡ starts_with eqb bytes (10 ∷ []) → b ≡ starts_with eqb bytes (13 ∷ 10 ∷ []) → a ≡ false → b ≡ false → (end : LineEnd) (rest : List ℕ) → bytes ≡ print_end end ++ rest → ⊥
no_line bytes a b x y p q lf rest e = false≢true (sym p ∙ (starts_is Decides-eqb bytes (10 ∷ []) a x).1 rest e)
no_line bytes a b x y p q crlf rest e = false≢true (sym q ∙ (starts_is Decides-eqb bytes (13 ∷ 10 ∷ []) b y).1 rest e)

pub some_line : (bytes : List ℕ) (a : Bool) → a ≡ starts_with eqb bytes (10 ∷ []) → a ≡ true → bytes ≡ print_end lf ++ drop 1 bytes
some_line bytes a x p = (starts_is Decides-eqb bytes (10 ∷ []) a x).0 p

pub some_crlf_line : (bytes : List ℕ) (b : Bool) → b ≡ starts_with eqb bytes (13 ∷ 10 ∷ []) → b ≡ true → bytes ≡ print_end crlf ++ drop 2 bytes
some_crlf_line bytes b y q = (starts_is Decides-eqb bytes (13 ∷ 10 ∷ []) b y).0 q

pub ends_lf : (bytes : List ℕ) (a : Bool) → a ≡ ends_with eqb bytes (10 ∷ 10 ∷ []) → a ≡ true → EndsHead bytes
ends_lf bytes a x p = (take (length bytes - 2) bytes, lf, (ends_is Decides-eqb bytes (10 ∷ 10 ∷ []) a x).0 p)

not_crlf : (bytes : List ℕ) (a b : Bool) → a ≡ ends_with eqb bytes (10 ∷ 10 ∷ []) → b ≡ ends_with eqb bytes (10 ∷ 13 ∷ 10 ∷ []) → a ≡ false → (lines : List ℕ) (end : LineEnd) → bytes ≡ lines ++ (10 ∷ print_end end) → b ≡ true
not_crlf bytes a b x y p lines lf e = absurd (false≢true (sym p ∙ (ends_is Decides-eqb bytes (10 ∷ 10 ∷ []) a x).1 lines e))
not_crlf bytes a b x y p lines crlf e = (ends_is Decides-eqb bytes (10 ∷ 13 ∷ 10 ∷ []) b y).1 lines e

pub ends_crlf : (bytes : List ℕ) (a b : Bool) → a ≡ ends_with eqb bytes (10 ∷ 10 ∷ []) → b ≡ ends_with eqb bytes (10 ∷ 13 ∷ 10 ∷ []) → a ≡ false → IsTrue b ↔ EndsHead bytes
ends_crlf bytes a b x y p = (
  λ q. (take (length bytes - 3) bytes, crlf, (ends_is Decides-eqb bytes (10 ∷ 13 ∷ 10 ∷ []) b y).0 q),
  λ h. not_crlf bytes a b x y p h.0 h.1 h.2,
)

pub no_end_first : (text : List ℕ) (m : ℕ) → m < 1 → EndsHead (take m text) → ⊥
no_end_first text m below h = omega (arith, ends_long (take m text) h, length-take m text, below)

-- the head is the shortest front of the text that ends as a head
head_first : (text front rest : List ℕ) (n : ℕ) → n ≤ length text → IsFirstEnd text n → take n text ≡ front ++ rest → EndsHead front → rest ≡ []
head_first text front [] n within h e ends = refl
head_first text front (c ∷ rest) n within h e ends =
    let whole : text ≡ front ++ ((c ∷ rest) ++ drop n text) = sym (take-append-drop n text) ∙ ap (λ (z : List ℕ). z ++ drop n text) e ∙ append_assoc front (c ∷ rest) (drop n text) in
    let at : take (length front) text ≡ front = ap (take (length front)) whole ∙ take-append_seam front ((c ∷ rest) ++ drop n text) in
    let short : length front < n = omega (arith, ap length e, length-append front (c ∷ rest), length-take-le n text within) in
    absurd (h.first (length front) short (subst EndsHead (sym at) ends))

head_found : (text : List ℕ) (n : ℕ) → ¬ (BeginsEmptyLine text) → n ≤ length text → IsFirstEnd text n → IsHeadText (take n text)
head_found text n some within h = record {
  starts = λ b. some (b.0, b.1 ++ drop n text, sym (take-append-drop n text) ∙ ap (λ (z : List ℕ). z ++ drop n text) b.2 ∙ append_assoc (print_end b.0) b.1 (drop n text));
  ends = h.ends;
  first = λ front rest e ends. head_first text front rest n within h e ends;
}

pub front_found : (near : List ℕ) (start n : ℕ) (skipped : List LineEnd) → start ≤ length near → near ≡ print_blank skipped ++ drop start near → ¬ (BeginsEmptyLine (drop start near)) → n ≤ length (drop start near) → IsFirstEnd (drop start near) n
    → IsFrontOf near (take (start + n) near) (take n (drop start near))
front_found near start n skipped inside whole some within h =
    let text = drop start near in
    let size : start ≡ length (print_blank skipped) = omega (arith, ap length whole, length-append (print_blank skipped) (drop start near), length-drop start near) in
    let both : take (start + n) near ≡ print_blank skipped ++ take n text =
    ap (take (start + n)) whole ∙ ap (λ (k : ℕ). take (k + n) (print_blank skipped ++ text)) size ∙ take-append-add (print_blank skipped) text n in
    let long : length (take (start + n) near) ≡ start + n = length-take-le (start + n) near (omega (arith, length-drop start near)) in
    let rest : drop n text ≡ drop (length (take (start + n) near)) near = drop-drop n start near ∙ ap (λ (k : ℕ). drop k near) (sym long) in
    record {
      skipped = skipped;
      both = both;
      parts = record {
        lawful = head_found text n some within h;
        whole = whole ∙ ap (λ (z : List ℕ). print_blank skipped ++ z) (sym (take-append-drop n text) ∙ ap (λ (z : List ℕ). take n text ++ z) rest);
      };
    }

pub none_found : (near : List ℕ) (start : ℕ) (skipped : List LineEnd) → near ≡ print_blank skipped ++ drop start near → ¬ (BeginsEmptyLine (drop start near))
    → ((m : ℕ) → m ≤ length (drop start near) → ¬ (EndsHead (take m (drop start near)))) → HasNoHead near
none_found near start skipped whole some none = λ a h r x.
    let text = drop start near in
    let same = skipped_once skipped a text (h ++ r) some (not_begun h r x.lawful) (sym whole ∙ x.whole) in
    let at : take (length h) text ≡ h = ap (take (length h)) same.1 ∙ take-append_seam h r in
    none (length h) (omega (arith, ap length same.1, length-append h r)) (subst EndsHead (sym at) x.lawful.ends)

-- the same of slices that are these parts
pub front_found_at : (near text front head : List ℕ) (start n : ℕ) (skipped : List LineEnd) → text ≡ drop start near → front ≡ take (start + n) near → head ≡ take n text
    → start ≤ length near → near ≡ print_blank skipped ++ drop start near → ¬ (BeginsEmptyLine (drop start near)) → n ≤ length text → IsFirstEnd text n → IsFrontOf near front head
front_found_at near text front head start n skipped t f h inside whole some within first =
    let found = front_found near start n skipped inside whole some (subst (λ (z : List ℕ). n ≤ length z) t within) (subst (λ (z : List ℕ). IsFirstEnd z n) t first) in
    subst (λ (z : List ℕ). IsFrontOf near z head) (sym f) (subst (λ (z : List ℕ). IsFrontOf near (take (start + n) near) z) (sym (h ∙ ap (take n) t)) found)

pub none_found_at : (near text : List ℕ) (start : ℕ) (skipped : List LineEnd) → text ≡ drop start near → near ≡ print_blank skipped ++ drop start near → ¬ (BeginsEmptyLine (drop start near))
    → ((m : ℕ) → m ≤ length text → ¬ (EndsHead (take m text))) → HasNoHead near
none_found_at near text start skipped t whole some none =
    none_found near start skipped whole some (subst (λ (z : List ℕ). (m : ℕ) → m ≤ length z → ¬ (EndsHead (take m z))) t none)

-- one more empty line is skipped
pub skipped_more : (bytes rest : List ℕ) (at n : ℕ) (ends : List LineEnd) (end : LineEnd) → at ≤ length bytes → rest ≡ drop at bytes → bytes ≡ print_blank ends ++ drop at bytes → n ≤ length rest → rest ≡ print_end end ++ drop n rest
    → (at + n ≤ length bytes) × ((skipped : List LineEnd) × (bytes ≡ print_blank skipped ++ drop (at + n) bytes))
skipped_more bytes rest at n ends end inside r whole short e =
    let newline : drop at bytes ≡ print_end end ++ drop (at + n) bytes = sym r ∙ e ∙ ap (λ (z : List ℕ). print_end end ++ z) (ap (drop n) r ∙ drop-drop n at bytes) in
    (omega (arith, inside, short, ap length r, length-drop at bytes), (ends ++ end ∷ [], blank_more ends end bytes (drop at bytes) (drop (at + n) bytes) whole newline))
