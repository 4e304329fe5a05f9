-- What is known of a stream that has no item: it holds at first, as bytes are looked at, and when more bytes come.
use Rattle.std.proofs.Common.{◌≡◌, ◌⊎◌, inl, inr, ℕ, ◌+◌, ◌<◌, ◌≤◌, List, [], ◌∷◌, ◌++◌, length, take, drop, get_or, refl, sym, ◌∙◌, ap, subst, arith, append_assoc}
use Rattle.std.proofs.lemmas.List.{append-nil, length-append, length-drop, nil_from_length, take_all, take_more, take-append-le}
use Rattle.httparse.specs.Grammar.{LineEnd, print_end, print_blank}
use Rattle.http_front.specs.Heads.{EndsHead, IsHeadText, HasNoHead, front_bytes, line_feeds}
use Rattle.http_front.specs.Said.{head_length, body_size}
use Rattle.http_front.specs.Told.{HasSaid}
use Rattle.http_front.specs.Waits.{IsLookedAt, IsOfSize, IsKnown, IsNext}
use Rattle.http_front.specs.declared.parts.Said.{Said}
use Rattle.http_front.specs.declared.request.Known.{Known}
use Rattle.http_front.specs.declared.request.Known.TheVariants.{NoHead, Size}
use Rattle.http_front.specs.declared.request.Next.TheVariants.{Waits}
use Rattle.http_front.proofs.FrontLemmas.{ends_long, fronts, front_with, front_whole, line_feeds-append}
use Rattle.http_front.proofs.ItemLemmas.{no_item_without_head, no_item_without_body, sound_longer}

-- ---- one more byte

-- what is skipped and the head end as the head does
front_ends : (a : List LineEnd) (h : List ℕ) → IsHeadText h → EndsHead (front_bytes a h)
front_ends a h x = (
  print_blank a ++ x.ends.0,
  x.ends.1,
  ap (λ (z : List ℕ). print_blank a ++ z) x.ends.2 ∙ sym (append_assoc (print_blank a) x.ends.0 (10 ∷ print_end x.ends.1)),
)

-- a front that reaches beyond `near` reaches to its end with the one byte more
reaches : (near one f r x : List ℕ) → length one ≡ 1 → f ≡ near ++ x → one ≡ x ++ r → (near ≡ f ++ []) ⊎ (f ≡ near ++ one)
reaches near one f r [] n p q = inl (sym (append-nil near) ∙ sym p ∙ sym (append-nil f))
reaches near one f r (y ∷ x) n p q =
    let none : r ≡ [] = nil_from_length r (omega (arith, n, ap length q, length-append (y ∷ x) r)) in
    let same : one ≡ y ∷ x = q ∙ ap (λ (z : List ℕ). (y ∷ x) ++ z) none ∙ append-nil (y ∷ x) in
    inr (p ∙ ap (λ (z : List ℕ). near ++ z) (sym same))

no_head_on : (near one : List ℕ) → length one ≡ 1 → HasNoHead near → ¬ (EndsHead (near ++ one)) → HasNoHead (near ++ one)
no_head_on near one n none apart = λ a h r x.
    elim (fronts near one (front_bytes a h) r (front_whole (near ++ one) a h r x)) [
      | inl w ↦ elim (reaches near one (front_bytes a h) r w.0 n w.1 w.2) [
        | inl e ↦ none a h [] (front_with near a h [] x.lawful e)
        | inr e ↦ apart (subst EndsHead e (front_ends a h x.lawful))
      ]
      | inr w ↦ none a h w.0 (front_with near a h w.0 x.lawful w.1)
    ]

pub looked_more : (s : List ℕ) (at lines here b : ℕ) → at < length s → b ≡ get_or s at 0 → IsLookedAt s at lines → here ≡ line_feeds (b ∷ []) → lines + here ≤ 128 → ¬ (EndsHead (take (at + 1) s)) → IsLookedAt s (at + 1) (lines + here)
looked_more s at lines here b n is x feeds few apart =
    let more : take (at + 1) s ≡ take at s ++ (b ∷ []) = take_more s at 0 n ∙ ap (λ (z : ℕ). take at s ++ (z ∷ [])) (sym is) in
    record {
      within = omega (arith, n);
      none = subst HasNoHead (sym more) (no_head_on (take at s) (b ∷ []) refl x.none (λ e. apart (subst EndsHead (sym more) e)));
      count = omega (arith, x.count, feeds, line_feeds-append (take at s) (b ∷ []), ap line_feeds more);
      few = few;
    }

-- ---- what is known

nothing_in : (a : List LineEnd) (h r : List ℕ) → IsHeadText h → [] ≡ print_blank a ++ (h ++ r) → ⊥
nothing_in a h r x e = omega (arith, ends_long h x.ends, ap length e, length-append (print_blank a) (h ++ r), length-append h r)

pub nothing_known : (stream : List ℕ) → IsKnown stream (NoHead 0 0)
nothing_known stream = record { within = omega arith; none = λ a h r x. nothing_in a h r x.lawful x.whole; count = refl; few = omega arith }

-- all bytes were looked at, and a head may still end
pub all_looked : (stream : List ℕ) (looked lines : ℕ) → looked ≡ length stream → length stream < 16384 → IsLookedAt stream looked lines → IsNext stream (Waits (NoHead looked lines))
all_looked stream looked lines all short x =
    let whole : take looked stream ≡ stream = take_all looked stream (omega (arith, all)) in
    let none : HasNoHead stream = subst HasNoHead whole x.none in
    let few : line_feeds stream ≤ 128 = omega (arith, x.count, x.few, ap line_feeds whole) in
    ((inl none, no_item_without_head stream none short few), x)

pub waits_for_body : (stream : List ℕ) (size : ℕ) → length stream < size → IsOfSize stream size → IsNext stream (Waits (Size size))
waits_for_body stream size short x =
    let lacks : length x.rest < body_size (head_length x.tree) = omega (arith, short, x.sum) in
    ((inr (record { tree = x.tree; rest = x.rest; head = x.head; short = lacks }), no_item_without_body stream x.tree x.rest x.head lacks), x)

pub size_said : (stream front : List ℕ) (said : Said) (size : ℕ) → HasSaid stream front said → size ≡ length front + body_size said.length → IsOfSize stream size
size_said stream front said size h e = record {
  tree = h.tree;
  rest = drop (length front) stream;
  head = h.head;
  sum = omega (arith, e, h.within, length-drop (length front) stream, ap body_size h.size);
}

pub stays_known : (stream more : List ℕ) (known : Known) → IsKnown stream known → IsKnown (stream ++ more) known
stays_known stream more (NoHead looked lines) x =
    let same : take looked (stream ++ more) ≡ take looked stream = let within : looked ≤ length stream = x.within in rw take-append-le refl in
    record {
      within = omega (arith, x.within, length-append stream more);
      none = subst HasNoHead (sym same) x.none;
      count = x.count ∙ ap line_feeds (sym same);
      few = x.few;
    }
stays_known stream more (Size size) x = record {
  tree = x.tree;
  rest = x.rest ++ more;
  head = sound_longer stream more x.tree x.rest x.head;
  sum = omega (arith, x.sum, length-append stream more, length-append x.rest more);
}
