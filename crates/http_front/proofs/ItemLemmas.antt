-- A stream splits into items in one way, and more bytes never change an item.
use Rattle.std.proofs.Common.{◌≡◌, inl, inr, ℕ, ◌<◌, ◌≤◌, List, [], ◌∷◌, ◌++◌, length, refl, sym, ◌∙◌, ap, subst, arith, append_assoc}
use Rattle.std.specs.List.{list_all}
use Rattle.std.proofs.lemmas.List.{append-nil, length-append, nil_from_length}
use Rattle.std.proofs.lemmas.Bool.{false≢true, cases_Bool}
use Rattle.httparse.specs.Grammar.{print_blank, RequestHead, ReadsRequest}
use Rattle.httparse.proofs.GrammarLemmas.{request_unique}
use Rattle.http_front.specs.Heads.{HasNoHead, front_bytes, line_feeds}
use Rattle.http_front.specs.Said.{verb_of, path_part, query_part, head_length, is_last, says_close, body_size, length_values, is_length_text}
use Rattle.http_front.specs.Items.{BeginsHead, HasNoEnd, HasManyLines, IsBad, no_end, ends_late, many_lines, other_head, two_lengths, bad_length, BeginsSoundHead, BeginsRequest, Item, taken_request, refused, IsItem, is_final, IsSplit, IsTaken}
use Rattle.http_front.specs.declared.request.Taken.{Taken}
use Rattle.http_front.specs.declared.request.Taken.TheVariants.{More, Bad, Whole}
use Rattle.http_front.specs.declared.request.Request.{Request}
use Rattle.http_front.proofs.FrontLemmas.{fronts, same_length, front_once, front_longer, front_with, front_whole, line_feeds-append}

pub head_once : (stream : List ℕ) (t u : RequestHead) (r q : List ℕ) → BeginsHead stream t r → BeginsHead stream u q → (t ≡ u) × (r ≡ q)
head_once stream t u r q x y =
    let same = front_once stream x.skipped y.skipped x.head y.head r q x.front y.front in
    let reads : ReadsRequest x.head u [] = subst (λ (h : List ℕ). ReadsRequest h u []) (sym same.1) y.reads in
    ((request_unique x.head t u [] [] x.reads reads).0, same.2)

pub head_longer : (stream more : List ℕ) (t : RequestHead) (r : List ℕ) → BeginsHead stream t r → BeginsHead (stream ++ more) t (r ++ more)
head_longer stream more t r x = record {
  skipped = x.skipped;
  head = x.head;
  front = front_longer stream more x.skipped x.head r x.front;
  reads = x.reads;
}

pub sound_longer : (stream more : List ℕ) (t : RequestHead) (r : List ℕ) → BeginsSoundHead stream t r → BeginsSoundHead (stream ++ more) t (r ++ more)
unfolding head_longer
sound_longer stream more t r x = record {
  head = head_longer stream more t r x.head;
  short = x.short;
  few = x.few;
  once = x.once;
  numbers = x.numbers;
}

-- ---- what is refused

longer : (stream bytes rest more : List ℕ) → stream ≡ bytes ++ rest → stream ++ more ≡ bytes ++ (rest ++ more)
longer stream bytes rest more e = ap (λ (s : List ℕ). s ++ more) e ∙ append_assoc bytes rest more

pub bad_longer : (stream more : List ℕ) → IsBad stream → IsBad (stream ++ more)
bad_longer stream more (no_end w) = no_end (record { bytes = w.bytes; rest = w.rest ++ more; whole = longer stream w.bytes w.rest more w.whole; full = w.full; none = w.none })
bad_longer stream more (ends_late w) = ends_late (record { skipped = w.skipped; head = w.head; rest = w.rest ++ more; front = front_longer stream more w.skipped w.head w.rest w.front; long = w.long })
bad_longer stream more (many_lines w) = many_lines (record { bytes = w.bytes; rest = w.rest ++ more; whole = longer stream w.bytes w.rest more w.whole; one = w.one; many = w.many })
bad_longer stream more (other_head w) = other_head (record { skipped = w.skipped; head = w.head; rest = w.rest ++ more; front = front_longer stream more w.skipped w.head w.rest w.front; other = w.other })
bad_longer stream more (two_lengths w) = two_lengths (record { tree = w.tree; rest = w.rest ++ more; head = head_longer stream more w.tree w.rest w.head; two = w.two })
bad_longer stream more (bad_length w) = bad_length (record { tree = w.tree; rest = w.rest ++ more; head = head_longer stream more w.tree w.rest w.head; bad = w.bad })

-- all of the bytes belong to the front, or the front ends in them
has_end : (stream : List ℕ) (t : RequestHead) (r : List ℕ) → BeginsSoundHead stream t r → HasNoEnd stream → ⊥
has_end stream t r h w =
    let f = front_bytes h.head.skipped h.head.head in
    let lawful = h.head.front.lawful in
    elim (fronts f r w.bytes w.rest (sym (front_whole stream h.head.skipped h.head.head r h.head.front) ∙ w.whole)) [
      | inl v ↦ w.none h.head.skipped h.head.head v.0 (front_with w.bytes h.head.skipped h.head.head v.0 lawful v.1)
      | inr v ↦
          let none : v.0 ≡ [] = nil_from_length v.0 (omega (arith, h.short, w.full, ap length v.1, length-append w.bytes v.0)) in
          let same : w.bytes ≡ f ++ [] = sym (append-nil w.bytes) ∙ ap (λ (z : List ℕ). w.bytes ++ z) (sym none) ∙ sym v.1 ∙ sym (append-nil f) in
          w.none h.head.skipped h.head.head [] (front_with w.bytes h.head.skipped h.head.head [] lawful same)
    ]

has_few : (stream : List ℕ) (t : RequestHead) (r : List ℕ) → BeginsSoundHead stream t r → HasManyLines stream → ⊥
has_few stream t r h w =
    let f = front_bytes h.head.skipped h.head.head in
    elim (fronts f r w.bytes w.rest (sym (front_whole stream h.head.skipped h.head.head r h.head.front) ∙ w.whole)) [
      | inl v ↦
          let none : v.0 ≡ [] = w.one h.head.skipped h.head.head v.0 (front_with w.bytes h.head.skipped h.head.head v.0 h.head.front.lawful v.1) in
          let same : w.bytes ≡ f = v.1 ∙ ap (λ (z : List ℕ). f ++ z) none ∙ append-nil f in
          omega (arith, h.few, w.many, ap line_feeds same)
      | inr v ↦ omega (arith, h.few, w.many, ap line_feeds v.1, line_feeds-append w.bytes v.0)
    ]

-- a stream that begins with a sound head isn't refused
pub not_bad : (stream : List ℕ) (t : RequestHead) (r : List ℕ) → BeginsSoundHead stream t r → IsBad stream → ⊥
not_bad stream t r h (no_end w) = has_end stream t r h w
not_bad stream t r h (ends_late w) =
    let same = front_once stream w.skipped h.head.skipped w.head h.head.head w.rest r w.front h.head.front in
    let size : length (front_bytes w.skipped w.head) ≡ length (front_bytes h.head.skipped h.head.head) = λ i. length (front_bytes (same.0 i) (same.1 i)) in
    omega (arith, size, w.long, h.short)
not_bad stream t r h (many_lines w) = has_few stream t r h w
not_bad stream t r h (other_head w) =
    let same = front_once stream h.head.skipped w.skipped h.head.head w.head r w.rest h.head.front w.front in
    w.other t (subst (λ (z : List ℕ). ReadsRequest z t []) same.1 h.head.reads)
not_bad stream t r h (two_lengths w) =
    let same : w.tree ≡ t = (head_once stream w.tree t w.rest r w.head h.head).0 in
    omega (arith, w.two, h.once, ap (λ (u : RequestHead). length (length_values u)) same)
not_bad stream t r h (bad_length w) =
    let same : w.tree ≡ t = (head_once stream w.tree t w.rest r w.head h.head).0 in
    false≢true (sym w.bad ∙ ap (λ (u : RequestHead). list_all is_length_text (length_values u)) same ∙ h.numbers)

-- ---- what isn't complete

not_bad_yet : (stream : List ℕ) → HasNoHead stream → length stream < 16384 → line_feeds stream ≤ 128 → IsBad stream → ⊥
not_bad_yet stream none short few (no_end w) = omega (arith, short, w.full, ap length w.whole, length-append w.bytes w.rest)
not_bad_yet stream none short few (ends_late w) = none w.skipped w.head w.rest w.front
not_bad_yet stream none short few (many_lines w) = omega (arith, few, w.many, ap line_feeds w.whole, line_feeds-append w.bytes w.rest)
not_bad_yet stream none short few (other_head w) = none w.skipped w.head w.rest w.front
not_bad_yet stream none short few (two_lengths w) = none w.head.skipped w.head.head w.rest w.head.front
not_bad_yet stream none short few (bad_length w) = none w.head.skipped w.head.head w.rest w.head.front

pub no_item_without_head : (stream : List ℕ) → HasNoHead stream → length stream < 16384 → line_feeds stream ≤ 128 → (item : Item) (behind : List ℕ) → IsItem stream item behind → ⊥
no_item_without_head stream none short few (taken_request taken) behind h = none h.head.head.skipped h.head.head.head (taken.body ++ behind) h.head.head.front
no_item_without_head stream none short few refused behind h = not_bad_yet stream none short few h.0

pub no_item_without_body : (stream : List ℕ) (t : RequestHead) (r : List ℕ) → BeginsSoundHead stream t r → length r < body_size (head_length t) → (item : Item) (behind : List ℕ) → IsItem stream item behind → ⊥
no_item_without_body stream t r h short (taken_request taken) behind x =
    let same = head_once stream t x.tree r (taken.body ++ behind) h.head x.head.head in
    let size : body_size (head_length t) ≡ body_size (head_length x.tree) = ap (λ (u : RequestHead). body_size (head_length u)) same.0 in
    omega (arith, short, size, x.says.body, ap length same.1, length-append taken.body behind)
no_item_without_body stream t r h short refused behind x = not_bad stream t r h x.0

-- ---- items

pub request_once : (stream : List ℕ) (p q : Request) (x y : List ℕ) → BeginsRequest stream p x → BeginsRequest stream q y → (p ≡ q) × (x ≡ y)
request_once stream p q x y h k =
    let same = head_once stream h.tree k.tree (p.body ++ x) (q.body ++ y) h.head.head k.head.head in
    let tree : h.tree ≡ k.tree = same.0 in
    let size : length p.body ≡ length q.body = h.says.body ∙ ap (λ (u : RequestHead). body_size (head_length u)) tree ∙ sym k.says.body in
    let split = same_length p.body x q.body y size same.1 in
    let verb : p.verb ≡ q.verb = h.says.verb ∙ ap (λ (u : RequestHead). verb_of u.method) tree ∙ sym k.says.verb in
    let path : p.path ≡ q.path = h.says.path ∙ ap (λ (u : RequestHead). path_part u.target) tree ∙ sym k.says.path in
    let query : p.query ≡ q.query = h.says.query ∙ ap (λ (u : RequestHead). query_part u.target) tree ∙ sym k.says.query in
    let told : p.length ≡ q.length = h.says.size ∙ ap (λ (u : RequestHead). head_length u) tree ∙ sym k.says.size in
    let last : p.last ≡ q.last = h.says.last ∙ ap (λ (u : RequestHead). is_last (head_length u) u.minor (says_close u)) tree ∙ sym k.says.last in (
      (λ i. record { verb = verb i; path = path i; query = query i; length = told i; body = split.0 i; last = last i }),
      split.1,
    )

pub item_once : (stream : List ℕ) (a b : Item) (x y : List ℕ) → IsItem stream a x → IsItem stream b y → (a ≡ b) × (x ≡ y)
item_once stream (taken_request p) (taken_request q) x y h k =
    let same = request_once stream p q x y h k in
    (ap taken_request same.0, same.1)
item_once stream (taken_request p) refused x y h k = absurd (not_bad stream h.tree (p.body ++ x) h.head k.0)
item_once stream refused (taken_request q) x y h k = absurd (not_bad stream k.tree (q.body ++ y) k.head h.0)
item_once stream refused refused x y h k = (refl, h.1 ∙ sym k.1)

pub item_longer : (stream more : List ℕ) (item : Item) (behind : List ℕ) → IsItem stream item behind → IsItem (stream ++ more) item (behind ++ more)
item_longer stream more (taken_request taken) behind h = record {
  tree = h.tree;
  head = subst (λ (r : List ℕ). BeginsSoundHead (stream ++ more) h.tree r) (append_assoc taken.body behind more) (sound_longer stream more h.tree (taken.body ++ behind) h.head);
  says = h.says;
}
item_longer stream more refused behind h = (bad_longer stream more h.0, ap (λ (s : List ℕ). s ++ more) h.1)

pub request_alone : (stream : List ℕ) (taken : Request) (behind : List ℕ) → BeginsRequest stream taken behind → (front : List ℕ) × (stream ≡ front ++ behind) × BeginsRequest front taken []
request_alone stream taken behind h =
    let front = print_blank h.head.head.skipped ++ (h.head.head.head ++ taken.body) in (
      front,
      h.head.head.front.whole ∙ sym (append_assoc (print_blank h.head.head.skipped) (h.head.head.head ++ taken.body) behind
          ∙ ap (λ (z : List ℕ). print_blank h.head.head.skipped ++ z) (append_assoc h.head.head.head taken.body behind)),
      record {
        tree = h.tree;
        head = record {
          head = record {
            skipped = h.head.head.skipped;
            head = h.head.head.head;
            front = record {
              lawful = h.head.head.front.lawful;
              whole = ap (λ (z : List ℕ). print_blank h.head.head.skipped ++ (h.head.head.head ++ z)) (sym (append-nil taken.body));
            };
            reads = h.head.head.reads;
          };
          short = h.head.short;
          few = h.head.few;
          once = h.head.once;
          numbers = h.head.numbers;
        };
        says = h.says;
      },
    )

-- ---- splittings

pub splits_once : (stream : List ℕ) (a b : List Item) (x y : List ℕ) → IsSplit stream a x → IsSplit stream b y → (a ≡ b) × (x ≡ y)
splits_once stream [] [] x y h k = (refl, h.1 ∙ sym k.1)
splits_once stream [] (j ∷ b) x y h k = absurd (h.0 j k.0 k.1)
splits_once stream (i ∷ a) [] x y h k = absurd (k.0 i h.0 h.1)
splits_once stream (i ∷ a) (j ∷ b) x y h k =
    let same = item_once stream i j h.0 k.0 h.1 k.1 in
    elim (cases_Bool (is_final i)) [
      | inl final ↦
          let left = h.2 final in
          let right = k.2 (sym (ap is_final same.0) ∙ final) in
          ((λ n. same.0 n ∷ (left.0 ∙ sym right.0) n), left.1 ∙ same.1 ∙ sym right.1)
      | inr goes ↦
          let left : IsSplit k.0 a x = subst (λ (s : List ℕ). IsSplit s a x) same.1 (h.3 goes) in
          let later = splits_once k.0 a b x y left (k.3 (sym (ap is_final same.0) ∙ goes)) in
          ((λ n. same.0 n ∷ later.0 n), later.1)
    ]

pub items_kept : (stream more : List ℕ) (a b : List Item) (x y : List ℕ) → IsSplit stream a x → IsSplit (stream ++ more) b y → (further : List Item) × (b ≡ a ++ further)
items_kept stream more [] b x y h k = (b, refl)
items_kept stream more (i ∷ a) [] x y h k = absurd (k.0 i (h.0 ++ more) (item_longer stream more i h.0 h.1))
items_kept stream more (i ∷ a) (j ∷ b) x y h k =
    let same = item_once (stream ++ more) j i k.0 (h.0 ++ more) k.1 (item_longer stream more i h.0 h.1) in
    elim (cases_Bool (is_final i)) [
      | inl final ↦
          let left = h.2 final in
          let right = k.2 (ap is_final same.0 ∙ final) in
          let none : b ≡ a ++ [] = right.0 ∙ sym left.0 ∙ sym (append-nil a) in
          ([], (λ n. same.0 n ∷ none n))
      | inr goes ↦
          let right : IsSplit (h.0 ++ more) b y = subst (λ (s : List ℕ). IsSplit s b y) same.1 (k.3 (ap is_final same.0 ∙ goes)) in
          let later = items_kept h.0 more a b x y (h.3 goes) right in
          (later.0, (λ n. same.0 n ∷ later.1 n))
    ]

-- ---- answers

pub one_answer : (stream : List ℕ) (a b : Taken) → IsTaken stream a → IsTaken stream b → a ≡ b
one_answer stream More More h k = refl
one_answer stream More Bad h k = absurd (h.1 refused stream (k, refl))
one_answer stream More (Whole q n) h k = absurd (h.1 (taken_request q) k.0 k.1)
one_answer stream Bad More h k = absurd (k.1 refused stream (h, refl))
one_answer stream Bad Bad h k = refl
one_answer stream Bad (Whole q n) h k = absurd (not_bad stream k.1.tree (q.body ++ k.0) k.1.head h)
one_answer stream (Whole p m) More h k = absurd (k.1 (taken_request p) h.0 h.1)
one_answer stream (Whole p m) Bad h k = absurd (not_bad stream h.1.tree (p.body ++ h.0) h.1.head k)
one_answer stream (Whole p m) (Whole q n) h k =
    let same = request_once stream p q h.0 k.0 h.1 k.1 in
    let used : m ≡ n = omega (arith, h.2, k.2, ap length same.1) in
    (λ i. Whole (same.0 i) (used i))
