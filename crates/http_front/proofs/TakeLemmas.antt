-- What is taken from a stream, by the parts and the lines of its head.
use Rattle.std.proofs.Common.{◌≡◌, ◌⊎◌, inl, inr, ℕ, ◌-◌, ◌<◌, ◌≤◌, ◌&&◌, Bool, true, false, cond, List, [], ◌∷◌, ◌++◌, Some, None, All, length, take, drop, refl, sym, ◌∙◌, ap, subst, arith}
use Rattle.std.specs.Prelude.{codes, not, ◌==◌}
use Rattle.std.specs.List.{list_all, flat_map}
use Rattle.std.specs.Str.Parse.{digits_value}
use Rattle.std.proofs.lemmas.List.{append-nil, drop_all, length-append, length-drop, length-take-le, take-append-drop, take_all}
use Rattle.std.proofs.Math.Seq.{drop-append_seam}
use Rattle.httparse.specs.Grammar.{LineEnd, crlf, lf, print_end, print_blank, print_version, Field, print_field, print_section, RequestHead, print_request, ReadsRequest}
use Rattle.httparse.specs.Spans.{IsHeaderWithin, IsRequestWithin, IsRequestOf}
use Rattle.httparse.specs.declared.spans.HeaderSpan.{HeaderSpan}
use Rattle.httparse.specs.declared.spans.RequestSpans.{RequestSpans}
use Rattle.httparse.proofs.GrammarLemmas.{request_unique}
use Rattle.http1.specs.Fields.{values_named, elements_named, has_option}
use Rattle.http_front.specs.Heads.{IsFront, HasNoHead, IsFrontOf, front_bytes, line_feeds}
use Rattle.http_front.specs.Said.{verb_of, path_part, query_part, length_values, length_number, lawful_length, length_said, head_length, is_last, is_length_text, body_size}
use Rattle.http_front.specs.Items.{BeginsHead, IsBad, no_end, many_lines, other_head, two_lengths, bad_length, BeginsSoundHead, Item, IsItem, IsTaken}
use Rattle.http_front.specs.Told.{HasParts, IsReadAs, number_at, IsTold, HasSaid, IsRequestWith}
use Rattle.http_front.specs.declared.parts.Said.{Said}
use Rattle.http_front.specs.declared.request.Request.{Request}
use Rattle.http_front.specs.declared.request.Taken.TheVariants.{More, Whole}
use Rattle.http_front.proofs.FrontLemmas.{front_longer, front_with, front_whole, line_feeds-append, one_head_from_none, one_head_from_front}
use Rattle.http_front.proofs.ItemLemmas.{no_item_without_head, no_item_without_body}

-- ---- each header line has a line feed

end_feed : (e : LineEnd) → line_feeds (print_end e) ≡ 1
end_feed crlf = refl
end_feed lf = refl

behind_feeds : (a b : List ℕ) (n : ℕ) → n ≤ line_feeds b → n ≤ line_feeds (a ++ b)
behind_feeds a b n h = omega (arith, h, line_feeds-append a b)

before_feeds : (a b : List ℕ) (n : ℕ) → n ≤ line_feeds a → n ≤ line_feeds (a ++ b)
before_feeds a b n h = omega (arith, h, line_feeds-append a b)

field_feeds : (f : Field) → 1 ≤ line_feeds (print_field f)
field_feeds f = behind_feeds (f.name ++ (58 ∷ f.raw)) (print_end f.end) 1 (omega (arith, end_feed f.end))

lines_feeds : (fields : List Field) → length fields ≤ line_feeds (flat_map print_field fields)
lines_feeds [] = omega arith
lines_feeds (f ∷ fs) = omega (arith, field_feeds f, lines_feeds fs, line_feeds-append (print_field f) (flat_map print_field fs))

request_feeds : (t : RequestHead) → length t.fields ≤ line_feeds (print_request t)
unfolding print_request
request_feeds t =
    let before : List ℕ = print_blank t.blank ++ t.method ++ 32 ∷ t.target ++ 32 ∷ print_version t.minor ++ print_end t.line_end in
    behind_feeds before (print_section t.fields t.last) (length t.fields) (before_feeds (flat_map print_field t.fields) (print_end t.last) (length t.fields) (lines_feeds t.fields))

pub reads_feeds : (head : List ℕ) (t : RequestHead) → ReadsRequest head t [] → length t.fields ≤ line_feeds head
reads_feeds head t x = subst (λ (z : List ℕ). length t.fields ≤ line_feeds z) (sym (x.1 ∙ append-nil (print_request t))) (request_feeds t)

-- ---- a head that is read up to its last byte

whole_read : (head : List ℕ) (t : RequestHead) (n : ℕ) → n ≡ length head → ReadsRequest head t (drop n head) → ReadsRequest head t []
whole_read head t n e x = subst (λ (r : List ℕ). ReadsRequest head t r) (drop_all n head (omega (arith, e))) x

pub whole_len : (head : List ℕ) (t u : RequestHead) (n : ℕ) → ReadsRequest head t (drop n head) → n ≡ length (print_request t) → ReadsRequest head u [] → n ≡ length head
whole_len head t u n x e y =
    let same : t ≡ u = (request_unique head t u (drop n head) [] x y).0 in
    e ∙ ap (λ (v : RequestHead). length (print_request v)) same ∙ sym (ap length (y.1 ∙ append-nil (print_request u)))

pub read_as : (head : List ℕ) (spans : List HeaderSpan) (found : RequestSpans) → found.len ≡ length head → IsRequestOf head spans found → IsReadAs head (take found.headers spans) found
read_as head spans found e x = record {
  tree = x.0;
  reads = whole_read head x.0 found.len e x.1.reads;
  method = x.1.method;
  target = x.1.path;
  minor = x.1.version;
  lines_are = x.1.fields;
}

pub parts_within : (head : List ℕ) (spans : List HeaderSpan) (found : RequestSpans) → found.len ≡ length head → IsRequestWithin head spans found → HasParts head (take found.headers spans) found
parts_within head spans found e w = record {
  method = (w.method.0, omega (arith, e, w.method.1));
  target = (w.path.0, omega (arith, e, w.path.1));
  lines_fit = subst (λ (n : ℕ). All (IsHeaderWithin n) (take found.headers spans)) e w.section.headers_fit;
}

-- ---- lengths

one_some : (v : List ℕ) (n : ℕ) (b : Bool) → is_length_text v ≡ b → cond b (Some (digits_value 10 v)) None ≡ Some n → ((is_length_text v && true) ≡ true) × (digits_value 10 v ≡ n)
one_some v n true is e = (ap (λ (b : Bool). b && true) is, (let same : Some (digits_value 10 v) ≡ Some n = e in cc))
one_some v n false is e = absurd (let same : Some n ≡ None = sym e in cc)

lawful_some : (values : List (List ℕ)) (n : ℕ) → lawful_length values ≡ Some n → (length values ≤ 1) × (list_all is_length_text values ≡ true) × (length_number values ≡ n)
lawful_some [] n e = (omega arith, refl, (let same : Some 0 ≡ Some n = e in cc))
lawful_some (v ∷ []) n e = let one = one_some v n (is_length_text v) refl e in (omega arith, one.0, one.1)
lawful_some (v ∷ w ∷ vs) n e = absurd (let same : Some n ≡ None = sym e in cc)

one_none : (v : List ℕ) (b : Bool) → is_length_text v ≡ b → cond b (Some (digits_value 10 v)) None ≡ None → (is_length_text v && true) ≡ false
one_none v true is e = absurd (let same : Some (digits_value 10 v) ≡ None = e in cc)
one_none v false is e = ap (λ (b : Bool). b && true) is

lawful_none : (values : List (List ℕ)) → lawful_length values ≡ None → (1 < length values) ⊎ (list_all is_length_text values ≡ false)
lawful_none [] e = absurd (let same : Some 0 ≡ None = e in cc)
lawful_none (v ∷ []) e = inr (one_none v (is_length_text v) refl e)
lawful_none (v ∷ w ∷ vs) e = inl (omega arith)

-- ---- a head that is told

begins_head : (stream front head : List ℕ) (lines : List HeaderSpan) (found : RequestSpans) (f : IsFrontOf stream front head) (r : IsReadAs head lines found) → BeginsHead stream r.tree (drop (length front) stream)
begins_head stream front head lines found f r = record { skipped = f.skipped; head = head; front = f.parts; reads = r.reads }

stream_whole : (stream front head : List ℕ) → IsFrontOf stream front head → stream ≡ front ++ drop (length front) stream
stream_whole stream front head f =
    front_whole stream f.skipped head (drop (length front) stream) f.parts ∙ ap (λ (z : List ℕ). z ++ drop (length front) stream) (sym f.both)

pub told_said : (stream front head : List ℕ) (lines : List HeaderSpan) (found : RequestSpans) (number : ℕ) (said : Said) → IsFrontOf stream front head → length front ≤ 16384 → line_feeds front ≤ 128 → IsReadAs head lines found → number_at head lines ≡ Some number → IsTold head lines found number said → HasSaid stream front said
unfolding begins_head
told_said stream front head lines found number said f short few r is told =
    let lawful : lawful_length (length_values r.tree) ≡ Some number = ap (λ (ls : List (List ℕ × List ℕ)). lawful_length (values_named (codes "content-length") ls)) (sym r.lines_are) ∙ is in
    let facts = lawful_some (length_values r.tree) number lawful in
    let size : said.length ≡ head_length r.tree =
    told.size ∙ (λ i. length_said (not (length (values_named (codes "transfer-encoding") (r.lines_are i)) == 0)) ((sym facts.2) i)) in
    record {
      tree = r.tree;
      within = omega (arith, ap length (stream_whole stream front head f), length-append front (drop (length front) stream));
      head = record {
        head = begins_head stream front head lines found f r;
        short = omega (arith, short, ap length f.both);
        few = omega (arith, few, ap line_feeds f.both);
        once = facts.0;
        numbers = facts.1;
      };
      verb = told.verb ∙ ap verb_of r.method;
      path = told.path ∙ ap path_part r.target;
      query = told.query ∙ ap query_part r.target;
      size = size;
      last = told.last ∙ (λ i. is_last (size i) (r.minor i) (has_option (codes "close") (elements_named (codes "connection") (r.lines_are i))));
    }

pub told_nothing : (stream front head : List ℕ) (lines : List HeaderSpan) (found : RequestSpans) → IsFrontOf stream front head → IsReadAs head lines found → number_at head lines ≡ None → IsBad stream
told_nothing stream front head lines found f r none =
    let lawful : lawful_length (length_values r.tree) ≡ None = ap (λ (ls : List (List ℕ × List ℕ)). lawful_length (values_named (codes "content-length") ls)) (sym r.lines_are) ∙ none in
    elim (lawful_none (length_values r.tree) lawful) [
      | inl two ↦ two_lengths (record { tree = r.tree; rest = drop (length front) stream; head = begins_head stream front head lines found f r; two = two })
      | inr bad ↦ bad_length (record { tree = r.tree; rest = drop (length front) stream; head = begins_head stream front head lines found f r; bad = bad })
    ]

-- ---- what is taken

pub front_in_all : (stream near far front head : List ℕ) → stream ≡ near ++ far → IsFrontOf near front head → IsFrontOf stream front head
front_in_all stream near far front head e f =
    let rest = drop (length front) near ++ far in
    let parts : IsFront stream f.skipped head rest =
    subst (λ (s : List ℕ). IsFront s f.skipped head rest) (sym e) (front_longer near far f.skipped head (drop (length front) near) f.parts) in
    let whole : stream ≡ front ++ rest = front_whole stream f.skipped head rest parts ∙ ap (λ (z : List ℕ). z ++ rest) (sym f.both) in
    let same : drop (length front) stream ≡ rest = ap (drop (length front)) whole ∙ drop-append_seam front rest in
    record {
      skipped = f.skipped;
      both = f.both;
      parts = subst (λ (r : List ℕ). IsFront stream f.skipped head r) (sym same) parts;
    }

pub front_short : (near front head : List ℕ) → IsFrontOf near front head → length front ≤ length near
front_short near front head f = omega (arith, ap length (stream_whole near front head f), length-append front (drop (length front) near))

pub full_bad : (stream near : List ℕ) → near ≡ take 16384 stream → HasNoHead near → 16384 ≤ length stream → IsBad stream
full_bad stream near e none full = no_end (record {
  bytes = near;
  rest = drop 16384 stream;
  whole = sym (take-append-drop 16384 stream) ∙ ap (λ (z : List ℕ). z ++ drop 16384 stream) (sym e);
  full = ap length e ∙ length-take-le 16384 stream full;
  none = none;
})

pub lines_bad : (stream near : List ℕ) → near ≡ take 16384 stream → HasNoHead near → 128 < line_feeds near → IsBad stream
lines_bad stream near e none many = many_lines (record {
  bytes = near;
  rest = drop 16384 stream;
  whole = sym (take-append-drop 16384 stream) ∙ ap (λ (z : List ℕ). z ++ drop 16384 stream) (sym e);
  one = one_head_from_none near none;
  many = many;
})

pub nothing_yet : (stream near : List ℕ) → near ≡ take 16384 stream → HasNoHead near → length stream < 16384 → line_feeds near ≤ 128 → (item : Item) (behind : List ℕ) → IsItem stream item behind → ⊥
nothing_yet stream near e none short few =
    let same : near ≡ stream = e ∙ take_all 16384 stream (omega (arith, short)) in
    no_item_without_head stream (subst HasNoHead same none) short (subst (λ (z : List ℕ). line_feeds z ≤ 128) same few)

pub front_bad : (stream front head : List ℕ) → IsFrontOf stream front head → 128 < line_feeds front → IsBad stream
front_bad stream front head f many = many_lines (record {
  bytes = front;
  rest = drop (length front) stream;
  whole = stream_whole stream front head f;
  one = one_head_from_front front f.skipped head (front_with front f.skipped head [] f.parts.lawful (f.both ∙ sym (append-nil (front_bytes f.skipped head))));
  many = many;
})

pub other_bad : (stream front head : List ℕ) → IsFrontOf stream front head → ((t : RequestHead) → ¬ (ReadsRequest head t [])) → IsBad stream
other_bad stream front head f other = other_head (record { skipped = f.skipped; head = head; rest = drop (length front) stream; front = f.parts; other = other })

pub head_feeds : (stream front head : List ℕ) → IsFrontOf stream front head → line_feeds front ≤ 128 → line_feeds head ≤ 128
head_feeds stream front head f few = omega (arith, few, ap line_feeds f.both, line_feeds-append (print_blank f.skipped) head)

pub no_body_yet : (stream front : List ℕ) (said : Said) → HasSaid stream front said → length (drop (length front) stream) < body_size said.length → (item : Item) (behind : List ℕ) → IsItem stream item behind → ⊥
no_body_yet stream front said h short =
    no_item_without_body stream h.tree (drop (length front) stream) h.head (omega (arith, short, ap body_size h.size))

pub whole_taken : (stream front : List ℕ) (said : Said) (request : Request) (body behind : List ℕ) (used : ℕ) → HasSaid stream front said → drop (length front) stream ≡ body ++ behind → length body ≡ body_size said.length → IsRequestWith said body request → used ≡ length stream - length behind
    → IsTaken stream (Whole request used)
whole_taken stream front said request body behind used h e size w n = (
  behind,
  record {
    tree = h.tree;
    head = subst (λ (r : List ℕ). BeginsSoundHead stream h.tree r) (e ∙ ap (λ (z : List ℕ). z ++ behind) (sym w.body_is)) h.head;
    says = record {
      verb = w.verb ∙ h.verb;
      path = w.path ∙ h.path;
      query = w.query ∙ h.query;
      size = w.size ∙ h.size;
      last = w.last ∙ h.last;
      body = ap length w.body_is ∙ size ∙ ap body_size h.size;
    };
  },
  omega (arith, n, h.within, length-drop (length front) stream, ap length e, length-append body behind),
)

-- ---- more bytes

pub more_head : (stream near : List ℕ) → near ≡ take 16384 stream → HasNoHead near → length stream < 16384 → line_feeds near ≤ 128 → IsTaken stream More
more_head stream near e none short few =
    let same : near ≡ stream = e ∙ take_all 16384 stream (omega (arith, short)) in
    (inl (subst HasNoHead same none), nothing_yet stream near e none short few)

pub more_body : (stream front : List ℕ) (said : Said) → HasSaid stream front said → length (drop (length front) stream) < body_size said.length → IsTaken stream More
more_body stream front said h short = (
  inr (record { tree = h.tree; rest = drop (length front) stream; head = h.head; short = omega (arith, short, ap body_size h.size) }),
  no_body_yet stream front said h short,
)
