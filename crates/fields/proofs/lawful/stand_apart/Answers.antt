use Rattle.std.proofs.Common.{◌≡◌, ℕ, ◌<◌, ◌+◌, List, [], ◌∷◌, ◌++◌, length, get_or, take, All, sym, ◌∙◌, ap, subst, arith, refl}
use Rattle.std.specs.List.{AllPairs}
use Rattle.std.proofs.lemmas.List.{take_more, take_all, get_or-take, length-take-le, get_or_default}
use Rattle.std.proofs.lemmas.List.Quantifiers.{all_pairs_push}
use Rattle.fields.specs.Table.{AreApart}
use Rattle.fields.specs.declared.table.FieldRow.{FieldRow}
use Rattle.fields.proofs.lawful.stand_apart.Goals as goal

abbrev Apart : FieldRow → FieldRow → Type 0
Apart one other = AreApart one.path other.path

before : (rows : List FieldRow) (i : ℕ) (row : FieldRow) → i < length rows → row ≡ get_or rows i row → AllPairs Apart rows → All (λ other. Apart other row) (take i rows)
before rows i row below is apart k d inside =
    let size : length (take i rows) ≡ i = length-take-le i rows (omega arith) in
    let lt : k < i = omega arith in
    let pair = apart k i d lt below in
    let there : get_or rows k d ≡ get_or (take i rows) k d = sym (get_or-take i rows k d lt) in
    let here : get_or rows i d ≡ row = get_or_default rows i d row below ∙ sym is in
    subst (λ x. Apart x row) there (subst (λ x. Apart (get_or rows k d) x) here pair)

one_more : (rows : List FieldRow) (i : ℕ) (row : FieldRow) → i < length rows → row ≡ get_or rows i row → AllPairs Apart (take i rows) → All (λ other. Apart other row) (take i rows) → AllPairs Apart (take (i + 1) rows)
one_more rows i row below is apart all =
    let next : take (i + 1) rows ≡ take i rows ++ row ∷ [] = take_more rows i row below ∙ ap (λ r. take i rows ++ r ∷ []) (sym is) in
    subst (AllPairs Apart) (sym next) (all_pairs_push Apart (take i rows) row apart all)

pub returns-then-not-stands_apart : goal.returns-then-not-stands_apart
returns-then-not-stands_apart c = (
  λ h. absurd cc,
  λ apart. absurd (let t = c.stands_apart.ensures.1 (subst (All (λ other. Apart other c.index-rows-i.result)) (sym c.split_at.ensures.front) (before c.args.rows.now c.loop-i.i c.index-rows-i.result (omega arith) c.index-rows-i.is apart)) in let f = c.if-not-stands_apart.true in cc),
)

pub loop-i-preserved : goal.loop-i-preserved
loop-i-preserved c =
    one_more c.args.rows.now c.loop-i.i c.index-rows-i.result (omega arith) c.index-rows-i.is c.loop-i.invariant (subst (All (λ other. Apart other c.index-rows-i.result)) c.split_at.ensures.front (c.stands_apart.ensures.0 (let f = c.if-not-stands_apart.false in cc)))

pub returns : goal.returns
returns c = (λ _. subst (AllPairs Apart) (take_all c.loop-i.i c.args.rows.now (omega arith)) c.loop-i.invariant, λ _. refl)
