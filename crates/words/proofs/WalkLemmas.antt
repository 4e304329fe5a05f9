-- What `clap` makes of words that are settings of its options: a row each.
use Rattle.std.proofs.Common.{◌≡◌, ℕ, ◌<◌, ◌&&◌, ◌||◌, inl, inr, Bool, true, false, List, [], ◌∷◌, ◌++◌, length, cond, Option, Some, None, refl, sym, subst, ◌∙◌, ap, arith}
use Rattle.std.specs.Prelude.{fold, find, option_and_then, slice_get}
use Rattle.std.specs.Str.{bytes_eq}
use Rattle.std.specs.List.{AllByRecursion, before_first, after_first, position_or_len, list_any, list_all}
use Rattle.std.proofs.lemmas.Bool.{cases_lt, eqb-true}
use Rattle.std.proofs.lemmas.List.Folds.{list_any_none}
use Rattle.std.proofs.lemmas.List.Sums.{fails_before_first, passes_at_first, split_at_first}
use Rattle.std.proofs.lemmas.Slice.Eq.{bytes_eq-Decides}
use Rattle.clap.specs.Lexer.{long_of, short_of}
use Rattle.clap.specs.Walk.{Walk, Held, Row, Rule, Text, Waiting, arg_by_id, at_row, first_of, more_values, stronger, with_values, without, finished, nothing_held, reacted, rows_after, settled, used_by_id, walked, with_default, has_row, idle, option}
use Rattle.words.specs.Assigned.{rule_named, rules_named, row_set}
use Rattle.words.specs.Settings.{Setting, settings_of, has_equals, begins_with_dash, is_equals, joined, apart, and_more}
use Rattle.words.specs.Table.{is_named, values_of}
use Rattle.clap.specs.declared.builder.value_parser.Reading.{Reading}
use Rattle.clap.specs.declared.builder.value_parser.Reading.TheVariants.{AsWritten}
use Rattle.clap.specs.declared.parser.matches.ValueSource.TheVariants.{CommandLine}
use Rattle.std.specs.Option.{option_to_list}

abbrev pub at : Held → Waiting → Walk
at h waiting = record { held = h; waiting = waiting; position = 1; is_trailing = false; stopped = None }

-- the walk meets the option in both forms
pub record IsMet (rules : List Rule) (name : Text) : Type 0 where
  pub whole : (h : Held) (value : Text) → walked rules [] (at h idle) (name ++ 61 ∷ value) ≡ at (reacted rules (rule_named name) (value ∷ []) h) idle
  pub alone : (h : Held) → walked rules [] (at h idle) name ≡ at (record (settled rules h) { pending = Some (name, []) }) (option name)
  pub found : arg_by_id rules name ≡ Some (rule_named name)

same_bytes : (n : Text) → bytes_eq n n ≡ true
same_bytes n = (bytes_eq-Decides n n).1 refl

-- ---- words

-- a word that doesn't begin with a dash is no option
no_long : (word : Text) → begins_with_dash word ≡ false → long_of word ≡ None
no_long [] h = refl
no_long (c ∷ word) h = rw h refl

no_short : (word : Text) → begins_with_dash word ≡ false → short_of word ≡ None
no_short [] h = refl
no_short (c ∷ word) h = rw h refl

no_dashes : (word : Text) → begins_with_dash word ≡ false → bytes_eq word (45 ∷ 45 ∷ []) ≡ false
no_dashes [] h = refl
no_dashes (c ∷ word) h = rw h refl

-- a word with `=` is its name, `=` and its value
has_first : (word : Text) → has_equals word ≡ true → position_or_len is_equals word < length word
has_first word has = elim (cases_lt (position_or_len is_equals word) (length word)) [
  | inl under ↦ under
  | inr over ↦
      let none : has_equals word ≡ false = list_any_none is_equals word (λ k d below. fails_before_first is_equals word k d (omega arith)) in
      let both : true ≡ false = sym has ∙ none in absurd cc
]

joined_is : (word : Text) → has_equals word ≡ true → word ≡ (joined word).name ++ 61 ∷ (joined word).value
joined_is word has =
    let first = has_first word has in
    split_at_first is_equals word 0 first
    ∙ ap (λ c. before_first is_equals word ++ c ∷ after_first is_equals word) (eqb-true _ _ (passes_at_first is_equals word 0 first))

module _ (rules : List Rule) where
  -- the value of an option that waits for it
  value_met : (name value : Text) (rows : List Row) (skip : ℕ) → IsMet rules name → begins_with_dash value ≡ false
      → walked rules [] (at (record { rows = rows; pending = Some (name, []); skip = skip }) (option name)) value ≡ at (record { rows = rows; pending = Some (name, value ∷ []); skip = skip }) idle
  unfolding walked
  value_met name value rows skip met dash = rw (no_dashes value dash, no_long value dash, no_short value dash, met.found, same_bytes name) refl

  abbrev rows_held : Held → List Row
  rows_held h = (settled rules h).rows

  -- from here the walk over the words sets a row for each setting
  pub record Reaches (words : List Text) (h : Held) (ss : List Setting) : Type 0 where
    pub end : Held
    pub walks : fold (walked rules []) (at h idle) words ≡ at end idle
    pub rows : rows_held end ≡ fold row_set (rows_held h) ss

  joined_step : (word : Text) (rest : List Text) (h : Held) (ss : List Setting) → has_equals word ≡ true → IsMet rules (joined word).name
      → Reaches rest (reacted rules (rule_named (joined word).name) ((joined word).value ∷ []) h) ss → Reaches (word ∷ rest) h (joined word ∷ ss)
  joined_step word rest h ss has met reach = record {
    end = reach.end;
    walks = ap (λ w. fold (walked rules []) w rest) (ap (walked rules [] (at h idle)) (joined_is word has) ∙ met.whole h (joined word).value) ∙ reach.walks;
    rows = reach.rows;
  }

  apart_step : (word next : Text) (rest : List Text) (h : Held) (ss : List Setting) → begins_with_dash next ≡ false → IsMet rules word
      → Reaches rest (record (settled rules h) { pending = Some (word, next ∷ []) }) ss → Reaches (word ∷ next ∷ rest) h (apart word next ∷ ss)
  apart_step word next rest h ss dash met reach = record {
    end = reach.end;
    walks = ap (λ w. fold (walked rules []) (walked rules [] w next) rest) (met.alone h)
        ∙ ap (λ w. fold (walked rules []) w rest) (value_met word next (settled rules h).rows (settled rules h).skip met dash) ∙ reach.walks;
    rows = reach.rows ∙ ap (λ r. fold row_set r ss) (ap (λ a. used_by_id a (next ∷ []) (settled rules h).rows) met.found);
  }

-- ---- all words

more_is : (s : Setting) (o : Option (List Setting)) (ss : List Setting) → and_more s o ≡ Some ss → (more : List Setting) × (o ≡ Some more) × (ss ≡ s ∷ more)
more_is s None ss h = absurd cc
more_is s (Some more) ss h = (more, refl, cc)

both : (a b : Bool) → (a && b) ≡ true → (a ≡ true) × (b ≡ true)
both false b h = absurd cc
both true b h = (refl, h)

module _ (rules : List Rule) (names : List Text) (met : (n : Text) → list_any (λ m. bytes_eq n m) names ≡ true → IsMet rules n) where
  abbrev AreKnown : List Setting → Type 0
  AreKnown ss = list_all (is_named names) ss ≡ true

  -- with the words behind the first one walked already
  joined_first : (word : Text) (rest : List Text) (h : Held) (ss more : List Setting) → has_equals word ≡ true → settings_of rest ≡ Some more → ss ≡ joined word ∷ more → AreKnown ss
      → ((h : Held) → AreKnown more → Reaches rules rest h more) → Reaches rules (word ∷ rest) h ss
  joined_first word rest h ss more has set is known reach =
      let k = both (is_named names (joined word)) (list_all (is_named names) more) (subst AreKnown is known) in
      subst (Reaches rules (word ∷ rest) h) (sym is) (joined_step rules word rest h more has (met (joined word).name k.0) (reach _ k.1))

  apart_first : (word next : Text) (rest : List Text) (h : Held) (ss more : List Setting) → begins_with_dash next ≡ false → ss ≡ apart word next ∷ more → AreKnown ss
      → ((h : Held) → AreKnown more → Reaches rules rest h more) → Reaches rules (word ∷ next ∷ rest) h ss
  apart_first word next rest h ss more dash is known reach =
      let k = both (is_named names (apart word next)) (list_all (is_named names) more) (subst AreKnown is known) in
      subst (Reaches rules (word ∷ next ∷ rest) h) (sym is) (apart_step rules word next rest h more dash (met word k.0) (reach _ k.1))

  none_left : (h : Held) (ss : List Setting) → Some [] ≡ Some ss → Reaches rules [] h ss
  none_left h ss set = let is : ss ≡ [] = cc in subst (Reaches rules [] h) (sym is) (record { end = h; walks = refl; rows = refl })

  reaches : (words : List Text) (h : Held) (ss : List Setting) → settings_of words ≡ Some ss → AreKnown ss → Reaches rules words h ss
  reaches [] h ss set known = none_left h ss set
  reaches (word ∷ []) h ss set known = by (has_equals word) refl set
    where
      by : (b : Bool) → has_equals word ≡ b → cond b (Some (joined word ∷ [])) None ≡ Some ss → Reaches rules (word ∷ []) h ss
      by true has set = joined_first word [] h ss [] has refl (cc) known (λ h k. none_left h [] refl)
      by false has set = absurd cc
  reaches (word ∷ next ∷ rest) h ss set known = by (has_equals word) refl (begins_with_dash next) refl set (λ more set h known. reaches (next ∷ rest) h more set known) (λ more set h known. reaches rest h more set known)
    where
      by : (b : Bool) → has_equals word ≡ b → (d : Bool) → begins_with_dash next ≡ d
          → cond b (and_more (joined word) (settings_of (next ∷ rest))) (cond d None (and_more (apart word next) (settings_of rest))) ≡ Some ss
          → ((more : List Setting) → settings_of (next ∷ rest) ≡ Some more → (h : Held) → AreKnown more → Reaches rules (next ∷ rest) h more)
          → ((more : List Setting) → settings_of rest ≡ Some more → (h : Held) → AreKnown more → Reaches rules rest h more)
          → Reaches rules (word ∷ next ∷ rest) h ss
      by true has d dash set one two = let m = more_is (joined word) (settings_of (next ∷ rest)) ss set in joined_first word (next ∷ rest) h ss m.0 has m.1 m.2 known (one m.0 m.1)
      by false has true dash set one two = absurd cc
      by false has false dash set one two = let m = more_is (apart word next) (settings_of rest) ss set in apart_first word next rest h ss m.0 dash m.2 known (two m.0 m.1)

-- ---- no option has a value of its own

no_default : (names : List Text) (rows : List Row) → fold with_default rows (rules_named names) ≡ rows
no_default [] rows = refl
no_default (n ∷ ns) rows = ap (λ r. fold with_default r (rules_named ns)) (by (has_row n rows)) ∙ no_default ns rows
  where
    by : (b : Bool) → cond b rows rows ≡ rows
    by true = refl
    by false = refl

-- the rows of the words are those of their settings
pub rows_are_set : (names : List Text) (words : List Text) (ss : List Setting) → ((n : Text) → list_any (λ m. bytes_eq n m) names ≡ true → IsMet (rules_named names) n)
    → settings_of words ≡ Some ss → list_all (is_named names) ss ≡ true → rows_after (rules_named names) [] words ≡ fold row_set [] ss
rows_are_set names words ss met set known =
    let r = reaches (rules_named names) names met words nothing_held ss set known in
    ap (λ w. finished (rules_named names) w.held) r.walks ∙ no_default names (rows_held (rules_named names) r.end) ∙ r.rows

-- where the walk meets each of the names, it meets any of them
pub any_is_met : (rules : List Rule) (names : List Text) → AllByRecursion (IsMet rules) names → (n : Text) → list_any (λ m. bytes_eq n m) names ≡ true → IsMet rules n
any_is_met rules [] met n h = absurd cc
any_is_met rules (m ∷ ms) met n h = by (bytes_eq n m) refl h (λ k. any_is_met rules ms met.1 n k)
  where
    by : (b : Bool) → bytes_eq n m ≡ b → (b || list_any (λ m. bytes_eq n m) ms) ≡ true → (list_any (λ m. bytes_eq n m) ms ≡ true → IsMet rules n) → IsMet rules n
    by true same h rest = subst (IsMet rules) (sym ((bytes_eq-Decides n m).0 same)) met.0
    by false same h rest = rest h

-- ---- the value in a row

abbrev found_row : Text → List Row → Option Row
found_row n rows = find (λ r. bytes_eq r.id n) rows

not_other : (i m n : Text) → bytes_eq m n ≡ false → bytes_eq i m ≡ true → bytes_eq i n ≡ false
not_other i m n differ same = subst (λ x. bytes_eq x n ≡ false) (sym ((bytes_eq-Decides i m).0 same)) differ

module _ (m n : Text) (differ : bytes_eq m n ≡ false) where
  removed_other : (rows : List Row) → found_row n (at_row m (λ _. []) [] rows) ≡ found_row n rows
  removed_other [] = refl
  removed_other (r ∷ rs) = by (bytes_eq r.id m) refl (removed_other rs)
    where
      by : (b : Bool) → bytes_eq r.id m ≡ b → found_row n (at_row m (λ _. []) [] rs) ≡ found_row n rs → found_row n (cond b rs (r ∷ at_row m (λ _. []) [] rs)) ≡ found_row n (r ∷ rs)
      by true same rest = sym (ap (λ b. cond b (Some r) (found_row n rs)) (not_other r.id m n differ same))
      by false same rest = ap (λ o. cond (bytes_eq r.id n) (Some r) o) rest

  added_other : (how : Reading) (vs : List Text) (rows : List Row) → found_row n (with_values m how CommandLine vs rows) ≡ found_row n rows
  added_other how vs [] = rw differ refl
  added_other how vs (r ∷ rs) = by (bytes_eq r.id m) refl (added_other how vs rs)
    where
      more : List Row
      more = with_values m how CommandLine vs rs

      by : (b : Bool) → bytes_eq r.id m ≡ b → found_row n more ≡ found_row n rs → found_row n (cond b (more_values CommandLine vs r ++ rs) (r ∷ more)) ≡ found_row n (r ∷ rs)
      by true same rest = ap (λ b. cond b (Some (record r { values = r.values ++ vs; source = Some (stronger r.source CommandLine) })) (found_row n rs)) (not_other r.id m n differ same)
          ∙ sym (ap (λ b. cond b (Some r) (found_row n rs)) (not_other r.id m n differ same))
      by false same rest = ap (λ o. cond (bytes_eq r.id n) (Some r) o) rest

module _ (n : Text) where
  abbrev new_row : Reading → List Text → Row
  new_row how vs = record { id = n; values = vs; count = None; source = Some CommandLine; reading = how }

  removed_none : (rows : List Row) → found_row n rows ≡ None → found_row n (at_row n (λ _. []) [] rows) ≡ None
  removed_none [] none = refl
  removed_none (r ∷ rs) none = by (bytes_eq r.id n) refl none (removed_none rs)
    where
      by : (b : Bool) → bytes_eq r.id n ≡ b → cond b (Some r) (found_row n rs) ≡ None → (found_row n rs ≡ None → found_row n (at_row n (λ _. []) [] rs) ≡ None)
          → found_row n (cond b rs (r ∷ at_row n (λ _. []) [] rs)) ≡ None
      by true same none rest = absurd cc
      by false same none rest = ap (λ b. cond b (Some r) (found_row n (at_row n (λ _. []) [] rs))) same ∙ rest none

  added_none : (how : Reading) (vs : List Text) (rows : List Row) → found_row n rows ≡ None → found_row n (with_values n how CommandLine vs rows) ≡ Some (new_row how vs)
  added_none how vs [] none = rw (same_bytes n) refl
  added_none how vs (r ∷ rs) none = by (bytes_eq r.id n) refl none (added_none how vs rs)
    where
      more : List Row
      more = with_values n how CommandLine vs rs

      by : (b : Bool) → bytes_eq r.id n ≡ b → cond b (Some r) (found_row n rs) ≡ None → (found_row n rs ≡ None → found_row n more ≡ Some (new_row how vs))
          → found_row n (cond b (more_values CommandLine vs r ++ rs) (r ∷ more)) ≡ Some (new_row how vs)
      by true same none rest = absurd cc
      by false same none rest = ap (λ b. cond b (Some r) (found_row n more)) same ∙ rest none

  values_first : (s : Setting) (ss : List Setting) (b : Bool) → bytes_eq s.name n ≡ b → values_of n (s ∷ ss) ≡ cond b (s.value ∷ values_of n ss) (values_of n ss)
  values_first s ss true is = rw is refl
  values_first s ss false is = rw is refl

  stays : (ss : List Setting) (rows : List Row) → values_of n ss ≡ [] → found_row n (fold row_set rows ss) ≡ found_row n rows
  stays [] rows none = refl
  stays (s ∷ ss) rows none = by (bytes_eq s.name n) refl (stays ss (row_set rows s))
    where
      by : (b : Bool) → bytes_eq s.name n ≡ b → (values_of n ss ≡ [] → found_row n (fold row_set (row_set rows s) ss) ≡ found_row n (row_set rows s)) → found_row n (fold row_set (row_set rows s) ss) ≡ found_row n rows
      by true is rest = let e = sym (values_first s ss true is) ∙ none in absurd cc
      by false is rest = rest (sym (values_first s ss false is) ∙ none) ∙ added_other s.name n is AsWritten (s.value ∷ []) (without s.name rows) ∙ removed_other s.name n is rows

  set_once : (ss : List Setting) (rows : List Row) (v : Text) → found_row n rows ≡ None → values_of n ss ≡ v ∷ [] → found_row n (fold row_set rows ss) ≡ Some (new_row AsWritten (v ∷ []))
  set_once [] rows v none once = absurd cc
  set_once (s ∷ ss) rows v none once = by (bytes_eq s.name n) refl (set_once ss (row_set rows s) v)
    where
      by : (b : Bool) → bytes_eq s.name n ≡ b → (found_row n (row_set rows s) ≡ None → values_of n ss ≡ v ∷ [] → found_row n (fold row_set (row_set rows s) ss) ≡ Some (new_row AsWritten (v ∷ [])))
          → found_row n (fold row_set (row_set rows s) ss) ≡ Some (new_row AsWritten (v ∷ []))
      by true is rest =
          let e : s.value ∷ values_of n ss ≡ v ∷ [] = sym (values_first s ss true is) ∙ once in
          let value : s.value ≡ v = cc in
          let left : values_of n ss ≡ [] = cc in
          let same : s.name ≡ n = (bytes_eq-Decides s.name n).0 is in
          stays ss (row_set rows s) left
          ∙ ap (λ m. found_row n (with_values m AsWritten CommandLine (s.value ∷ []) (without m rows))) same
          ∙ added_none AsWritten (s.value ∷ []) (without n rows) (removed_none rows none)
          ∙ ap (λ x. Some (new_row AsWritten (x ∷ []))) value
      by false is rest = rest (added_other s.name n is AsWritten (s.value ∷ []) (without s.name rows) ∙ removed_other s.name n is rows ∙ none) (sym (values_first s ss false is) ∙ once)

  -- an option that is given at most once has its value
  pub value_assigned : (ss : List Setting) (o : Option Text) → values_of n ss ≡ option_to_list o → first_of n (fold row_set [] ss) ≡ o
  value_assigned ss None given = ap (λ r. option_and_then (λ x. slice_get x.values 0) r) (stays ss [] given)
  value_assigned ss (Some v) given = ap (λ r. option_and_then (λ x. slice_get x.values 0) r) (set_once ss [] v refl given)
