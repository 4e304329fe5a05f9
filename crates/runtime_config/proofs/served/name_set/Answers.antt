use Rattle.std.proofs.Common.{◌≡◌, ◌+◌, ◌∷◌, [], ◌++◌, take, ap, sym, subst, ◌∙◌, List, ℕ}
use Rattle.std.specs.List.Sorted.{IsStrictlySortedBy}
use Rattle.std.specs.BTreeSet.{insert_key}
use Rattle.std.proofs.lemmas.List.{map_more}
use Rattle.lifecycle.specs.Entry.{GroupVersionResource, subject}
use Rattle.lifecycle.specs.declared.entry.ApiEntry.{ApiEntry}
use Rattle.runtime_config.specs.Rows.{entries_of}
use Rattle.runtime_config.specs.Served.{by_name}
use Rattle.runtime_config.specs.Serving.{AreNamesOn}
use Rattle.runtime_config.specs.declared.keys.Row.{Row}
use Rattle.runtime_config.proofs.ServedLemmas.{names_more, names_same}
use Rattle.runtime_config.proofs.served.name_set.Goals as goal
use Rattle.runtime_config.proofs.served.name_set.Goals.{then-is_on+in_ok-name+in_ok-insert, else-is_on}

pub loop-row-preserved : goal.loop-row-preserved
loop-row-preserved c =
    let rows = c.args.rows.now in
    let k : ℕ = c.loop-row.row-index in
    let row : Row = c.row-item.result in
    let x : ApiEntry = row.entry.now in
    let old : List GroupVersionResource = c.loop-row.set.keys in
    let grown : entries_of (take (k + 1) rows) ≡ entries_of (take k rows) ++ x ∷ [] = map_more (λ (r : Row). r.entry.now) rows k row c.loop-row-test.true ∙ ap (λ (r : Row). entries_of (take k rows) ++ r.entry.now ∷ []) (sym c.row-item.is) in
    subst (λ xs. AreNamesOn c.args.index.now c.args.booleans.now xs c.if-is_on.set.keys) (sym grown)
    (elim c.if-is_on.branch [
      | then-is_on+in_ok-name+in_ok-insert w ↦
          let keys : c.if-is_on.set.keys ≡ insert_key by_name old (subject x) = ap (λ s. s.keys) w.set-is ∙ w.in_ok-insert.ensures.keys ∙ ap (insert_key by_name old) w.in_ok-name.ensures in
          let ordered : IsStrictlySortedBy by_name c.if-is_on.set.keys = subst (λ s. IsStrictlySortedBy by_name s.keys) (sym w.set-is) w.in_ok-insert.ensures.ordered in
          subst (AreNamesOn c.args.index.now c.args.booleans.now (entries_of (take k rows) ++ x ∷ [])) (sym keys)
          (names_more c.args.index.now c.args.booleans.now (entries_of (take k rows)) old x (c.is_on.ensures.0 w.if-is_on.true) c.loop-row.invariant (subst (IsStrictlySortedBy by_name) keys ordered))
      | else-is_on w ↦
          subst (λ s. AreNamesOn c.args.index.now c.args.booleans.now (entries_of (take k rows) ++ x ∷ []) s.keys) (sym w.set-is)
          (names_same c.args.index.now c.args.booleans.now (entries_of (take k rows)) old x (λ on. absurd (let t = c.is_on.ensures.1 on in let f = w.if-is_on.false in cc)) c.loop-row.invariant)
    ])
