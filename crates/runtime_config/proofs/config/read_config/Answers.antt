use Rattle.std.proofs.Common.{◌≡◌, ℕ, List, All, true, sym, ap, subst, ◌∙◌}
use Rattle.std.specs.BTreeMap.{BTreeMap}
use Rattle.std.proofs.lemmas.Bool.{false≢true}
use Rattle.flag_text.specs.Pieces.{pieces, last_pieces}
use Rattle.flag_text.specs.Said.{HasSaid}
use Rattle.flag_text.specs.declared.vocabulary.Vocabulary.TheVariants.{Plain}
use Rattle.lifecycle.specs.Entry.{GroupVersionResource}
use Rattle.lifecycle.specs.Tables.{cutoff}
use Rattle.lifecycle.specs.declared.entry.ApiEntry.{ApiEntry}
use Rattle.runtime_config.specs.Config.{IsPair, IsTakenKey, AreServed}
use Rattle.runtime_config.specs.Standings.{HasStandings}
use Rattle.runtime_config.specs.Serving.{Booleans, AreNamesOn}
use Rattle.runtime_config.specs.declared.standing.Standing.{Standing}
use Rattle.runtime_config.proofs.RefusalLemmas.{refusal_is}
use Rattle.runtime_config.proofs.ServedLemmas.{served_are}
use Rattle.runtime_config.proofs.config.read_config.Goals as goal

-- the index is that of the release, and the rows are those of the history
has_all : (entries tables whole : List ApiEntry) (e : ℕ) (m : BTreeMap (List ℕ) Standing) → tables ≡ cutoff entries e → whole ≡ entries → HasStandings tables e whole m → HasStandings (cutoff entries e) e entries m
has_all entries tables whole e m p q h = subst (λ ts. HasStandings ts e entries m) p (subst (λ xs. HasStandings tables e xs m) q h)

names_all : (entries tables whole : List ApiEntry) (e : ℕ) (m : Booleans) (names : List GroupVersionResource) → tables ≡ cutoff entries e → whole ≡ entries → AreNamesOn tables m whole names → AreNamesOn (cutoff entries e) m entries names
names_all entries tables whole e m names p q h = subst (λ ts. AreNamesOn ts m entries names) p (subst (λ xs. AreNamesOn tables m xs names) q h)

pub returns-in-Some-first_refusal-clause-fault : goal.returns-in-Some-first_refusal-clause-fault
returns-in-Some-first_refusal-clause-fault c =
    refusal_is c.args.entries.now c.args.e c.args.text.now c.deref-2.result.now c.in-Some-first_refusal.fault (subst (λ ps. All IsPair ps) (c.deref.ensures.value ∙ c.in_ok-pieces.ensures) c.in_default.ensures.none)
    (c.deref-2.ensures.value ∙ c.in_ok-last.ensures.order ∙ ap last_pieces c.in_ok-pieces.ensures)
    (c.in-Some-first_refusal.ensures.some c.args.entries.now c.args.e (has_all c.args.entries.now _ _ c.args.e c.in_ok-known.known c.in_ok-index.ensures c.requires.whole c.in_ok-known.ensures))

pub returns-clause-accepted : goal.returns-clause-accepted
returns-clause-accepted c = record {
  pairs = subst (λ ps. All IsPair ps) (c.deref.ensures.value ∙ c.in_ok-pieces.ensures) c.in_default.ensures.none;
  taken = subst (λ ps. All (λ p. IsTakenKey (cutoff c.args.entries.now c.args.e) p.name) ps) (c.deref-2.ensures.value ∙ c.in_ok-last.ensures.order ∙ ap last_pieces c.in_ok-pieces.ensures)
      (c.in_default-first_refusal.ensures.none c.args.entries.now c.args.e (has_all c.args.entries.now _ _ c.args.e c.in_ok-known.known c.in_ok-index.ensures c.requires.whole c.in_ok-known.ensures));
  more = λ only.
      let there : c.is_only_all_false.result ≡ true = c.is_only_all_false.ensures.1 (only.0, c.deref-3.ensures.value ∙ c.in_ok-last.ensures.order ∙ ap last_pieces c.in_ok-pieces.ensures ∙ only.1, only.2, only.3) in
      false≢true (sym c.if-is_only_all_false.false ∙ there);
}

pub returns-clause-served : goal.returns-clause-served
returns-clause-served c =
    subst (AreServed (cutoff c.args.entries.now c.args.e) (pieces c.args.text.now)) (sym c.new.ensures)
    (served_are c.args.entries.now c.args.e (pieces c.args.text.now) c.in_ok-last.last.booleans c.in_ok-names.names.items (subst (λ ps. HasSaid Plain ps c.in_ok-last.last.booleans) c.in_ok-pieces.ensures c.in_ok-last.ensures.booleans)
    (names_all c.args.entries.now _ _ c.args.e c.in_ok-last.last.booleans c.in_ok-names.names.items c.in_ok-index.ensures c.requires.whole c.in_ok-names.ensures))
