use Rattle.std.proofs.Common.{◌∷◌, [], refl, ap, ◌∙◌, codes}
use Rattle.clap.specs.Simple.{with_rule}
use Rattle.words.specs.Assigned.{base, raw}
use Rattle.words.specs.Settings.{texts_of}
use Rattle.words.proofs.MatchLemmas.{matched}
use Rattle.words.proofs.parsing.twin_matches.Goals as goal

pub returns : goal.returns
returns c =
    matched c.try_get_matches_from.result _ (with_rule (with_rule (with_rule (with_rule (with_rule (with_rule (base) (raw (codes "--emulated-version") (codes "emulated-version"))) (raw (codes "--min-compatibility-version") (codes "min-compatibility-version"))) (raw (codes "--feature-gates") (codes "feature-gates"))) (raw (codes "--runtime-config") (codes "runtime-config"))) (raw (codes "--seed") (codes "seed"))) (raw (codes "--size") (codes "size")))
    (codes "--emulated-version" ∷ codes "--min-compatibility-version" ∷ codes "--feature-gates" ∷ codes "--runtime-config" ∷ codes "--seed" ∷ codes "--size" ∷ []) (texts_of c.args.words.now)
    (c.in_ok-command-6.ensures ∙ ap (λ a. with_rule a (raw (codes "--size") (codes "size"))) (c.in_ok-command-5.ensures ∙ ap (λ a. with_rule a (raw (codes "--seed") (codes "seed"))) (c.in_ok-command-4.ensures ∙ ap (λ a. with_rule a (raw (codes "--runtime-config") (codes "runtime-config"))) (c.in_ok-command-3.ensures ∙ ap (λ a. with_rule a (raw (codes "--feature-gates") (codes "feature-gates"))) (c.in_ok-command-2.ensures ∙ ap (λ a. with_rule a (raw (codes "--min-compatibility-version") (codes "min-compatibility-version"))) (c.in_ok-command.ensures ∙ ap (λ a. with_rule a (raw (codes "--emulated-version") (codes "emulated-version"))) (c.begun-command.ensures))))))) refl refl c.try_get_matches_from.ensures.matches
