use Rattle.std.proofs.Common.{◌∙◌, refl, sym}
use Rattle.words.specs.Settings.{settings_in, texts_of}
use Rattle.words.specs.Table.{row_of}
use Rattle.words.specs.declared.command.Command.TheVariants.{Discover}
use Rattle.words.proofs.AssignLemmas.{all_once, assigned, discover_met, discover_names}
use Rattle.words.proofs.KindLemmas.{none_fits, not_both}
use Rattle.words.proofs.rows.discover.Goals as goal

pub returns-then-not-are_named-clause-usage : goal.returns-then-not-are_named-clause-usage
returns-then-not-are_named-clause-usage c usage d =
    none_fits _ _ d (λ e r give. not_both _ (sym c.are_named.ensures ∙ c.if-not-are_named.true) give.known)

pub returns-clause-ok : goal.returns-clause-ok
returns-clause-ok c = record {
  named = refl;
  give = record { known = sym c.are_named.ensures ∙ c.if-not-are_named.false; given = (c.in_ok-optional.ensures.ok, (c.in_ok-optional-2.ensures.ok, tt)) };
}

pub returns-then-not-are_once-clause-usage : goal.returns-then-not-are_once-clause-usage
returns-then-not-are_once-clause-usage c usage d =
    none_fits _ _ d (λ e r give. not_both _ (sym c.are_once.ensures ∙ c.if-not-are_once.true) (all_once (settings_in c.args.settings.now) (row_of (Discover e r)).options give.given))

pub optional-requires : goal.optional-requires
optional-requires c = assigned discover_names (texts_of c.args.words.now) (settings_in c.args.settings.now) c.in-Ok.matches discover_met c.requires (sym c.are_named.ensures ∙ c.if-not-are_named.false) c.in-Ok.ensures

pub optional-requires-2 : goal.optional-requires-2
optional-requires-2 c = assigned discover_names (texts_of c.args.words.now) (settings_in c.args.settings.now) c.in-Ok.matches discover_met c.requires (sym c.are_named.ensures ∙ c.if-not-are_named.false) c.in-Ok.ensures
