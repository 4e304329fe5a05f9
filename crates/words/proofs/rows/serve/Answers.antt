use Rattle.std.proofs.Common.{◌∙◌, sym}
use Rattle.words.specs.Settings.{settings_in, texts_of}
use Rattle.words.specs.Table.{row_of}
use Rattle.words.specs.declared.command.Command.TheVariants.{Serve}
use Rattle.words.proofs.AssignLemmas.{all_once, assigned, serve_met, serve_names}
use Rattle.words.proofs.KindLemmas.{none_fits, not_both}
use Rattle.words.proofs.rows.serve.Goals as goal

pub returns-then-not-are_once-clause-usage : goal.returns-then-not-are_once-clause-usage
returns-then-not-are_once-clause-usage c usage d =
    none_fits _ _ d (λ f s p n give. not_both _ (sym c.are_once.ensures ∙ c.if-not-are_once.true) (all_once (settings_in c.args.settings.now) (row_of (Serve f s p n)).options give.given))

pub flag_texts-requires : goal.flag_texts-requires
flag_texts-requires c = assigned serve_names (texts_of c.args.words.now) (settings_in c.args.settings.now) c.in-Ok.matches serve_met c.requires (sym c.are_named.ensures ∙ c.if-not-are_named.false) c.in-Ok.ensures

pub required-requires : goal.required-requires
required-requires c = assigned serve_names (texts_of c.args.words.now) (settings_in c.args.settings.now) c.in-Ok.matches serve_met c.requires (sym c.are_named.ensures ∙ c.if-not-are_named.false) c.in-Ok.ensures

pub number-requires : goal.number-requires
number-requires c = assigned serve_names (texts_of c.args.words.now) (settings_in c.args.settings.now) c.in-Ok.matches serve_met c.requires (sym c.are_named.ensures ∙ c.if-not-are_named.false) c.in-Ok.ensures

pub number-requires-2 : goal.number-requires-2
number-requires-2 c = assigned serve_names (texts_of c.args.words.now) (settings_in c.args.settings.now) c.in-Ok.matches serve_met c.requires (sym c.are_named.ensures ∙ c.if-not-are_named.false) c.in-Ok.ensures
