use Rattle.std.proofs.Common.{◌≡◌, ◌∙◌, Bool, true, false, subst, sym}
use Rattle.commands.specs.Work.{IsPlain}
use Rattle.emu_server.proofs.top.plain_command.Goals as goal

pub returns-else-is_plain-clause-none : goal.returns-else-is_plain-clause-none
returns-else-is_plain-clause-none c asked =
    let same = c.words_have_one_command.ensures asked.0 c.in-Ok.command asked.1 c.in-Ok.ensures.ok in
    let plain : IsPlain c.in-Ok.command = subst IsPlain same asked.2 in
    let holds : c.is_plain.result ≡ true = c.is_plain.ensures.1 plain in
    let fails : c.is_plain.result ≡ false = c.if-is_plain.false in
    absurd (let both : true ≡ false = sym holds ∙ fails in cc)
