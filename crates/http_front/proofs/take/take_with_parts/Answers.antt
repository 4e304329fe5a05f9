use Rattle.std.proofs.Common.{◌≡◌, ◌∙◌, sym, Some, None}
use Rattle.http_front.specs.Told.{number_at}
use Rattle.http_front.proofs.TakeLemmas.{told_said, told_nothing}
use Rattle.http_front.proofs.take.take_with_parts.Goals as goal

pub take_body-requires : goal.take_body-requires
take_body-requires c =
    let told : number_at c.args.head.now c.args.lines.now ≡ Some c.in-Some.number = sym c.in_ok-number.ensures ∙ c.in-Some.is in
    told_said c.args.buf.now c.args.front.now c.args.head.now c.args.lines.now c.args.found c.in-Some.number c.in_ok-said-in-Some.said
    c.requires.front c.requires.short c.requires.few c.requires.read told c.in_ok-said-in-Some.ensures

pub returns-in-None : goal.returns-in-None
returns-in-None c =
    let none : number_at c.args.head.now c.args.lines.now ≡ None = sym c.in_ok-number.ensures ∙ c.in-None.is in
    told_nothing c.args.buf.now c.args.front.now c.args.head.now c.args.lines.now c.args.found c.requires.front c.requires.read none
