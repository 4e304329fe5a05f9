use Rattle.std.proofs.Common.{◌≡◌, inr, refl}
use Rattle.std.proofs.lemmas.Result.{IfOk-weaker}
use Rattle.discovery.specs.Groups.{group_list_page}
use Rattle.discovery.specs.Releases.{releases_page}
use Rattle.request_target.specs.Targets.{groups, releases}
use Rattle.serde_json.specs.Data.{Data}
use Rattle.plain_machine.specs.Answers.{document}
use Rattle.plain_machine.specs.Steps.{IsDocument, IsRead}
use Rattle.plain_machine.specs.declared.answer.Answer.{Answer}
use Rattle.plain_machine.proofs.read.page.Goals as goal

pub returns-in-Releases : goal.returns-in-Releases
returns-in-Releases c =
    let m = c.args.machine.now in
    let s = c.args.state.now.state in
    let page = releases_page m.release m.view.minor m.back in
    rw c.in-Releases.is
    (IfOk-weaker c.releases.result (λ (a : Answer). a ≡ document 200 page) (IsRead m s releases)
    (λ a is. let seen : (tree : Data) × IsDocument m s releases tree × (a ≡ document 200 tree) = (page, refl, is) in inr seen) c.releases.ensures)

pub returns-in-Groups : goal.returns-in-Groups
returns-in-Groups c =
    let m = c.args.machine.now in
    let s = c.args.state.now.state in
    let page = group_list_page m.view in
    rw c.in-Groups.is
    (IfOk-weaker c.groups.result (λ (a : Answer). a ≡ document 200 page) (IsRead m s groups)
    (λ a is. let seen : (tree : Data) × IsDocument m s groups tree × (a ≡ document 200 tree) = (page, refl, is) in inr seen) c.groups.ensures)
