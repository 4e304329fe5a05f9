use Rattle.std.proofs.Common.{◌≡◌, List, map}
use Rattle.std.proofs.lemmas.Result.{IfOk-weaker}
use Rattle.object_journal.specs.declared.entry.Entry.{Entry}
use Rattle.object_store.specs.Records.{AreRecords}
use Rattle.object_store.specs.Left.{AreLeft, item_at}
use Rattle.object_store.proofs.LeftLemmas.{records_left}
use Rattle.object_store.proofs.recovered.Recovered.listed.Goals as goal

pub returns : goal.returns
returns c =
    let held = c.args.self.held in
    IfOk-weaker c.listed.result (λ v. v.items ≡ map item_at held.entries) (λ v. (entries : List Entry) → AreLeft held entries → AreRecords entries v.items) (λ v is entries left. records_left held entries v.items is c.listed.ensures.ordered left) c.listed.ensures.items
