use Rattle.std.proofs.Common.{subst}
use Rattle.http_header.specs.FieldValue.{IsVisibleAscii}
use Rattle.std.proofs.Common.{◌<◌, ◌^◌, length, List, ℕ}
use Rattle.http_front.proofs.ReplyLemmas.{reads_back, small_code}
use Rattle.http_front.proofs.reply.reply_reads_back.Goals as goal

pub returns : goal.returns
returns c =
    let P : List ℕ → Type 0 = λ bytes. length bytes < 2 ^ 64 in
    reads_back c.args.reply.now (small_code c.args.reply.now.code c.requires.code) (subst P c.bytes.ensures c.length_of-length.ensures.bound)
    (subst IsVisibleAscii c.phrase_of-phrase.ensures.value c.phrase_of-phrase.ensures.visible) c.requires.plain
