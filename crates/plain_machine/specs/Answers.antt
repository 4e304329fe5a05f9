-- Answers to requests, and the replies that carry them.
use Rattle.std.specs.Prelude.{ℕ, List, [], Option, Bool, true, false}
use Rattle.http_front.specs.Refusals.{refusal_text}
use Rattle.http_front.specs.declared.reply.Page.TheVariants.{Json, Metrics}
use Rattle.http_front.specs.declared.reply.Reply.{Reply}
use Rattle.http_front.specs.declared.request.Request.{Request}
use Rattle.http_front.specs.declared.request.Verb.{Verb}
use Rattle.http_front.specs.declared.request.Verb.TheVariants.{Get, Post, Put, Delete, Patch, Head, Other}
use Rattle.object_pages.specs.Documents.{document_text}
use Rattle.plain_machine.specs.declared.answer.Answer.{Answer}
use Rattle.serde_json.specs.Data.{Data}

abbrev pub document : ℕ → Data → Answer
document code tree = record { code = code; page = Json; allow = []; body = document_text tree }

abbrev pub metrics_answer : List ℕ → Answer
metrics_answer page = record { code = 200; page = Metrics; allow = []; body = page }

abbrev pub refusal : ℕ → List ℕ → List ℕ → Answer
refusal code reason message = record {
  code = code;
  page = Json;
  allow = [];
  body = refusal_text code message reason;
}

abbrev pub is_head : Verb → Bool
is_head Head = true
is_head Get = false
is_head Post = false
is_head Put = false
is_head Delete = false
is_head Patch = false
is_head Other = false

-- the reply to a request: its answer, with what it warns of; without the body, to HEAD; the last
-- one where the request is
abbrev pub reply_to : Request → Option (List ℕ) → Answer → Reply
reply_to q warning a = record {
  code = a.code;
  page = a.page;
  allow = a.allow;
  warning = warning;
  body = a.body;
  bare = is_head q.verb;
  last = q.last;
}
