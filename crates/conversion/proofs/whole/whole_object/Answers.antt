use Rattle.std.proofs.Common.{◌<◌, Option, Some, None, IfSome, option_map, sym, ◌∙◌, ap, subst}
use Rattle.conversion.specs.Code.{members_in}
use Rattle.serde_json.specs.Data.{Data, object, depth}
use Rattle.serde_json.specs.Read.{max_depth}
use Rattle.serde_json.specs.View.{view, members_view}
use Rattle.serde_json.specs.declared.value.Value.{Value, Object}
use Rattle.serde_json.specs.Written.{has_float}
use Rattle.serde_json.proofs.Views.{view-Object}
use Rattle.conversion.specs.Whole.{IsWhole}
use Rattle.conversion.proofs.ObjectLemmas.{object_is, members_plain}
use Rattle.conversion.proofs.WholeLemmas.{put_in_turn, whole_is, named_plain}
use Rattle.conversion.proofs.WholeReadLemmas.{whole_reads, whole_depth}
use Rattle.conversion.proofs.whole.whole_object.Goals as goal

pub returns-clause-whole : goal.returns-clause-whole
returns-clause-whole c =
    let table = c.args.table.now in
    let own = option_map view c.args.metadata in
    let shown = view c.in_ok-shown.shown in
    let same = put_in_turn table c.args.version.now own c.as_str.result.now (members_in (Some shown)) (members_view c.members_of-members.result.entries) (members_view c.put_text.new.members.entries) (members_view c.put_text-2.new.members.entries) (members_view c.put_some.new.members.entries)
    c.members_of-members.ensures c.in_ok-put_text.ensures c.as_str.ensures c.in_ok-put_text-2.ensures c.in_ok-put_some.ensures in
    subst (IsWhole table c.args.version.now c.args.fields.now own) (sym (view-Object c.put_some.new.members ∙ ap object same))
    (whole_is table c.args.version.now c.args.fields.now own shown (members_in (Some shown)) c.requires.lawful c.in_ok-shown.ensures.shown (object_is shown c.in_ok-shown.ensures.shown.object))

pub returns-clause-no_float : goal.returns-clause-no_float
returns-clause-no_float c =
    let table = c.args.table.now in
    let own = option_map view c.args.metadata in
    let shown = view c.in_ok-shown.shown in
    let same = put_in_turn table c.args.version.now own c.as_str.result.now (members_in (Some shown)) (members_view c.members_of-members.result.entries) (members_view c.put_text.new.members.entries) (members_view c.put_text-2.new.members.entries) (members_view c.put_some.new.members.entries)
    c.members_of-members.ensures c.in_ok-put_text.ensures c.as_str.ensures c.in_ok-put_text-2.ensures c.in_ok-put_some.ensures in
    ap has_float (view-Object c.put_some.new.members ∙ ap object same)
    ∙ named_plain table c.args.version.now c.args.metadata (members_in (Some shown)) c.requires.no_float (members_plain shown c.in_ok-shown.ensures.no_float)

seen : (own : Option Value) → IfSome own (λ v. depth (view v) < max_depth) → IfSome (option_map view own) (λ json. depth json < max_depth)
seen None h = h
seen (Some v) h = h

pub returns-clause-reads_back : goal.returns-clause-reads_back
returns-clause-reads_back c =
    whole_reads c.args.table.now c.args.version.now c.args.fields.now (option_map view c.args.metadata) (view (Object c.put_some.new.members)) c.requires.lawful c.requires.fits (returns-clause-whole c)

pub returns-clause-shallow : goal.returns-clause-shallow
returns-clause-shallow c = λ small.
    whole_depth c.args.table.now c.args.version.now c.args.fields.now (option_map view c.args.metadata) (view (Object c.put_some.new.members)) c.requires.lawful (seen c.args.metadata small) (returns-clause-whole c)
