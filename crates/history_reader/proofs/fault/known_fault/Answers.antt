use Rattle.std.proofs.Common.{ℕ, List, ◌++◌, Option, Some, None, IfSome, map}
use Rattle.std.specs.List.{AllByRecursion}
use Rattle.std.proofs.lemmas.List.{map-append}
use Rattle.toml.specs.Data.{Members}
use Rattle.toml.specs.View.{table_view}
use Rattle.schemas.specs.declared.array.Array.{Array}
use Rattle.history_reader.specs.declared.fault.Fault.{Fault}
use Rattle.history_reader.specs.Faults.{place_of}
use Rattle.history_reader.specs.Rows.{Row}
use Rattle.history_reader.specs.Tests.{Passes, IsFirstFault, row_test}
use Rattle.history_reader.proofs.TestLemmas.{fault-front, fault-back}
use Rattle.history_reader.proofs.fault.known_fault.Goals as goal

-- the fault of the own rows, where the common ones have none
own_fault : (array : Array) (index : ℕ) (ms : Members) (common own : List Row) (o : Option Fault)
    → AllByRecursion Passes (map (row_test array index ms) common)
    → IfSome o (λ f. IsFirstFault (map (row_test array index ms) own) (place_of f))
    → IfSome o (λ f. IsFirstFault (map (row_test array index ms) (common ++ own)) (place_of f))
own_fault array index ms common own None passed h = tt
own_fault array index ms common own (Some f) passed h =
    rw (map-append (row_test array index ms) common own) (fault-back _ _ _ passed h)

pub returns-in-Some-clause-some : goal.returns-in-Some-clause-some
returns-in-Some-clause-some c =
    rw (map-append (row_test c.args.array c.args.index (table_view c.args.table.now)) c.args.rows.common.now c.args.rows.own.now)
    (fault-front _ _ _ c.in-Some.ensures.some)

pub returns-in-None-clause-some : goal.returns-in-None-clause-some
returns-in-None-clause-some c =
    own_fault c.args.array c.args.index (table_view c.args.table.now) c.args.rows.common.now c.args.rows.own.now _
    c.in-None.ensures.none c.row_fault-in-None.ensures.some
