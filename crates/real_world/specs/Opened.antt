-- How many connections were opened.
use Rattle.std.specs.Prelude.{ℕ}
use Rattle.real_world.specs.declared.clients.Clients.{Clients}
use Rattle.real_world.specs.declared.clients.Clients.TheVariants.{Nobody, Script, Listening}

abbrev pub opened_by : Clients → ℕ
opened_by Nobody = 0
opened_by (Script tape) = tape.opened
opened_by (Listening listener) = listener.table.opened
