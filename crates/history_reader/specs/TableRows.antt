-- The rows of a table, as the program has them: those that all tables of the array have, and its
-- own.
use Rattle.std.specs.Prelude.{List, ◌++◌}
use Rattle.history_reader.specs.Rows.{Row}
use Rattle.history_reader.specs.declared.rows.TableRows.{TableRows}

abbrev pub rows_in : TableRows → List Row
rows_in rows = rows.common.now ++ rows.own.now
