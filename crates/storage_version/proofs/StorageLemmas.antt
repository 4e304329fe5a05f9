-- A look-up that finds something.
use Rattle.std.specs.Borrow.{Bor}
use Rattle.std.specs.Prelude.{Some, None, IsSome}
use Rattle.std.specs.Option.{option_copied}
use Rattle.std.specs.declared.option.Option.{Option}

pub some_copied : {T : Type 0} (o : Option (Bor T)) → IsSome (option_copied o) → IsSome o
some_copied (Some x) h = h
some_copied None h = h
