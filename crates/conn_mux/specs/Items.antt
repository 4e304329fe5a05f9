-- What is taken of a stream, as an item of it.
use Rattle.std.specs.Prelude.{◌≡◌, ℕ, List, Option, Some, None}
use Rattle.http_front.specs.Items.{Item, taken_request, refused, IsItem, HasNoItem}
use Rattle.conn_mux.specs.declared.incoming.Incoming.{Incoming}
use Rattle.conn_mux.specs.declared.incoming.Incoming.TheVariants.{Whole, Bad}

-- what is taken, as an item
abbrev pub item_of : Incoming → Item
item_of (Whole request) = taken_request request
item_of Bad = refused

-- the first item of the stream is split off, and this rest is left; if it has none, all is left
abbrev pub Splits : List ℕ → Option Incoming → List ℕ → Type 0
Splits stream None rest = HasNoItem stream × (rest ≡ stream)
Splits stream (Some taken) rest = IsItem stream (item_of taken) rest
