-- Pieces: how a mux gives the items of a piece, and which turns they have.
-- Ends: how a session ends, and what it leaves.
-- Drawn: how far the events of a front were taken.
-- Laws: what follows from the definitions.
pub mod Pieces
pub mod Ends
pub mod Drawn
pub mod Laws
