-- Turns: which items of its connections a session answers, in which order, and after how many
-- events.
-- Caught: a mux whose items are all taken, and one that is amid a piece.
-- Laws: what follows from the definitions.
pub mod Turns
pub mod Caught
pub mod Laws
