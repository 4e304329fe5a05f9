-- Words: the boolean words of flag texts.
-- Pieces: the pieces of a flag text, between its commas.
-- Said: what the pieces of a flag text say.
-- Passes: a pass over pieces that stops at its first fault.
pub mod Words
pub mod Pieces
pub mod Said
pub mod Passes
