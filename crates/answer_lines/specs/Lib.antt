-- Options: why the text of an option is refused.
-- Serving: how serving ended, and why a store isn't served.
pub mod Options
pub mod Serving
