-- Items: what is taken of a stream, as an item of it.
-- Flows: what is left of a connection's stream while its items are taken.
-- Held: a mux as a finite map from connections to what is left of their streams.
-- Streams: the whole stream of a connection, and how far its items were taken.
-- Orders: the order in which the items of many streams are completed.
-- Follows: that a mux follows the streams of its connections, through each call.
pub mod Items
pub mod Flows
pub mod Held
pub mod Streams
pub mod Orders
pub mod Follows
