pub mod ChangeLemmas
pub mod CountLemmas
pub mod StopLemmas
pub mod RoomLemmas
pub mod WriteLemmas
