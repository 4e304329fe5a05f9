mod SpanLemmas
mod TokenLemmas
pub mod TextLemmas
pub mod HeldLemmas
pub mod RoomLemmas
pub mod PlacedLemmas
pub mod ShownLemmas
pub mod PutLemmas
