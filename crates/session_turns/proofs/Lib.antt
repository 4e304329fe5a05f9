pub mod CaughtLemmas
pub mod TurnLemmas
pub mod OneListLemmas
pub mod InOrderLemmas
