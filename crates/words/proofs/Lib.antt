pub mod KindLemmas
pub mod SettingLemmas
pub mod ValueLemmas
pub mod OneLemmas
pub mod WalkLemmas
pub mod MatchLemmas
pub mod AssignLemmas
