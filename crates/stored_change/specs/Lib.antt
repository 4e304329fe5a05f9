-- Changes: changes of a state that the store of its records can take.
pub mod Changes
