-- Choice: the releases that texts choose of a history.
pub mod Choice
