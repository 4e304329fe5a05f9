-- Settings: words as settings, an option's name and its value in one of two forms.
-- Table: the table of commands and their options, and which values settings give to options.
-- Commands: the command that words are of, and where it works.
-- Assigned: the rows of values that `clap` makes of words.
-- Laws: that words are of one command at most.
pub mod Settings
pub mod Table
pub mod Commands
pub mod Assigned
pub mod Laws
