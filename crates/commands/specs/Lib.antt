-- Numbers: the number of each status.
-- Answers: what holds of an answer's status and text.
-- Releases: the release that a command emulates.
-- Endings: what serving says at its end.
-- Texts: the texts that words give.
-- Check, Discover, Gates, Convert, Fold, Cut, Twins: what each command is to answer.
-- Work: what a command is to answer on an accepted history.
-- Laws: that it has one answer.
pub mod Numbers
pub mod Answers
pub mod Releases
pub mod Check
pub mod Discover
pub mod Gates
pub mod Convert
pub mod Fold
pub mod Cut
pub mod Endings
pub mod Texts
pub mod Twins
pub mod Work
pub mod Laws
