-- Fault: what the answers of a check say of a history.
-- Previous: links from each entry to an earlier one.
-- Dates: the earliest dates of the changes of versions.
-- Followers: by when the versions deprecated in favour of another are forgotten.
-- DatesFields: the fields of an index of dates, as contracts see it.
-- Kinds: the kinds of resources and the resources of kinds, as maps by name have them.
-- KindsFields: what the kinds of entries hold.
pub mod Fault
pub mod Previous
pub mod Dates
pub mod Followers
pub mod DatesFields
pub mod Kinds
pub mod KindsFields
