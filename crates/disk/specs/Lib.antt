-- Beside: what may lie beside a disk, in an object that is a disk and a front of connections.
-- Calls: what a call that takes a disk leaves besides its subject.
-- Content: what a file in memory held at first, and what it holds.
-- Counted: a count of calls.
-- Folder: the files of a folder.
-- ImageLaws: what of the images the laws of a disk in memory stand on.
-- Images: the disk model: what a stop may leave of a file, by its bytes at its last good sync and what was done to it
--   since.
-- MemDisk: a disk in memory: what it held at first, and its calls.
-- MemLaws: what a disk in memory reads as is one of its images at the present.
-- Moments: moments: the values of a disk's clock.
-- Slots: the contents of the three files of a disk in memory.
-- Stops: what a stop is made to leave of a file.
pub mod Beside
pub mod Calls
pub mod Content
pub mod Counted
pub mod Folder
pub mod ImageLaws
pub mod Images
pub mod MemDisk
pub mod MemLaws
pub mod Moments
pub mod Slots
pub mod Stops
