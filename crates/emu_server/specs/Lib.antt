-- Lines: the lines of no words, of a failed read and of a refused history.
-- Histories: the history that bytes are, or why they are none that is accepted.
-- Answer: the answer to words and bytes.
-- Laws: that words and bytes have one answer.
-- Run: how a call ends that serves nothing, with its status, the bytes written and the bytes taken.
-- Written: what a text leaves that is written with a status.
-- Serving: which words ask to serve, and how serving ends.
-- Top: how a call ends on its words, its history and its world.
-- Complete: when a call that is to serve serves to its end.
pub mod Lines
pub mod Histories
pub mod Answer
pub mod Laws
pub mod Run
pub mod Written
pub mod Serving
pub mod Top
pub mod Complete
