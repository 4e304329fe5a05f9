-- LawfulLemmas: lawful events, with one more and with fewer.
-- WeightLemmas: what a script keeps while events are appended.
-- HexLemmas: digits write bytes in one way.
-- SpaceLemmas: a text is cut at its first space in one way; words at the front of a line.
-- WritingLemmas: a line writes one event.
-- StandingLemmas: the connections that events leave open, with one event more.
-- ReadingLemmas: lines and their events, one by one.
mod LawfulLemmas
mod WeightLemmas
mod HexLemmas
mod SpaceLemmas
mod WritingLemmas
mod StandingLemmas
mod ReadingLemmas
