-- What the definitions of reading say together: a text has one answer.
use Rattle.std.specs.Prelude.{ℕ, ◌≡◌, ◌≢◌, List}
use Rattle.schemas.specs.Dated.{Dated, IsShaped}
use Rattle.history_reader.specs.declared.read.HistoryFault.{HistoryFault}
use Rattle.history_reader.specs.declared.read.HistoryFault.TheVariants.{Memory}
use Rattle.history_reader.specs.Meaning.{MeansHistory, IsRefused}

-- a text means at most one history
abbrev pub MeansOneHistory : Type 0
MeansOneHistory = (text : List ℕ) (h k : Dated) → MeansHistory text h → MeansHistory text k → h ≡ k

-- what means a history is refused for want of memory alone
abbrev pub MeansOrIsRefused : Type 0
MeansOrIsRefused =
    (text : List ℕ) (h : Dated) (fault : HistoryFault) → MeansHistory text h → IsRefused text fault
    → fault ≡ Memory

-- a text is refused for one cause, at one place
abbrev pub HasOneFault : Type 0
HasOneFault =
    (text : List ℕ) (e f : HistoryFault) → e ≢ Memory → f ≢ Memory → IsRefused text e
    → IsRefused text f → e ≡ f

-- what a text means has the shapes that the type of histories keeps
abbrev pub MeaningIsShaped : Type 0
MeaningIsShaped = (text : List ℕ) (h : Dated) → MeansHistory text h → IsShaped h

-- a text that means no history is refused for a named fault
abbrev pub HasSomeAnswer : Type 0
HasSomeAnswer = (text : List ℕ) → ((h : Dated) → ¬ MeansHistory text h)
    → ¬ ((fault : HistoryFault) → fault ≢ Memory → ¬ IsRefused text fault)
