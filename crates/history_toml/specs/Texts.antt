-- What a text of a history says to its reader.
use Rattle.std.specs.Prelude.{ℕ, ◌≡◌, ◌<◌, ◌⊎◌, List, length}
use Rattle.toml.specs.Data.{Members}
use Rattle.schemas.specs.Dated.{Dated}
use Rattle.history_reader.specs.declared.read.HistoryFault.{HistoryFault}
use Rattle.history_reader.specs.declared.read.HistoryFault.TheVariants.{Memory, TooLong}
use Rattle.history_reader.specs.Meaning.{ReadsAs, MeansTree, MeansHistory, IsRefused, longest_document}

-- the bytes are a text that TOML reads as a tree of this history, however long they are
pub record TellsHistory (text : List ℕ) (h : Dated) : Type 0 where
  pub tree : Members
  pub reads : ReadsAs text tree
  pub means : MeansTree tree h

-- a reader of the bytes answers this history, or that memory ran out or the bytes are too many
pub record IsReadBack (text : List ℕ) (h : Dated) : Type 0 where
  pub same : (k : Dated) → MeansHistory text k → k ≡ h
  pub refused : (fault : HistoryFault) → IsRefused text fault
      → (fault ≡ Memory) ⊎ ((fault ≡ TooLong) × (longest_document < length text))
