-- What the type of a view keeps, whatever history the view was made of.
use Rattle.std.specs.Prelude.{◌≡◌, List, All, IsTrue}
use Rattle.gate_flags.specs.Values.{AreInOrder}
use Rattle.lifecycle.specs.Version.{IsWord, word_text}
use Rattle.release_view.specs.Known.{AreInPlace}
use Rattle.release_view.specs.Spelling.{HaveLawfulTables, SpellAlike}
use Rattle.release_view.specs.Views.{Viewed}
use Rattle.release_view.specs.declared.known.KnownVersion.{KnownVersion}

-- the version's word is that of its text
pub record IsSpelled (v : KnownVersion) : Type 0 where
  pub lawful : IsWord v.word
  pub text : v.table.version ≡ word_text v.word

abbrev pub AreSpelled : List KnownVersion → Type 0
AreSpelled versions = All IsSpelled versions

-- what is served is live
abbrev pub ServesLive : List KnownVersion → Type 0
ServesLive versions = All (λ v. IsTrue v.served → IsTrue v.live) versions

-- the versions are in order, each with the word of its text, and what is served is live; their tables are lawful, and
-- those of a resource spell the same fields; the gates are in order of their names
pub record IsKept (view : Viewed) : Type 0 where
  pub order : AreInPlace view.versions
  pub spelled : AreSpelled view.versions
  pub live : ServesLive view.versions
  pub lawful : HaveLawfulTables view.versions
  pub alike : SpellAlike view.versions
  pub gates : AreInOrder view.gates
