-- The texts that names are made of: bytes of kinds, and labels (RFC 1123) joined by dots.
use Rattle.std.specs.Prelude.{ℕ, ◌≤◌, ◌<◌, ◌≡◌, ◌⊎◌, ◌-◌, ◌==◌, List, length, slice_index, All}
use Rattle.std.specs.List.{slice_split}

abbrev pub IsDigit : ℕ → Type 0
IsDigit c = (48 ≤ c) × (c ≤ 57)

abbrev pub IsLower : ℕ → Type 0
IsLower c = (97 ≤ c) × (c ≤ 122)

abbrev pub IsUpper : ℕ → Type 0
IsUpper c = (65 ≤ c) × (c ≤ 90)

abbrev pub IsLowerOrDigit : ℕ → Type 0
IsLowerOrDigit c = IsLower c ⊎ IsDigit c

abbrev pub IsLetterOrDigit : ℕ → Type 0
IsLetterOrDigit c = IsLower c ⊎ IsUpper c ⊎ IsDigit c

-- of `a-z`, `0-9` and the dash
abbrev pub IsLabelByte : ℕ → Type 0
IsLabelByte c = IsLowerOrDigit c ⊎ (c ≡ 45)

-- a label begins and ends with a letter or a digit
pub record IsLabel (text : List ℕ) : Type 0 where
  pub some : 0 < length text
  pub bytes : All IsLabelByte text
  pub first : IsLowerOrDigit (slice_index text 0)
  pub last : IsLowerOrDigit (slice_index text (length text - 1))

-- the texts between the dots are labels
abbrev pub IsDottedLabels : List ℕ → Type 0
IsDottedLabels text = All IsLabel (slice_split (λ c. c == 46) text)

-- a lower-case letter, then bytes of this kind, in all at most so many
pub record BeginsLower (most : ℕ) (rest : ℕ → Type 0) (text : List ℕ) : Type 0 where
  pub some : 0 < length text
  pub short : length text ≤ most
  pub first : IsLower (slice_index text 0)
  pub bytes : All rest text

-- an upper-case letter, then letters and digits, in all at most so many
pub record BeginsUpper (most : ℕ) (text : List ℕ) : Type 0 where
  pub some : 0 < length text
  pub short : length text ≤ most
  pub first : IsUpper (slice_index text 0)
  pub bytes : All IsLetterOrDigit text
