-- The entries of a program, by the sections in which they are.
use Rattle.std.specs.Prelude.{ℕ, ◌≡◌, false, ◌==◌, List, [], ◌∷◌, ◌++◌, Option, Some, None}
use Rattle.cob_tree.specs.declared.entry.Entry.{Entry}

-- the FD of the file with this number, and its records, of which there is one at least
pub record Fd : Type 0 where
  pub number : ℕ
  pub first : Entry
  pub more : List Entry

-- the records of an FD
abbrev pub records : Fd → List Entry
records fd = fd.first ∷ fd.more

-- the records of these FDs
abbrev pub all_records : List Fd → List Entry
all_records [] = []
all_records (fd ∷ fds) = records fd ++ all_records fds

-- each is in the FD of this file, or in none
abbrev pub StandIn : Option ℕ → List Entry → Type 0
StandIn file [] = Unit {0}
StandIn file (entry ∷ entries) = (entry.file ≡ file) × StandIn file entries

-- the records of each FD are of its file
abbrev pub AreFiled : List Fd → Type 0
AreFiled [] = Unit {0}
AreFiled (fd ∷ fds) = StandIn (Some fd.number) (records fd) × AreFiled fds

-- the FD before, if any, is of another file
abbrev pub IsOther : (before : Option ℕ) → Fd → Type 0
IsOther None fd = Unit {0}
IsOther (Some number) fd = (number == fd.number) ≡ false

-- no two neighbours are of one file
abbrev pub AreApart : (before : Option ℕ) → List Fd → Type 0
AreApart before [] = Unit {0}
AreApart before (fd ∷ fds) = IsOther before fd × AreApart (Some fd.number) fds

-- the entries of files come first, FD by FD, and then those of working storage
pub record IsSorted (fds : List Fd) (storage entries : List Entry) : Type 0 where
  -- the entries are those of the FDs, and then those of working storage
  pub is : entries ≡ all_records fds ++ storage
  -- the records of each FD are of its file
  pub filed : AreFiled fds
  -- no two neighbours are of one file
  pub apart : AreApart None fds
  -- the entries of working storage are of no file
  pub stored : StandIn None storage
