-- The rules on files, as the files and FDs of a program keep them.
use Rattle.std.specs.Prelude.{ℕ, ◌≡◌, Bool, true, false, List, [], ◌∷◌, ◌++◌, slice_get, Some}
use Rattle.std.specs.List.{list_any}
use Rattle.std.specs.Str.{bytes_eq}
use Rattle.cob_tree.specs.declared.entry.Entry.{Entry}
use Rattle.cob_tree.specs.declared.file.FileEntry.{FileEntry}
use Rattle.cob_tree.specs.declared.program.Program.{Program}
use Rattle.round_trip.specs.spelling.data_spelling.Sections.{Fd, IsSorted}
use Rattle.round_trip.specs.spelling.data_spelling.Drafts.{file_title}
use Rattle.round_trip.specs.declarations.printed_declarations.Rules.{EntriesKeep}

-- the file has this name
abbrev pub is_named : List ℕ → FileEntry → Bool
is_named name file = bytes_eq file.name name

-- no file has the name of one before it
abbrev pub AreDistinct : (before files : List FileEntry) → Type 0
AreDistinct before [] = Unit {0}
AreDistinct before (file ∷ files) =
    (list_any (is_named file.name) before ≡ false) × AreDistinct (before ++ file ∷ []) files

-- the name of an FD's file
abbrev pub fd_title : Program → Fd → List ℕ
fd_title program fd = file_title (slice_get program.files fd.number)

-- the FD is of the file with this name
abbrev pub is_titled : Program → List ℕ → Fd → Bool
is_titled program name fd = bytes_eq (fd_title program fd) name

-- none is of the file of one before it
abbrev pub AreApartFds : Program → (before fds : List Fd) → Type 0
AreApartFds program before [] = Unit {0}
AreApartFds program before (fd ∷ fds) =
    (list_any (is_titled program (fd_title program fd)) before ≡ false)
    × AreApartFds program (before ++ fd ∷ []) fds

-- each has an FD
abbrev pub AreDescribed : Program → List Fd → List FileEntry → Type 0
AreDescribed program fds [] = Unit {0}
AreDescribed program fds (file ∷ files) =
    (list_any (is_titled program file.name) fds ≡ true) × AreDescribed program fds files

-- each is of a file that is there
abbrev pub AreThere : Program → List Fd → Type 0
AreThere program [] = Unit {0}
AreThere program (fd ∷ fds) =
    ((file : FileEntry) × (slice_get program.files fd.number ≡ Some file)) × AreThere program fds

-- the entries are in these sections; files, FDs and entries keep the rules
pub record KeepsRules (program : Program) (fds : List Fd) (storage : List Entry) : Type 0 where
  -- the entries are in these sections
  pub sorted : IsSorted fds storage program.entries
  -- no two files have one name
  pub distinct : AreDistinct [] program.files
  -- each FD is of a file that is there
  pub there : AreThere program fds
  -- no two FDs are of one file
  pub apart : AreApartFds program [] fds
  -- each file has an FD
  pub described : AreDescribed program fds program.files
  pub entries : EntriesKeep program 0 program.entries
