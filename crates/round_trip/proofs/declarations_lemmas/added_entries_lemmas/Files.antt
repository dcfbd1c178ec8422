-- The rules on files and FDs hold of a program with the same files.
use Rattle.std.proofs.Common.{◌≡◌, ℕ, ◌||◌, List, [], ◌∷◌, ◌++◌, None, refl, ap, ◌∙◌, append_assoc}
use Rattle.std.specs.Prelude.{slice_get}
use Rattle.std.specs.List.{list_any}
use Rattle.std.specs.Str.{bytes_eq}
use Rattle.cob_tree.specs.declared.entry.Entry.{Entry}
use Rattle.cob_tree.specs.declared.file.FileEntry.{FileEntry}
use Rattle.cob_tree.specs.declared.program.Program.{Program}
use Rattle.round_trip.specs.spelling.data_spelling.Drafts.{file_title}
use Rattle.round_trip.specs.spelling.data_spelling.Sections.{Fd, StandIn, all_records, IsSorted}
use Rattle.round_trip.specs.declarations.printed_declarations.FileRules.{AreDescribed, AreApartFds, AreThere, fd_title, is_titled}
use Rattle.round_trip.specs.declarations.added_entries.Items.{WholeItem, whole_entries, HasAdded}

module _ (program made : Program) (files : made.files ≡ program.files) where
  same-title : (fd : Fd) → fd_title made fd ≡ fd_title program fd
  same-title fd = ap (λ list. file_title (slice_get list fd.number)) files

  same-titles : (name : List ℕ) (fds : List Fd) → list_any (is_titled made name) fds ≡ list_any (is_titled program name) fds
  same-titles name [] = refl
  same-titles name (fd ∷ fds) =
      ap (λ title. bytes_eq title name || list_any (is_titled made name) fds) (same-title fd)
      ∙ ap (λ b. is_titled program name fd || b) (same-titles name fds)

  pub still-there : (fds : List Fd) → AreThere program fds → AreThere made fds
  still-there [] h = tt
  still-there (fd ∷ fds) h = ((h.0.0, ap (λ list. slice_get list fd.number) files ∙ h.0.1), still-there fds h.1)

  pub still-apart : (before fds : List Fd) → AreApartFds program before fds → AreApartFds made before fds
  still-apart before [] h = tt
  still-apart before (fd ∷ fds) h =
      (ap (λ title. list_any (is_titled made title) before) (same-title fd) ∙ same-titles (fd_title program fd) before ∙ h.0, still-apart (before ++ fd ∷ []) fds h.1)

  pub still-described : (fds : List Fd) (list : List FileEntry) → AreDescribed program fds list → AreDescribed made fds list
  still-described fds [] h = tt
  still-described fds (file ∷ list) h = (same-titles file.name fds ∙ h.0, still-described fds list h.1)

-- ---- sections

stand-whole : (items : List WholeItem) → StandIn None (whole_entries items)
stand-whole [] = tt
stand-whole (item ∷ items) = (refl, stand-whole items)

stand-added : (storage : List Entry) (items : List WholeItem) → StandIn None storage → StandIn None (storage ++ whole_entries items)
stand-added [] items h = stand-whole items
stand-added (entry ∷ storage) items h = (h.0, stand-added storage items h.1)

pub still-sorted : (program made : Program) (items : List WholeItem) (fds : List Fd) (storage : List Entry) → HasAdded program items made → IsSorted fds storage program.entries → IsSorted fds (storage ++ whole_entries items) made.entries
still-sorted program made items fds storage has s = record {
  is = has.entries ∙ ap (λ list. list ++ whole_entries items) s.is ∙ append_assoc (all_records fds) storage (whole_entries items);
  filed = s.filed;
  apart = s.apart;
  stored = stand-added storage items s.stored;
}
