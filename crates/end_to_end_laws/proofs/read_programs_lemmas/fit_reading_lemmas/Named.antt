-- Where entries are bound, each file has a record and each entry fits.
use Rattle.std.proofs.Common.{◌≡◌, ℕ, ◌+◌, ◌<◌, Bool, true, false, not, ◌&&◌, ◌||◌, if◌then◌else◌, ◌==◌, List, [], ◌∷◌, length, map, Option, Some, None, refl, sym, subst, arith}
use Rattle.std.specs.Prelude.{nat_lt, is_some}
use Rattle.std.proofs.lemmas.Bool.{and_parts, lt-ltb}
use Rattle.cob_tree.specs.declared.entry.Entry.{Entry}
use Rattle.cob_tree.specs.declared.picture.Picture.{Picture}
use Rattle.cob_tree.specs.declared.picture.Picture.TheVariants as pictures
use Rattle.cob_tree.specs.declared.picture.Sign.{Sign}
use Rattle.cob_tree.specs.declared.picture.Sign.TheVariants.{Within, SeparateLeading, SeparateTrailing}
use Rattle.cob_tree.specs.declared.program.Program.{Program}
use Rattle.cob_store.specs.Size.{sign_size}
use Rattle.control_flow_theory.specs.language.All.{all}
use Rattle.meanings.specs.statements.Filing.{is_of_file, first_entry, record_entry}
use Rattle.meanings.specs.statements.Does.{declared_in}
use Rattle.cobol_theory.specs.added_items.Laying.{begins_with_item}
use Rattle.cobol_theory.specs.added_items.Own.{items, has_record}
use Rattle.cobol_theory.proofs.added_items_lemmas.Layouts.{inside-of}
use Rattle.program_facts.proofs.well_scoped_lemmas.Made.{both}
use Rattle.grammar_laws.specs.well_scoped.named_entries.Entries as named
use Rattle.grammar_laws.specs.whole_counts.entry_bounds.Bounds.{is_within, sign_suits, usage_suits, is_pictured, is_in, has_file}
use Rattle.cobol_theory.specs.fit_programs.Fit.{sign_fits, entry_fits}

-- ---- items

begins : (entries : List Entry) → named.begins_with_item entries ≡ true → begins_with_item entries ≡ true
begins [] e = refl
begins (entry ∷ entries) e = e

pub as-many : (program : Program) → named.begins_with_item program.entries ≡ true → items (declared_in program) ≡ length program.entries
as-many program first = sym (inside-of program.entries (begins program.entries first)).0

-- ---- records

-- the first entry of a file that has one is one of these
first-there : (file number : ℕ) (entries : List Entry) → has_file file entries ≡ true → first_entry file number entries < number + length entries
first-there file number [] e = absurd cc
first-there file number (entry ∷ entries) e = by_file entry.file e (first-there file (number + 1) entries)
  where
    Behind : Type 0
    Behind = has_file file entries ≡ true → first_entry file (number + 1) entries < number + 1 + length entries

    by_number : (b : Bool) → (b || has_file file entries) ≡ true → Behind → (if b then number else first_entry file (number + 1) entries) < number + length (entry ∷ entries)
    by_number true e behind = omega arith
    by_number false e behind = let h = behind e in omega (arith, h)

    by_file : (o : Option ℕ) → (is_in file o || has_file file entries) ≡ true → Behind → (if is_of_file file o then number else first_entry file (number + 1) entries) < number + length (entry ∷ entries)
    by_file None e behind = by_number false e behind
    by_file (Some other) e behind = by_number (other == file) e behind

pub recorded : (program : Program) (file : ℕ) → named.begins_with_item program.entries ≡ true → has_file file program.entries ≡ true → has_record (declared_in program) file ≡ true
recorded program file first has =
    let there : first_entry file 0 program.entries < length program.entries = let h = first-there file 0 program.entries has in omega (arith, h) in
    subst (λ count. nat_lt (record_entry (declared_in program) file) count ≡ true) (sym (as-many program first))
    (lt-ltb (first_entry file 0 program.entries) (length program.entries) there)

-- ---- entries

sign-fits : (sign : Sign) (picture : Option Picture) → sign_suits sign picture ≡ true → sign_fits sign picture ≡ true
sign-fits sign None e = refl
sign-fits sign (Some (pictures.Number signed whole part)) e = by_sign sign e
  where
    by_sign : (s : Sign) → (signed || is_within s) ≡ true → (signed || sign_size s == 0) ≡ true
    by_sign Within e = e
    by_sign SeparateLeading e = e
    by_sign SeparateTrailing e = e
sign-fits sign (Some (pictures.Letters count)) e = refl
sign-fits sign (Some (pictures.Any count)) e = refl
sign-fits sign (Some (pictures.Edited mask)) e = refl

entry-fits : (entry : Entry) → is_pictured entry ≡ true → entry_fits entry ≡ true
entry-fits entry e =
    let g = and_parts (not (entry.level == 88 && is_some entry.picture) && sign_suits entry.sign entry.picture) (usage_suits entry.usage entry.sign entry.picture) e in
    let h = and_parts (not (entry.level == 88 && is_some entry.picture)) (sign_suits entry.sign entry.picture) g.0 in
    both h.0 (sign-fits entry.sign entry.picture h.1)

pub entries-fit : (entries : List Entry) → all (map is_pictured entries) ≡ true → all (map entry_fits entries) ≡ true
entries-fit [] e = refl
entries-fit (entry ∷ entries) e =
    let h = and_parts (is_pictured entry) (all (map is_pictured entries)) e in
    both (entry-fits entry h.0) (entries-fit entries h.1)
