-- Names and values of a program that is read.
use Rattle.std.proofs.Common.{◌≡◌, ℕ, Bool, true, List, [], ◌∷◌, map, Option, Some, None, refl}
use Rattle.std.proofs.lemmas.Bool.{and_parts}
use Rattle.cob_tree.specs.declared.entry.Entry.{Entry}
use Rattle.cob_tree.specs.declared.file.FileEntry.{FileEntry}
use Rattle.round_trip.specs.declarations.Named.{file_titled, entry_titled}
use Rattle.control_flow_theory.specs.language.All.{all}
use Rattle.program_facts.specs.well_scoped.Part.{if_any}
use Rattle.program_facts.proofs.well_scoped_lemmas.Made.{both}
use Rattle.end_to_end_laws.proofs.read_programs_lemmas.named_reading_lemmas.Whole.{read-named}
use Rattle.round_trip.specs.printable.Part.{is_printable_name, is_printable_place}
use Rattle.round_trip.specs.printable.Whole.{is_printable_file, is_printable_entry}
use Rattle.round_trip.proofs.printable_lemmas.Tokens.{name-word, entry-fine}
use Rattle.end_to_end_laws.proofs.read_programs_lemmas.printable_reading_lemmas.Whole.{read-printable}
use Rattle.parser_combinators.specs.words.Word.{is_data_word}
use Rattle.end_to_end_laws.specs.read_programs.readable_parts.Laws.{ProgramsThatAreReadAreTitled}

-- each that passes one test passes the other
each : {A : Type 0} (test other : A → Bool) → ((x : A) → test x ≡ true → other x ≡ true) → (list : List A) → all (map test list) ≡ true → all (map other list) ≡ true
each test other h [] e = refl
each test other h (x ∷ list) e = let k = and_parts (test x) (all (map test list)) e in both (h x k.0) (each test other h list k.1)

data-name : (word : List ℕ) → is_printable_name word ≡ true → is_data_word word ≡ true
data-name word h = (name-word word h).1

file-name : (file : FileEntry) → is_printable_file file ≡ true → file_titled file ≡ true
file-name file h = data-name file.name (and_parts (is_printable_name file.name) _ (and_parts _ (if_any is_printable_place file.status) h).0).0

any-name : (name : Option (List ℕ)) → if_any is_printable_name name ≡ true → if_any is_data_word name ≡ true
any-name None h = refl
any-name (Some name) h = data-name name h

entry-title : (entry : Entry) → is_printable_entry entry ≡ true → entry_titled entry ≡ true
entry-title entry h = any-name entry.name (entry-fine entry h).name

pub read-titled : ProgramsThatAreReadAreTitled
read-titled bytes program reads =
    let fine = read-printable bytes program reads in
    record {
      title = data-name program.name fine.name;
      files = each is_printable_file file_titled file-name program.files fine.files;
      entries = each is_printable_entry entry_titled entry-title program.entries fine.entries;
      values = (read-named bytes program reads).0.entries.values;
    }
