-- How many words a program has, and names of procedures.
use Rattle.std.proofs.Common.{◌≡◌, ℕ, suc, ◌+◌, ◌*◌, ◌≤◌, List, [], ◌∷◌, ◌++◌, length, Option, Some, None, refl, ap, arith}
use Rattle.std.specs.Option.{option_to_list}
use Rattle.std.proofs.lemmas.List.{length-append, length-map}
use Rattle.cob_tree.specs.declared.entry.Entry.{Entry}
use Rattle.cob_tree.specs.declared.file.FileEntry.{FileEntry}
use Rattle.cob_tree.specs.declared.program.Paragraph.{Paragraph}
use Rattle.cob_tree.specs.declared.program.Program.{Program}
use Rattle.cob_tree.specs.declared.program.Range.{Range}
use Rattle.out_names.specs.Naming.{named, names_behind, own_label}
use Rattle.out_names.specs.Words.{entry_names, file_names, paragraph_names, program_words}

one-word : (name : Option (List ℕ)) → length (option_to_list name) ≤ 1
one-word None = omega arith
one-word (Some name) = omega arith

entry-words : (entries : List Entry) → length (entry_names entries) ≤ length entries
entry-words [] = omega arith
entry-words (entry ∷ entries) =
    let all = length-append (option_to_list entry.name) (entry_names entries) in
    let first = one-word entry.name in
    let others = entry-words entries in
    omega (arith, all, first, others)

paragraph-words : (paragraphs : List Paragraph) →
    length (paragraph_names paragraphs) ≤ 2 * length paragraphs
paragraph-words [] = omega arith
paragraph-words (paragraph ∷ paragraphs) =
    let section = option_to_list paragraph.section in
    let all = length-append (option_to_list paragraph.name ++ section) (paragraph_names paragraphs) in
    let rest = length-append (option_to_list paragraph.name) section in
    let first = one-word paragraph.name in
    let second = one-word paragraph.section in
    let others = paragraph-words paragraphs in
    omega (arith, all, rest, first, second, others)

pub word_count : (program : Program) →
    length (program_words program) ≤ 1 + length program.files + length program.entries
    + 2 * length program.paragraphs
word_count program =
    let files = file_names program.files in
    let entries = entry_names program.entries in
    let paragraphs = paragraph_names program.paragraphs in
    let size = length-map program.files (λ (file : FileEntry). file.name) in
    let all = length-append (files ++ entries) paragraphs in
    let rest = length-append files entries in
    let its = entry-words program.entries in
    let own = paragraph-words program.paragraphs in
    omega (arith, size, all, rest, its, own)

pub names-length : (words : List (List ℕ)) (paragraphs : List Paragraph) (before : List Range)
    (from : ℕ) (ranges : List Range) →
    length (names_behind words paragraphs before from ranges) ≡ length ranges
names-length words paragraphs before from [] = refl
names-length words paragraphs before from (range ∷ ranges) =
    let next = named words (own_label paragraphs before range.entry) from in
    ap suc (names-length words paragraphs (before ++ range ∷ []) next.next ranges)
