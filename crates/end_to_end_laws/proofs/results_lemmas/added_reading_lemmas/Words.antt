-- A program has no more words than its entries, files and paragraphs let it have.
use Rattle.std.proofs.Common.{◌≡◌, ℕ, zero, suc, ◌+◌, ◌*◌, ◌^◌, ◌<◌, ◌≤◌, Bool, true, false, ◌||◌, List, [], ◌∷◌, ◌++◌, length, Option, Some, None, refl, ap, subst, arith}
use Rattle.std.specs.Option.{option_to_list}
use Rattle.std.proofs.lemmas.Bool.{eqb-true}
use Rattle.std.proofs.lemmas.List.{length-append, length-map}
use Rattle.cob_tree.specs.declared.entry.Entry.{Entry}
use Rattle.cob_tree.specs.declared.file.FileEntry.{FileEntry}
use Rattle.cob_tree.specs.declared.program.Paragraph.{Paragraph}
use Rattle.grammar_laws.specs.whole_counts.entry_bounds.Bounds.{has_file, is_in}
use Rattle.end_to_end_laws.proofs.read_programs_lemmas.named_reading_lemmas.Whole.{read-named}
use Rattle.out_names.specs.Words.{entry_names, file_names, paragraph_names}
use Rattle.end_to_end_laws.specs.results.added_reading.Laws.{ProgramsThatAreReadHaveFewWords}

-- ---- names

named-few : (name : Option (List ℕ)) → length (option_to_list name) ≤ 1
named-few None = omega arith
named-few (Some name) = omega arith

entries-few : (entries : List Entry) → length (entry_names entries) ≤ length entries
entries-few [] = omega arith
entries-few (entry ∷ entries) =
    let both = length-append (option_to_list entry.name) (entry_names entries) in
    omega (arith, both, named-few entry.name, entries-few entries)

paragraphs-few : (paragraphs : List Paragraph) → length (paragraph_names paragraphs) ≤ 2 * length paragraphs
paragraphs-few [] = omega arith
paragraphs-few (paragraph ∷ paragraphs) =
    let all = length-append (option_to_list paragraph.name ++ option_to_list paragraph.section) (paragraph_names paragraphs) in
    let front = length-append (option_to_list paragraph.name) (option_to_list paragraph.section) in
    omega (arith, all, front, named-few paragraph.name, named-few paragraph.section, paragraphs-few paragraphs)

-- ---- files, each of which has an entry

-- the others, without one of this file
record Without (file : ℕ) (entries : List Entry) : Type 0 where
  pub others : List Entry
  pub fewer : length entries ≡ suc (length others)
  pub kept : (other : ℕ) → other < file → has_file other entries ≡ true → has_file other others ≡ true

is-that : (file : ℕ) (found : Option ℕ) → is_in file found ≡ true → found ≡ Some file
is-that file None h = absurd cc
is-that file (Some other) h = ap Some (eqb-true other file h)

not-in : (file other : ℕ) → other < file → is_in other (Some file) ≡ true → ⊥
not-in file other below h = let e : file ≡ other = eqb-true file other h in omega (arith, e, below)

without : (file : ℕ) (entries : List Entry) → has_file file entries ≡ true → Without file entries
without file [] h = absurd cc
without file (entry ∷ entries) h = go (is_in file entry.file) refl (without file entries) h
  where
    go : (b : Bool) → is_in file entry.file ≡ b → (has_file file entries ≡ true → Without file entries) → (b || has_file file entries) ≡ true → Without file (entry ∷ entries)
    go true is among h = record { others = entries; fewer = refl; kept = λ other below there. past other below (is_in other entry.file) refl there }
      where
        past : (other : ℕ) → other < file → (b : Bool) → is_in other entry.file ≡ b → (b || has_file other entries) ≡ true → has_file other entries ≡ true
        past other below true at there = absurd (not-in file other below (subst (λ found. is_in other found ≡ true) (is-that file entry.file is) at))
        past other below false at there = there
    go false is among h =
        let later = among h in
        record { others = entry ∷ later.others; fewer = ap suc later.fewer; kept = λ other below there. past other below later (is_in other entry.file) there }
      where
        past : (other : ℕ) → other < file → (later : Without file entries) → (b : Bool) → (b || has_file other entries) ≡ true → (b || has_file other later.others) ≡ true
        past other below later true there = refl
        past other below later false there = later.kept other below there

files-few : (files : ℕ) (entries : List Entry) → ((file : ℕ) → file < files → has_file file entries ≡ true) → files ≤ length entries
files-few zero entries h = omega arith
files-few (suc files) entries h =
    let one = without files entries (h files (omega arith)) in
    let others = files-few files one.others (λ file below. one.kept file below (h file (omega (arith, below)))) in
    omega (arith, one.fewer, others)

-- ---- a program that is read

pub few-words : ProgramsThatAreReadHaveFewWords
few-words bytes program reads =
    let named = (read-named bytes program reads).0 in
    let files = files-few (length program.files) program.entries named.bound.recorded in
    let titles = length-map program.files (λ (file : FileEntry). file.name) in
    let all = length-append (file_names program.files ++ entry_names program.entries) (paragraph_names program.paragraphs) in
    let front = length-append (file_names program.files) (entry_names program.entries) in
    total _ _ _ _ _ _ _ _ files titles all front (entries-few program.entries) (paragraphs-few program.paragraphs) named.few reads.few
  where
    total : (files entries paragraphs titles names others front all : ℕ) → files ≤ entries → titles ≡ files → all ≡ front + others → front ≡ titles + names →
        names ≤ entries → others ≤ 2 * paragraphs → entries ≤ 500000 → paragraphs ≤ 5000 → suc all < 2 ^ 30
    total files entries paragraphs titles names others front all a b c d e f g h = omega (arith, a, b, c, d, e, f, g, h)
