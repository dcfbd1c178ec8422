-- The entries of added items can be printed.
use Rattle.std.proofs.Common.{◌≡◌, ℕ, suc, ◌+◌, ◌<◌, ◌≤◌, ◌^◌, if◌then◌else◌, Bool, true, false, ◌&&◌, List, [], ◌∷◌, ◌++◌, length, map, refl, arith}
use Rattle.std.specs.Prelude.{nat_le, All}
use Rattle.std.specs.Fmt.{decimal}
use Rattle.std.specs.List.{list_any}
use Rattle.std.specs.Str.{bytes_eq}
use Rattle.std.proofs.lemmas.Bool.{and_from, and_parts}
use Rattle.std.proofs.lemmas.List.{length_push}
use Rattle.std.proofs.lemmas.List.Elements.{All-cons, All-nil}
use Rattle.std.proofs.lemmas.Slice.Eq.{bytes_eq-Decides}
use Rattle.cob_base.specs.Spelling.{IsCapitalWord, folded}
use Rattle.cob_words.specs.Table.{with_word}
use Rattle.cob_tree.specs.declared.program.Program.{Program}
use Rattle.cobol_lex.specs.Word.{fits_word}
use Rattle.cobol_lex.proofs.WordLemmas.{IsWord-fits}
use Rattle.parser_combinators.specs.words.Word.{is_data_word}
use Rattle.control_flow_theory.specs.language.All.{all}
use Rattle.control_flow_theory.specs.graph_rules.Families.{Added, Never, Flag, Count, State, Exit}
use Rattle.cob_words.specs.numbered.Stem.{IsStem, stem_byte}
use Rattle.cob_words.proofs.numbered_lemmas.NumberedLemmas.{numbered_is_capital_word}
use Rattle.program_facts.proofs.well_scoped_lemmas.Made.{both}
use Rattle.out_names.specs.FreshWords.{fresh_number}
use Rattle.out_names.specs.Words.{program_words, table_of, with_words}
use Rattle.cobol_theory.specs.cell_serving.Entries.{cell_entry, entries_of}
use Rattle.added_items.specs.item_table.Naming.{stem_of, digits_of, is_signed, next_of, with_next, all_from_one, entries_from}
use Rattle.added_items.specs.declared.item_table.naming.NextNumbers.{NextNumbers}
use Rattle.round_trip.proofs.declarations_lemmas.fresh_items_lemmas.Stems.{is-title}
use Rattle.round_trip.proofs.declarations_lemmas.fresh_items_lemmas.Numbers.{IsBehind, next-is, behind-more, behind-first}
use Rattle.round_trip.specs.printable.Part.{is_printable_name}
use Rattle.round_trip.specs.printable.Whole.{is_printable_entry}
use Rattle.end_to_end_laws.proofs.results_lemmas.result_bodies_lemmas.Literals.{literal-prints}

-- ---- names

capital-printable : (name : List ℕ) → IsCapitalWord name → is_data_word name ≡ true →
    is_printable_name name ≡ true
capital-printable name word free =
    and_from (fits_word name && bytes_eq (folded name) name) (is_data_word name)
    (and_from (fits_word name) (bytes_eq (folded name) name) (IsWord-fits name word.word)
    ((bytes_eq-Decides (folded name) name).1 word.capital)) free

all-spelled : (bytes : List ℕ) → all (map stem_byte bytes) ≡ true →
    All (λ b. stem_byte b ≡ true) bytes
all-spelled [] h = All-nil (λ b. stem_byte b ≡ true)
all-spelled (byte ∷ bytes) h =
    let k = and_parts (stem_byte byte) (all (map stem_byte bytes)) h in
    All-cons (λ b. stem_byte b ≡ true) byte bytes k.0 (all-spelled bytes k.1)

is-stem : (kind : Added) → IsStem (stem_of kind)
is-stem Never = record {
  begun = omega arith;
  short = omega arith;
  spelled = all-spelled (stem_of Never) refl;
  first = refl;
}
is-stem Flag = record {
  begun = omega arith;
  short = omega arith;
  spelled = all-spelled (stem_of Flag) refl;
  first = refl;
}
is-stem Count = record {
  begun = omega arith;
  short = omega arith;
  spelled = all-spelled (stem_of Count) refl;
  first = refl;
}
is-stem State = record {
  begun = omega arith;
  short = omega arith;
  spelled = all-spelled (stem_of State) refl;
  first = refl;
}
is-stem Exit = record {
  begun = omega arith;
  short = omega arith;
  spelled = all-spelled (stem_of Exit) refl;
  first = refl;
}

is-data : (kind : Added) (rest : List ℕ) → is_data_word (stem_of kind ++ rest) ≡ true
is-data Never rest = is-title Never rest
is-data Flag rest = is-title Flag rest
is-data Count rest = is-title Count rest
is-data State rest = is-title State rest
is-data Exit rest = is-title Exit rest

name-prints : (kind : Added) (number : ℕ) → number < 2 ^ 32 →
    is_printable_name (stem_of kind ++ decimal number) ≡ true
name-prints kind number small =
    capital-printable (stem_of kind ++ decimal number)
    (numbered_is_capital_word (stem_of kind) number (is-stem kind) small)
    (is-data kind (decimal number))

-- ---- entries

picture-prints : (kind : Added) →
    (nat_le 1 (digits_of kind + 0) && nat_le (digits_of kind + 0) 18) ≡ true
picture-prints Never = refl
picture-prints Flag = refl
picture-prints Count = refl
picture-prints State = refl
picture-prints Exit = refl

entry-prints : (name : List ℕ) (kind : Added) → is_printable_name name ≡ true →
    is_printable_entry (cell_entry name (digits_of kind) (is_signed kind)) ≡ true
entry-prints name kind named =
    both (both (both (both (both refl named) (picture-prints kind)) refl)
    (literal-prints 0 (omega arith))) refl

-- ---- by the numbers that were given

abbrev AreBehind : List (List ℕ) → (given : ℕ) → NextNumbers → Type 0
AreBehind words given next =
    (kind : Added) → IsBehind words (stem_of kind) given (next_of next kind)

later : (words : List (List ℕ)) (given : ℕ) (next : NextNumbers) (kind : Added) (number : ℕ) →
    IsBehind words (stem_of kind) (given + 1) number → AreBehind words given next →
    AreBehind words (given + 1) (with_next next kind number)
later words given next Never number one b Never = one
later words given next Never number one b Flag = behind-more words (stem_of Flag) given (next_of next Flag) (b Flag)
later words given next Never number one b Count = behind-more words (stem_of Count) given (next_of next Count) (b Count)
later words given next Never number one b State = behind-more words (stem_of State) given (next_of next State) (b State)
later words given next Never number one b Exit = behind-more words (stem_of Exit) given (next_of next Exit) (b Exit)
later words given next Flag number one b Never = behind-more words (stem_of Never) given (next_of next Never) (b Never)
later words given next Flag number one b Flag = one
later words given next Flag number one b Count = behind-more words (stem_of Count) given (next_of next Count) (b Count)
later words given next Flag number one b State = behind-more words (stem_of State) given (next_of next State) (b State)
later words given next Flag number one b Exit = behind-more words (stem_of Exit) given (next_of next Exit) (b Exit)
later words given next Count number one b Never = behind-more words (stem_of Never) given (next_of next Never) (b Never)
later words given next Count number one b Flag = behind-more words (stem_of Flag) given (next_of next Flag) (b Flag)
later words given next Count number one b Count = one
later words given next Count number one b State = behind-more words (stem_of State) given (next_of next State) (b State)
later words given next Count number one b Exit = behind-more words (stem_of Exit) given (next_of next Exit) (b Exit)
later words given next State number one b Never = behind-more words (stem_of Never) given (next_of next Never) (b Never)
later words given next State number one b Flag = behind-more words (stem_of Flag) given (next_of next Flag) (b Flag)
later words given next State number one b Count = behind-more words (stem_of Count) given (next_of next Count) (b Count)
later words given next State number one b State = one
later words given next State number one b Exit = behind-more words (stem_of Exit) given (next_of next Exit) (b Exit)
later words given next Exit number one b Never = behind-more words (stem_of Never) given (next_of next Never) (b Never)
later words given next Exit number one b Flag = behind-more words (stem_of Flag) given (next_of next Flag) (b Flag)
later words given next Exit number one b Count = behind-more words (stem_of Count) given (next_of next Count) (b Count)
later words given next Exit number one b State = behind-more words (stem_of State) given (next_of next State) (b State)
later words given next Exit number one b Exit = one

first-behind : (words : List (List ℕ)) → AreBehind words 0 all_from_one
first-behind words Never = behind-first words (stem_of Never)
first-behind words Flag = behind-first words (stem_of Flag)
first-behind words Count = behind-first words (stem_of Count)
first-behind words State = behind-first words (stem_of State)
first-behind words Exit = behind-first words (stem_of Exit)

print-behind : (words : List (List ℕ)) (given : ℕ) (next : NextNumbers) (kinds : List Added) →
    length words + (given + length kinds) < 2 ^ 31 → AreBehind words given next →
    all (map is_printable_entry (entries_of (entries_from words next kinds))) ≡ true
print-behind words given next [] few b = refl
print-behind words given next (kind ∷ kinds) few b =
    let number = fresh_number words (stem_of kind) (next_of next kind) in
    let is = next-is words (stem_of kind) given (next_of next kind) (omega (arith, few)) (b kind) in
    let near = is.behind.small in
    both
    (entry-prints (stem_of kind ++ decimal number) kind
    (name-prints kind number (omega (arith, few, near))))
    (print-behind words (given + 1) (with_next next kind (suc number)) kinds
    (omega (arith, few)) (later words given next kind (suc number) is.behind b))

-- a table has no more words than are put there
with-word-few : (table : List (List ℕ)) (word : List ℕ) →
    length (with_word table word) ≤ length table + 1
with-word-few table word = go (list_any (bytes_eq word) table)
  where
    go : (b : Bool) → length (if b then table else table ++ word ∷ []) ≤ length table + 1
    go true = omega arith
    go false = let e = length_push table word in omega (arith, e)

with-words-few : (table words : List (List ℕ)) →
    length (with_words table words) ≤ length table + length words
with-words-few table [] = omega arith
with-words-few table (word ∷ words) =
    let others = with-words-few (with_word table word) words in
    let one = with-word-few table word in
    omega (arith, others, one)

pub entries-print : (program : Program) (kinds : List Added) →
    length (program_words program) + length kinds < 2 ^ 31 →
    all (map is_printable_entry
    (entries_of (entries_from (table_of (program_words program)) all_from_one kinds))) ≡ true
entries-print program kinds few =
    let words = table_of (program_words program) in
    let fewer = with-words-few [] (program_words program) in
    print-behind words 0 all_from_one kinds (omega (arith, few, fewer)) (first-behind words)
