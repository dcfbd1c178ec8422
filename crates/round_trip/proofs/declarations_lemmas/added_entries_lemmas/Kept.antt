-- A program with added entries keeps the rules, and its names may be names.
use Rattle.std.proofs.Common.{◌≡◌, Bool, true, List, [], ◌∷◌, ◌++◌, map, refl, ap, sym, ◌∙◌, subst}
use Rattle.std.proofs.lemmas.List.{map-append}
use Rattle.std.proofs.lemmas.Bool.{and_from, and_parts}
use Rattle.cob_tree.specs.declared.entry.Entry.{Entry}
use Rattle.cob_tree.specs.declared.program.Program.{Program}
use Rattle.control_flow_theory.specs.language.All.{all}
use Rattle.round_trip.specs.spelling.data_spelling.Sections.{Fd}
use Rattle.round_trip.specs.declarations.printed_declarations.FileRules.{AreDescribed, AreDistinct, KeepsRules}
use Rattle.round_trip.specs.declarations.Named.{IsTitled, entry_titled, values_literal, file_titled}
use Rattle.grammar_laws.specs.form_results.Numbered.{is_literal, literal_step}
use Rattle.parser_combinators.specs.words.Word.{is_data_word}
use Rattle.cob_tree.specs.declared.place.Expr.TheOpen.{Operand-F}
use Rattle.cob_tree.specs.declared.place.Operand.{out-roll-Operand}
use Rattle.cob_tree.specs.declared.place.Operand.TheVariants as operands
use Rattle.round_trip.specs.declarations.added_entries.Items.{WholeItem, whole_entry, whole_entries, has_title, HasAdded, AreSized, AreTitled, zero_literal}
use Rattle.round_trip.specs.declarations.added_entries.Laws.{AddedEntriesKeepRules}
use Rattle.round_trip.proofs.declarations_lemmas.added_entries_lemmas.Files.{still-there, still-apart, still-described, still-sorted}
use Rattle.round_trip.proofs.declarations_lemmas.added_entries_lemmas.Rules.{rules-keep}

rules : (program made : Program) (items : List WholeItem) (fds : List Fd) (storage : List Entry) → HasAdded program items made → AreSized items → KeepsRules program fds storage → KeepsRules made fds (storage ++ whole_entries items)
rules program made items fds storage has sized k = record {
  sorted = still-sorted program made items fds storage has k.sorted;
  distinct = subst (AreDistinct []) (sym has.files) k.distinct;
  there = still-there program made has.files fds k.there;
  apart = still-apart program made has.files [] fds k.apart;
  described = subst (AreDescribed made fds) (sym has.files) (still-described program made has.files fds program.files k.described);
  entries = rules-keep program made items has sized k.entries;
}

-- ---- names and values

all-append : (tests more : List Bool) → all tests ≡ true → all more ≡ true → all (tests ++ more) ≡ true
all-append [] more h m = m
all-append (test ∷ tests) more h m =
    let parts = and_parts test (all tests) h in
    and_from test (all (tests ++ more)) parts.0 (all-append tests more parts.1 m)

all-map-append : {A : Type 0} (test : A → Bool) (list more : List A) → all (map test list) ≡ true → all (map test more) ≡ true → all (map test (list ++ more)) ≡ true
all-map-append test list more h m = ap all (map-append test list more) ∙ all-append (map test list) (map test more) h m

titled : (items : List WholeItem) → AreTitled items → all (map entry_titled (whole_entries items)) ≡ true
titled [] h = refl
titled (item ∷ items) h =
    let parts = and_parts (has_title item) (all (map has_title items)) h in
    and_from (has_title item) (all (map entry_titled (whole_entries items))) parts.0 (titled items parts.1)

zero-literal : is_literal (operands.Number zero_literal) ≡ true
zero-literal = ap is_literal (sym (operands.rolls-Number zero_literal)) ∙ ap literal_step (out-roll-Operand (Operand-F.Number zero_literal))

valued : (items : List WholeItem) → all (map values_literal (whole_entries items)) ≡ true
valued [] = refl
valued (item ∷ items) = and_from (values_literal (whole_entry item)) (all (map values_literal (whole_entries items))) (and_from (is_literal (operands.Number zero_literal)) true zero-literal refl) (valued items)

titles : (program made : Program) (items : List WholeItem) → HasAdded program items made → made.name ≡ program.name → AreTitled items → IsTitled program → IsTitled made
titles program made items has name t is = record {
  title = ap is_data_word name ∙ is.title;
  files = ap (λ files. all (map file_titled files)) has.files ∙ is.files;
  entries = ap (λ list. all (map entry_titled list)) has.entries ∙ all-map-append entry_titled program.entries (whole_entries items) is.entries (titled items t);
  values = ap (λ list. all (map values_literal list)) has.entries ∙ all-map-append values_literal program.entries (whole_entries items) is.values (valued items);
}

pub added_entries_keep_rules : AddedEntriesKeepRules
added_entries_keep_rules = record { rules = rules; titles = titles }
