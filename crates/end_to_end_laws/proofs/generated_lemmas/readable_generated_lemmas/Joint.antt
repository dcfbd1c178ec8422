-- Generated programs are readable.
use Rattle.std.proofs.Common.{◌≡◌, ℕ, zero, suc, ◌≤◌, List, [], ◌∷◌, ◌++◌, length, drop, refl, ap, sym, ◌∙◌, subst, arith}
use Rattle.cob_tree.specs.declared.program.Program.{Program}
use Rattle.cobol_lex.specs.declared.token.Token.{Token}
use Rattle.cobol_lex.specs.declared.token.TokenKind.{TokenKind}
use Rattle.cobol_print.specs.Unit.{all_tokens}
use Rattle.cobol_print.proofs.PrintsAll.{prints_all}
use Rattle.cobol_print.specs.units.Division.{paragraphs_units, program_units}
use Rattle.cobol_grammar.specs.Whole.{parts_of}
use Rattle.cobol_grammar.proofs.PartLaws as part_laws
use Rattle.grammar_laws.proofs.no_periods_lemmas.Plainly as plainly
use Rattle.round_trip.specs.spelled_forms.Spelling.{kinds_of}
use Rattle.round_trip.specs.spelling.stmt_spelling.Division.{SpellsDivision}
use Rattle.round_trip.specs.spelling.Kept.{kept_of}
use Rattle.round_trip.proofs.spelling_lemmas.Told.{parts_are_told}
use Rattle.end_to_end_laws.proofs.read_programs_lemmas.printed_words_lemmas.Programs.{no_printed_word_is_left_out}
use Rattle.round_trip.specs.procedures.Told as told
use Rattle.round_trip.proofs.procedures_lemmas.Printed.{named-header, procedures-told}
use Rattle.round_trip.specs.fitting_statements.own_fits.Own.{own_names}
use Rattle.end_to_end_laws.specs.read_programs.readable_programs.Readable.{units_before, tokens_before, own_tokens, own_procedures, IsFit, IsSpelled, IsShort}
use Rattle.end_to_end_laws.proofs.read_programs_lemmas.readable_programs_lemmas.Units.{split-units}
use Rattle.program_gen.specs.Generated.{counter_entry, generated}
use Rattle.end_to_end_laws.proofs.generated_lemmas.Counter.{keeps, titled}
use Rattle.end_to_end_laws.proofs.generated_lemmas.Printable.{printable}
use Rattle.end_to_end_laws.proofs.generated_lemmas.Procedures.{paragraph-count}
use Rattle.end_to_end_laws.proofs.generated_lemmas.Spelled.{division}
use Rattle.end_to_end_laws.proofs.generated_lemmas.short_generated_lemmas.Short.{short}
use Rattle.end_to_end_laws.specs.generated.readable_generated.Laws.{GeneratedProgramsAreReadable}

-- ---- before its paragraphs

fit : (n : ℕ) → n ≤ 1249 → IsFit (generated n)
fit n small =
    let count = paragraph-count n in
    record {
      printable = printable n small;
      titled = titled n;
      fds = [];
      storage = counter_entry ∷ [];
      keeps = keeps n;
      stated = tt;
      none_left_out = no_printed_word_is_left_out (generated n) (printable n small);
      stored = refl;
      few = omega (arith, count, small);
    }

-- ---- the tokens of its paragraphs

kinds-drop : (n : ℕ) (tokens : List Token) → kinds_of (drop n tokens) ≡ drop n (kinds_of tokens)
kinds-drop zero tokens = refl
kinds-drop (suc n) [] = refl
kinds-drop (suc n) (t ∷ tokens) = kinds-drop n tokens

behind-front : (front back : List TokenKind) → drop (length front) (front ++ back) ≡ back
behind-front [] back = refl
behind-front (kind ∷ front) back = behind-front front back

own-kinds : (program : Program) → kinds_of (drop (tokens_before program) (own_tokens program)) ≡ all_tokens (paragraphs_units program program.paragraphs)
own-kinds program =
    kinds-drop (tokens_before program) (own_tokens program)
    ∙ (ap (drop (tokens_before program)) (prints_all 0 (program_units program) ∙ split-units program)
    ∙ behind-front (all_tokens (units_before program)) (all_tokens (paragraphs_units program program.paragraphs)))

-- they tell the procedures that the paragraphs tell
same-procedures : (program : Program) →
    SpellsDivision (parts_of (own_names program) program.entries (told.own_procedures program (tokens_before program))) (kept_of (own_names program) program) program (tokens_before program)
    program.paragraphs →
    own_procedures program ≡ told.own_procedures program (tokens_before program)
same-procedures program h =
    let names = own_names program in
    let table = told.own_procedures program (tokens_before program) in
    procedures-told (part_laws.parts names program.entries table) (plainly.parts names program.entries table) (parts_are_told names program.entries table program) program
    (named-header (parts_of names program.entries table) (kept_of names program) program) (tokens_before program) h (drop (tokens_before program) (own_tokens program)) (own-kinds program)

spelled : (n : ℕ) → n ≤ 1249 → IsSpelled (generated n)
spelled n small =
    let program = generated n in
    let h = division n (tokens_before program) small in
    subst (λ table. SpellsDivision (parts_of (own_names program) program.entries table) (kept_of (own_names program) program) program (tokens_before program) program.paragraphs)
    (sym (same-procedures program h)) h

-- ---- within the limits

brief : (n : ℕ) → n ≤ 1249 → IsShort (generated n)
brief n small = let h = short n small in record { bytes = h.0; tokens = h.1 }

pub readable : GeneratedProgramsAreReadable
readable n small = record { fit = fit n small; spelled = spelled n small; short = brief n small }
