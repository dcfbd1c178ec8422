-- What is printed of a readable program is read.
use Rattle.std.proofs.Common.{◌≡◌, length, None, ap, sym, ◌∙◌, arith}
use Rattle.cob_tree.specs.declared.program.Program.{Program}
use Rattle.cobol_print.specs.units.Division.{program_units}
use Rattle.cobol_print.specs.Laws.{PrintsAll, ProgramsUnfold}
use Rattle.cobol_print.specs.Program.{printed}
use Rattle.cobol_print.specs.Unit.{all_tokens}
use Rattle.cobol_read.specs.declared.program.ProgramDraft.{ProgramDraft}
use Rattle.cobol_read.specs.Reading.{HasWords, Reads}
use Rattle.round_trip.specs.spelled_forms.Spelling.{kinds_of}
use Rattle.round_trip.proofs.printable_lemmas.Given.{printable_programs_are_given}
use Rattle.end_to_end_laws.specs.read_programs.readable_programs.Laws.{ReadableProgramsReadBack}
use Rattle.end_to_end_laws.specs.read_programs.readable_programs.Readable.{own_tokens, IsFit, IsShort}
use Rattle.end_to_end_laws.proofs.read_programs_lemmas.readable_programs_lemmas.Units.{kinds-count}
use Rattle.end_to_end_laws.proofs.read_programs_lemmas.readable_programs_lemmas.Spelled.{IsDraftOf, drafted}

module _ (programs_unfold : ProgramsUnfold) (prints_all : PrintsAll) where
  module _ (program : Program) (fit : IsFit program) where
    are : kinds_of (own_tokens program) ≡ all_tokens (program_units program)
    are = prints_all 0 (program_units program)

    count : length (own_tokens program) ≡ length (all_tokens (program_units program))
    count = sym (kinds-count (own_tokens program)) ∙ ap length are

    module _ (short : IsShort program) where
      words : HasWords (printed program) (own_tokens program)
      words =
          let text = programs_unfold program (printable_programs_are_given program fit.printable) in
          let few = short.tokens in
          record {
            has_few = record {
              has_tokens = record { text = text.0; has_text = record { within = short.bytes; formatted = text.1 }; lexed = text.2 };
              few = omega (arith, count, few);
            };
            none_left_out = fit.none_left_out;
          }

      read : (draft : ProgramDraft) → IsDraftOf program fit (own_tokens program) are draft → Reads (printed program) program
      read draft d = record {
        has_room = record {
          has_syntax = record {
            tokens = own_tokens program;
            has_words = words;
            draft = draft;
            noted = None;
            spelled = d.spelled;
            is = d.is;
            fault_is = d.faultless;
          };
          stored = fit.stored;
        };
        few = fit.few;
      }

  pub read-back : ReadableProgramsReadBack
  read-back program readable =
      let d = drafted program readable.fit (own_tokens program) (are program readable.fit) readable.spelled in
      read program readable.fit readable.short d.0 d.1
