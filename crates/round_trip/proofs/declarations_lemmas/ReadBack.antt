-- What is printed of a program that is declared with no fault declares the same.
use Rattle.std.proofs.Common.{◌≡◌, ℕ, true}
use Rattle.cob_tree.specs.declared.place.Place.{Place}
use Rattle.cob_tree.specs.declared.program.Program.{Program}
use Rattle.cobol_grammar.specs.declared.data_forms.draft.Divisions.{Divisions}
use Rattle.parser_combinators.specs.Form.{Form}
use Rattle.grammar_laws.specs.well_scoped.named_data.Drafts.{data_literal}
use Rattle.round_trip.proofs.spelled_forms_lemmas.Makers.{hence}
use Rattle.round_trip.proofs.spelling_lemmas.data_spelling_lemmas.Divisions.{divisions}
use Rattle.round_trip.proofs.declarations_lemmas.printed_declarations_lemmas.Declared.{printed_divisions_declare}
use Rattle.round_trip.specs.declarations.Laws.{Declares, ReadBack}
use Rattle.round_trip.specs.declarations.Named.{IsTitled, AreStated}
use Rattle.round_trip.proofs.declarations_lemmas.Declared.{declared_programs_keep_rules}
use Rattle.round_trip.proofs.declarations_lemmas.Printable.{titled-printable}

pub read-back : (status : Form Place) (taken : ℕ) (program : Program) (draft : Divisions) → data_literal draft.data_part ≡ true → Declares program draft → IsTitled program → AreStated status program program.files →
    ReadBack status taken program
read-back status taken program draft literal is T S =
    let K = declared_programs_keep_rules program draft literal is.1 in
    record {
      fds = K.0;
      storage = K.1;
      sorted = K.2.sorted;
      spelled = hence (λ found D. (D.name, printed_divisions_declare program K.0 K.1 found K.2 D)) (divisions status program K.0 K.1 (titled-printable status program K.0 K.1 T K.2 S));
    }
