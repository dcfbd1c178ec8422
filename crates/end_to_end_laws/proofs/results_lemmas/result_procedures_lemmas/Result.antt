-- What a program is split into is spelled, where its statements pass the tests by its own names.
use Rattle.std.proofs.Common.{ℕ, false, ◌==◌, nat_lt, length, refl, subst, eqb-true, ltb-true}
use Rattle.std.proofs.lemmas.Bool.{and_parts, both_ways}
use Rattle.cob_tree.specs.declared.program.Program.{Program}
use Rattle.round_trip.specs.spelling.Named.{IsRange}
use Rattle.struct_form.specs.Structured.{IsStructured}
use Rattle.round_trip.specs.fitting_statements.own_fits.Laws.{AreInTable, OwnFitsSpell}
use Rattle.round_trip.specs.procedures.Outline.{HasProcedures}
use Rattle.round_trip.specs.procedures.Told.{own_procedures}
use Rattle.end_to_end_laws.specs.results.result_procedures.Laws.{is_alone, result_fits, FitResultsAreSpelled}
use Rattle.end_to_end_laws.proofs.results_lemmas.result_procedures_lemmas.Fit.{sentences-pass}
use Rattle.end_to_end_laws.proofs.results_lemmas.result_procedures_lemmas.Paragraphs.{split-have}
use Rattle.end_to_end_laws.proofs.results_lemmas.result_procedures_lemmas.Ranges.{ranges}
use Rattle.end_to_end_laws.proofs.results_lemmas.result_procedures_lemmas.Spelled.{fit-spelled}

in-table : (made : Program) (taken : ℕ) → HasProcedures made → IsStructured made →
    AreInTable (own_procedures made taken) made (λ number. false) (λ entry exit. is_alone (length made.paragraphs) entry exit)
in-table made taken H structured = record {
  labels = λ number e. absurd (both_ways false refl e);
  ranges = λ entry exit e.
      let parts = and_parts (entry == exit) (nat_lt entry (length made.paragraphs)) e in
      subst (λ last. IsRange (own_procedures made taken) made entry last) (eqb-true entry exit parts.0)
      (ranges made taken entry H structured (ltb-true entry (length made.paragraphs) parts.1));
}

pub result-spelled : OwnFitsSpell → FitResultsAreSpelled
result-spelled spell program made summary H few split structured depth filled pass =
    let have = split-have program made summary H few split structured in
    fit-spelled (result_fits made) made have
    (spell made _ _ _ (in-table made _ have structured))
    (sentences-pass (result_fits made) made structured depth filled pass)
