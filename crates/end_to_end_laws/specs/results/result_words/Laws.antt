-- What passes the tests of a program passes those of its result.
use Rattle.std.specs.Prelude.{ℕ, ◌≡◌, ◌<◌, nat_le, Bool, true, List}
use Rattle.cob_tree.specs.declared.program.Program.{Program}
use Rattle.cobol_theory.specs.cobol_headline.Alike.{Writing, naming_of}
use Rattle.round_trip.specs.declarations.added_entries.Items.{WholeItem, HasAdded, AreNew}
use Rattle.round_trip.specs.fitting_statements.own_fits.Own.{own_fits, source_fits}
use Rattle.round_trip.specs.fitting_statements.fit_control.Fit.{without_jumps, moves_number}
use Rattle.round_trip.specs.fitting_statements.fit_control.Written.{CondsFit, PartsServed, NamesFit}
use Rattle.end_to_end_laws.specs.results.result_words.Carried.{ArePassed}
use Rattle.end_to_end_laws.specs.results.result_words.Words.{fit_kinds, HasWords}

-- each part that is no jump, where entries with names of their own are added
abbrev pub OwnPartsArePassed : Type 0
OwnPartsArePassed =
    (program made : Program) (items : List WholeItem) → HasAdded program items made →
    AreNew program items → (label : ℕ → Bool) (range : ℕ → ℕ → Bool) →
    ArePassed (without_jumps (source_fits program)) (own_fits made label range)

-- the parts of a program that pass may be written
abbrev pub PassingPartsAreServed : Type 0
PassingPartsAreServed =
    (program : Program) (writing : Writing) →
    PartsServed (source_fits program) (fit_kinds program writing)

-- zero isn't compared with zero, and NOT makes a condition one term larger alone
abbrev pub OwnCondsFit : Type 0
OwnCondsFit =
    (program : Program) (label : ℕ → Bool) (range : ℕ → ℕ → Bool) →
    CondsFit (own_fits program label range)

-- what is written of them passes, and so do the words on cells, and the ranges that are performed,
-- where each place of a procedure passes as one
abbrev pub ResultNamesFit : Type 0
ResultNamesFit =
    (program made : Program) (writing : Writing) → HasWords program made writing.table →
    (label : ℕ → Bool) (range : ℕ → ℕ → Bool) (procedures : ℕ) →
    ((place : ℕ) → place < procedures → range place place ≡ true) →
    NamesFit (naming_of program writing) (fit_kinds program writing)
    (moves_number (source_fits program)) (λ each cell arms. nat_le 2 arms)
    (own_fits made label range) procedures
