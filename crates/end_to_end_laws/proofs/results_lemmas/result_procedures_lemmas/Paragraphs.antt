-- The paragraphs of a split program have the names of their ranges, and stand in no section.
use Rattle.std.proofs.Common.{◌≡◌, ℕ, zero, suc, false, true, List, [], ◌∷◌, ◌++◌, length, Option, Some, None, slice_get, refl, ap, sym, ◌∙◌, subst}
use Rattle.std.specs.Prelude.{pred}
use Rattle.std.proofs.lemmas.Bool.{both_ways}
use Rattle.cob_tree.specs.declared.program.Paragraph.{Paragraph}
use Rattle.cob_tree.specs.declared.program.Program.{Program}
use Rattle.grammar_laws.specs.form_results.Giving.{Each}
use Rattle.out_names.specs.Naming.{names_of}
use Rattle.pending_returns.specs.declared.facts.Summary.{Summary}
use Rattle.struct_form.specs.Stops.{first_stops}
use Rattle.struct_form.proofs.Structured.{structured_stops}
use Rattle.procedure_split.proofs.made_procedures_lemmas.Rows.{beside}
use Rattle.procedure_split.specs.Splitting.{IsSplit}
use Rattle.round_trip.specs.procedures.Names.{own_name, header_names, AreDifferent, IsTitle, IfTitle, AreTitled}
use Rattle.round_trip.specs.procedures.Outline.{AreOutlined, HaveNamesAlone}
use Rattle.round_trip.proofs.procedures_lemmas.Named.{named-outlined}
use Rattle.end_to_end_laws.specs.results.result_procedures.Laws.{AreFew, SplitProgramsHaveProcedures}
use Rattle.end_to_end_laws.proofs.results_lemmas.result_procedures_lemmas.Named.{names-titles}

-- ---- a paragraph with its name, in no section

record Bears (name : List ℕ) (made : Paragraph) : Type 0 where
  named : made.name ≡ Some name
  bare : made.section ≡ None

-- one for each name
abbrev EachBears : List (List ℕ) → List Paragraph → Type 0
EachBears [] [] = Unit {0}
EachBears [] (made ∷ paragraphs) = ⊥
EachBears (name ∷ names) [] = ⊥
EachBears (name ∷ names) (made ∷ paragraphs) = Bears name made × EachBears names paragraphs

bears-all : (names : List (List ℕ)) (paragraphs : List Paragraph) → length paragraphs ≡ length names →
    ((at : ℕ) (name : List ℕ) (made : Paragraph) → slice_get names at ≡ Some name → slice_get paragraphs at ≡ Some made → Bears name made) →
    EachBears names paragraphs
bears-all [] [] many each = tt
bears-all [] (made ∷ paragraphs) many each = cc
bears-all (name ∷ names) [] many each = cc
bears-all (name ∷ names) (made ∷ paragraphs) many each =
    (each zero name made refl refl, bears-all names paragraphs (ap pred many) (λ at other next n m. each (suc at) other next n m))

one-own : (name section : Option (List ℕ)) (word : List ℕ) (rest : List (List ℕ)) → name ≡ Some word → section ≡ None → own_name section ++ (own_name name ++ rest) ≡ word ∷ rest
one-own name section word rest n s = ap (λ o. own_name o ++ (own_name name ++ rest)) s ∙ ap (λ o. own_name o ++ rest) n

own-are : (names : List (List ℕ)) (paragraphs : List Paragraph) → EachBears names paragraphs → header_names paragraphs ≡ names
own-are [] [] h = refl
own-are [] (made ∷ paragraphs) h = absurd h
own-are (name ∷ names) [] h = absurd h
own-are (name ∷ names) (made ∷ paragraphs) h =
    let first = h.0 in
    one-own made.name made.section name (header_names paragraphs) first.named first.bare ∙ ap (λ rest. name ∷ rest) (own-are names paragraphs h.1)

names-alone : (names : List (List ℕ)) (paragraphs : List Paragraph) → EachBears names paragraphs → HaveNamesAlone paragraphs
names-alone [] [] h = tt
names-alone [] (made ∷ paragraphs) h = absurd h
names-alone (name ∷ names) [] h = absurd h
names-alone (name ∷ names) (made ∷ paragraphs) h =
    let first = h.0 in
    (((name, first.named), first.bare), names-alone names paragraphs h.1)

are-titled : (names : List (List ℕ)) (paragraphs : List Paragraph) → EachBears names paragraphs → Each IsTitle names → AreTitled paragraphs
are-titled [] [] h t = tt
are-titled [] (made ∷ paragraphs) h t = absurd h
are-titled (name ∷ names) [] h t = absurd h
are-titled (name ∷ names) (made ∷ paragraphs) h t =
    let first = h.0 in
    (subst IfTitle (sym first.bare) tt, (subst IfTitle (sym first.named) t.0, are-titled names paragraphs h.1 t.1))

outlined-by : (paragraphs : List Paragraph) → first_stops paragraphs ≡ true → HaveNamesAlone paragraphs → AreOutlined paragraphs
outlined-by [] stops alone = absurd (both_ways false refl stops)
outlined-by (made ∷ paragraphs) stops alone = named-outlined made paragraphs alone

-- ---- a split program

module _ (program made : Program) (summary : Summary) (split : IsSplit program summary made) where
  abbrev names : List (List ℕ)
  names = names_of program split.plan.order

  each-bears : EachBears names made.paragraphs
  each-bears =
      let written = split.written in
      let order = split.plan.order in
      let many = written.many in
      let rows = written.paragraphs in
      bears-all names made.paragraphs (rows.count ∙ sym many.words) (λ at name one n m.
      let range = beside names order (sym many.words) at name n in
      let tree = beside order split.closed many.trees at range.0 range.1 in
      let own = beside order written.cells many.items at range.0 range.1 in
      let is = rows.each at range.0 tree.0 own.0 name one range.1 tree.1 own.1 n m in
      record { named = is.named; bare = is.bare })

pub split-have : SplitProgramsHaveProcedures
split-have program made summary H few split structured =
    let bears = each-bears program made summary split in
    let written = split.written in
    let rows = written.paragraphs in
    let titles = names-titles program split.plan.order H (subst (AreFew program) rows.count few) in
    record {
      outlined = outlined-by made.paragraphs (structured_stops made structured) (names-alone (names program made summary split) made.paragraphs bears);
      titled = are-titled (names program made summary split) made.paragraphs bears titles.titled;
      different = subst AreDifferent (sym (own-are (names program made summary split) made.paragraphs bears)) titles.different;
    }
