-- Each paragraph that is made has a name, and stands in no section.
use Rattle.std.proofs.Common.{◌≡◌, ◌<◌, ℕ, zero, suc, List, [], ◌∷◌, length, Some, slice_get, refl, ap, sym, arith}
use Rattle.std.specs.Prelude.{is_some, slice_index_or}
use Rattle.cob_tree.specs.declared.program.Paragraph.{Paragraph}
use Rattle.cob_tree.specs.declared.program.Program.{Program}
use Rattle.out_names.specs.Naming.{names_of}
use Rattle.procedure_split.proofs.made_procedures_lemmas.Rows.{beside}
use Rattle.pending_returns.specs.declared.facts.Summary.{Summary}
use Rattle.procedure_split.specs.Splitting.{IsSplit}
use Rattle.procedure_split.specs.split_behaviour.Alike.{StandsAlone, SplitProgramsHaveNames}

-- each at its place
pub all-at : {A : Type 0} (P : A → Type 0) (xs : List A) →
    ((at : ℕ) (x : A) → slice_get xs at ≡ Some x → P x) →
    (k : ℕ) (d : A) → k < length xs → P (slice_index_or xs k d)
all-at P [] each k d within = absurd (omega (arith, within))
all-at P (x ∷ xs) each zero d within = each 0 x refl
all-at P (x ∷ xs) each (suc k) d within =
    let fewer : k < length xs = omega (arith, within) in
    all-at P xs (λ at y is. each (suc at) y is) k d fewer

pub stands-alone-at : (program made : Program) (summary : Summary)
    (split : IsSplit program summary made) (at : ℕ) (paragraph : Paragraph) →
    slice_get made.paragraphs at ≡ Some paragraph → StandsAlone paragraph
stands-alone-at program made summary split at paragraph is =
    let written = split.written in
    let order = split.plan.order in
    let range = beside made.paragraphs order (sym written.paragraphs.count) at paragraph is in
    let closed = beside order split.closed written.many.trees at range.0 range.1 in
    let cells = beside order written.cells written.many.items at range.0 range.1 in
    let name = beside order (names_of program order) written.many.words at range.0 range.1 in
    let one = written.paragraphs.each at range.0 closed.0 cells.0 name.0 paragraph range.1 closed.1
    cells.1 name.1 is in
    (ap is_some one.named, one.bare)

pub have-names : SplitProgramsHaveNames
have-names program made summary split =
    all-at StandsAlone made.paragraphs (stands-alone-at program made summary split)
