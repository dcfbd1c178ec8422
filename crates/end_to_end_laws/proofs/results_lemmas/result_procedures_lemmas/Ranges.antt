-- Each procedure of a structured program, by itself, is named by its label.
use Rattle.std.proofs.Common.{◌≡◌, ℕ, suc, zero, ◌+◌, ◌<◌, ◌==◌, List, [], ◌∷◌, length, Option, Some, None, slice_get, refl, ap, sym, ◌∙◌, subst, arith, eq-eqb}
use Rattle.std.specs.Prelude.{All, IsSome, if◌then◌else◌}
use Rattle.std.proofs.lemmas.Bool.{both_ways}
use Rattle.std.proofs.lemmas.List.Elements.{All-head, All-tail}
use Rattle.cob_tree.specs.declared.program.Paragraph.{Paragraph}
use Rattle.cob_tree.specs.declared.program.Program.{Program}
use Rattle.unparser.specs.File.{label_of, paragraph_label}
use Rattle.round_trip.specs.spelling.Named.{IsLabel}
use Rattle.symbol_tables.specs.declared.procedure_names.table.ProcedureTable.{ProcedureTable}
use Rattle.symbol_tables.specs.procedure_names.Procedures.{header_of, range_of}
use Rattle.struct_form.specs.Structured.{IsProcedure}
use Rattle.round_trip.specs.procedures.Names.{AreDifferent, IsTitle, IfTitle, AreTitled}
use Rattle.round_trip.specs.procedures.Outline.{HasProcedures}
use Rattle.round_trip.specs.procedures.Told.{own_procedures}
use Rattle.round_trip.proofs.procedures_lemmas.Heads.{names-are-own, Own, own-told}
use Rattle.round_trip.proofs.procedures_lemmas.Spans.{Rows, Spot, spot-at, outlined-behind}
use Rattle.end_to_end_laws.specs.results.result_procedures.Laws.{StructuredProceduresAreRanges}

-- ---- a paragraph with its name

record NamedAt (list : List Paragraph) (number : ℕ) : Type 0 where
  paragraph : Paragraph
  there : slice_get list number ≡ Some paragraph
  name : List ℕ
  named : paragraph.name ≡ Some name
  title : IsTitle name

has-name : (name : Option (List ℕ)) → IsSome name → (word : List ℕ) × (name ≡ Some word)
has-name None h = absurd cc
has-name (Some word) h = (word, refl)

named-at : (list : List Paragraph) → All IsProcedure list → AreTitled list → (number : ℕ) → number < length list → NamedAt list number
named-at [] all titled number below = absurd (omega (arith, below))
named-at (paragraph ∷ list) all titled zero below =
    let is = All-head IsProcedure paragraph list all in
    let name = has-name paragraph.name is.named in
    record { paragraph = paragraph; there = refl; name = name.0; named = name.1; title = subst IfTitle name.1 titled.1.0 }
named-at (paragraph ∷ list) all titled (suc number) below =
    let behind = named-at list (All-tail IsProcedure paragraph list all) titled.1.1 number (omega (arith, below)) in
    record { paragraph = behind.paragraph; there = behind.there; name = behind.name; named = behind.named; title = behind.title }

-- ---- what its name stands for

module _ (program : Program) (taken : ℕ) (H : HasProcedures program) where
  abbrev table : ProcedureTable
  table = own_procedures program taken

  own : Own program program.paragraphs taken table
  own = own-told program taken H

  different : AreDifferent table.names
  different = subst AreDifferent (sym (ap (λ t. t.names) own ∙ names-are-own program program.paragraphs 0 taken 0)) H.different

  rows : Rows program table [] [] 0 taken program.paragraphs
  rows =
      let count : length program.paragraphs ≡ 0 + length program.paragraphs = omega arith in
      record { names = ap (λ t. t.names) own; headers = ap (λ t. t.headers) own; starts = ap (λ t. t.starts) own; count = ap (λ t. t.count) own ∙ count }

  spot : (at : ℕ) (p : Paragraph) → slice_get program.paragraphs at ≡ Some p → Spot program table different program.paragraphs 0 at p
  spot at p e =
      let none : 0 + at ≡ at = omega arith in
      subst (λ n. Spot program table different program.paragraphs 0 n p) none (spot-at program table different program.paragraphs [] [] 0 taken rows (outlined-behind program.paragraphs H.outlined) at p e)

  label-is : (number : ℕ) → NamedAt program.paragraphs number → IsLabel table program number (number, number)
  label-is number at =
      let title = at.title in
      record {
        name = at.name;
        tokens = ap label_of at.there ∙ ap (λ o. paragraph_label o at.paragraph.section) at.named;
        named = title.named;
        found = ap (λ b. if b then range_of table (header_of table at.name) else None) title.capital ∙ (spot number at.paragraph at.there).named at.name at.named;
      }

pub ranges : StructuredProceduresAreRanges
ranges program taken number H structured below = record {
  last = number;
  first_label = label-is program taken H number (named-at program.paragraphs structured.procedures H.titled number below);
  alone = λ _. refl;
  last_label = λ differ. absurd (both_ways (number == number) differ (eq-eqb number number refl));
}
