-- What is made of the shaped ranges of a program, in the order of its plan.
use Rattle.std.specs.Prelude.{ℕ, ◌≡◌, Bool, List, [], ◌∷◌, length, Some, None, slice_get}
use Rattle.cob_tree.specs.declared.program.Paragraph.{Paragraph}
use Rattle.cob_tree.specs.declared.program.Program.{Program}
use Rattle.cob_tree.specs.declared.program.Range.{Range}
use Rattle.cob_tree.specs.declared.program.Sentence.{Sentence}
use Rattle.control_flow_theory.specs.language.Control.{control_of}
use Rattle.control_flow_theory.specs.semantics.Graph.{Tree}
use Rattle.control_flow_theory.specs.rendering.Rendering.{place_of}
use Rattle.control_flow_theory.specs.main_theorem.MainTheorem.{procedures_by}
use Rattle.meanings.specs.statements.Does.{declared_in}
use Rattle.cobol_theory.specs.added_items.Own.{items}
use Rattle.branch_tree.specs.Tree.{seen_tree}
use Rattle.lowering_labels.specs.points.FallThrough.{seen_range}
use Rattle.statement_builders.specs.arms.Written.{Way}
use Rattle.statement_builders.specs.declared.arms.placing.ProcedurePlace.{ProcedurePlace}
use Rattle.statement_builders.specs.item_words.Words.{AreItems}
use Rattle.statement_builders.specs.declared.item_words.cells.CellItem.{CellItem}
use Rattle.body_rendering.specs.Procedure.{IsProcedure, is_main}
use Rattle.cobol_theory.specs.cobol_headline.Alike.{Writing}
use Rattle.procedure_split.specs.declared.shaped_ranges.shaping.Closed.{Closed}

-- a paragraph of this name, in no section, that holds one sentence, a procedure
pub record IsParagraphOf (cells : List CellItem) (places : List ProcedurePlace) (main : Bool)
    (whole : Tree) (name : List ℕ) (made : Paragraph) : Type 0 where
  pub named : made.name ≡ Some name
  -- it is in no section
  pub bare : made.section ≡ None
  pub sentence : Sentence
  -- it has one sentence
  pub alone : made.sentences ≡ sentence ∷ []
  -- which is all that the procedure holds
  pub is : IsProcedure cells places main whole sentence

-- there is one paragraph for each range, with its name and the items of its cells
pub record AreParagraphsOf (order : List Range) (closed : List Closed)
    (cells : List (List CellItem)) (places : List ProcedurePlace) (names : List (List ℕ))
    (paragraphs : List Paragraph) : Type 0 where
  pub count : length paragraphs ≡ length order
  -- each paragraph is that of its range
  pub each : (at : ℕ) (range : Range) (one : Closed) (own : List CellItem) (name : List ℕ)
      (made : Paragraph) → slice_get order at ≡ Some range → slice_get closed at ≡ Some one →
      slice_get cells at ≡ Some own → slice_get names at ≡ Some name →
      slice_get paragraphs at ≡ Some made →
      IsParagraphOf own places (is_main (seen_range range)) (seen_tree one.tree) name made

-- there are as many of each as there are ranges
pub record AreAsMany (order : List Range) (closed : List Closed) (cells : List (List CellItem))
    (names : List (List ℕ)) : Type 0 where
  pub trees : length closed ≡ length order
  pub items : length cells ≡ length order
  pub words : length names ≡ length order

-- each place in the list is that of a range in the order
abbrev pub ArePlacesIn : List Range → List ProcedurePlace → Type 0
ArePlacesIn order places = (at : ℕ) (placed : ProcedurePlace) → slice_get places at ≡ Some placed →
    slice_get order placed.place
    ≡ Some (record { entry = placed.entry; exit = Some placed.exit })

-- how a range of the program is written
abbrev pub way_of : Program → Writing → Range → Way
way_of program writing range = record {
  first = items (declared_in program);
  table = writing.table;
  place = place_of (procedures_by writing.plan (control_of program));
  range = seen_range range;
}

-- each range has these items for its cells
abbrev pub HaveItems : Program → Writing → List Range → List (List CellItem) → Type 0
HaveItems program writing order cells =
    (at : ℕ) (range : Range) (own : List CellItem) → slice_get order at ≡ Some range →
    slice_get cells at ≡ Some own → AreItems (way_of program writing range) own
