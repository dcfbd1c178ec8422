use Rattle.std.proofs.Common.{◌∙◌, ℕ, List, ap₂, map, refl}
use Rattle.cob_tree.specs.declared.program.Paragraph.{Paragraph}
use Rattle.control_flow_theory.specs.language.Control.{control_of}
use Rattle.program_points.specs.numbering.Kind.{never_first_of}
use Rattle.out_names.specs.Naming.{paragraph_label}
use Rattle.procedure_split.proofs.report.report.report_of.Goals as goal

pub returns : goal.returns
returns c =
    let program = c.args.program.now in
    record {
      name = refl;
      paragraphs = c.in_ok-paragraphs.ensures ∙ c.len.ensures;
      ranges = c.in_ok-ranges.ensures ∙ c.len-2.ensures;
      dropped = (
        c.in_ok-numbers.numbers,
        c.in_ok-numbers.ensures (never_first_of program.files) (control_of program) c.requires,
        c.in_ok-dropped.ensures
            ∙ ap₂ (λ (ps : List Paragraph) (ns : List ℕ). map (paragraph_label ps) ns)
            c.as_slice.ensures c.as_slice-2.ensures,
      );
      never = refl;
      flags = refl;
      counts = refl;
      states = refl;
      exits = refl;
    }
