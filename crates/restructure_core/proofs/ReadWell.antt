-- A program that is read, and has no fault of flow, may be split.
use Rattle.std.proofs.Common.{ℕ, List}
use Rattle.cob_tree.specs.declared.program.Program.{Program}
use Rattle.pending_returns.specs.declared.facts.Summary.{Summary}
use Rattle.cobol_read.specs.Reading.{Reads}
use Rattle.procedure_split.specs.shaped_ranges.Laws.{HasFlow}
use Rattle.end_to_end_laws.proofs.results_lemmas.read_headline_lemmas.WellMade.{well-made}
use Rattle.restructure_core.specs.Made.{IsClear}
use Rattle.restructure_core.proofs.ReadSome.{read_some}

pub read_flow : (bytes : List ℕ) (program : Program) (summary : Summary) → Reads bytes program →
    IsClear program summary → HasFlow program summary
read_flow bytes program summary reads clear =
    let proper = (well-made bytes program reads).proper in
    record {
      items = proper.own_items;
      paragraphs = proper.own_paragraphs;
      some = read_some bytes program reads;
      flow = clear.flow;
    }
