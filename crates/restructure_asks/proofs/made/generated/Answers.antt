use Rattle.std.proofs.Common.{ap, sym, subst, inl}
use Rattle.cobol_read.specs.Reading.{Reads}
use Rattle.program_gen.specs.Generated.{generated}
use Rattle.restructure_asks.specs.Texts.{text_alone}
use Rattle.restructure_asks.proofs.made.generated.Goals as goal

-- the text reads to the program
pub returns : goal.returns
returns c bytes =
    let n = c.args.n in
    let is = c.in_ok-text.ensures in
    inl (record {
      is = ap text_alone is;
      read_back = subst (λ text. Reads text (generated n)) (sym is) (c.generated_programs_read_back.ensures n c.requires.high);
    })
