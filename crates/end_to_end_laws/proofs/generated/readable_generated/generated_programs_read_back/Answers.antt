use Rattle.program_gen.specs.Generated.{generated}
use Rattle.end_to_end_laws.proofs.generated.readable_generated.generated_programs_read_back.Goals as goal

pub returns : goal.returns
returns c n small =
    c.readable_programs_read_back.ensures (generated n) (c.generated_programs_are_readable.ensures n small)
