use Rattle.end_to_end_laws.proofs.results.readable_results.split_programs_read_back.Goals as goal

pub returns : goal.returns
returns c bytes program made summary reads flows split limits =
    c.readable_programs_read_back.ensures made
    (c.split_programs_are_readable.ensures bytes program made summary reads flows split limits)
