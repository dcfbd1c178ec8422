use Rattle.end_to_end_laws.proofs.read_programs.readable_division.programs_that_are_read_read_back.Goals as goal

pub returns : goal.returns
returns c bytes program reads few_bytes few_tokens =
    c.readable_programs_read_back.ensures program
    (c.programs_that_are_read_are_readable.ensures bytes program reads (record { bytes = few_bytes; tokens = few_tokens }))
