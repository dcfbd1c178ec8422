-- What COBOL programs mean.
pub mod cobol_meaning
-- What a program's parts do isn't changed by items that follow the program's own.
pub mod added_items
-- Items that restructuring adds: flags, counters and states, each a number item of level 01.
pub mod cell_items
-- What a number item stores is read back from its bytes (ISO 1989:1985, SIGN clause).
pub mod stored_numbers
-- The items that a written program has for cells do what the words on these say.
pub mod cell_serving
-- Named programs name items of their own alone.
pub mod named_items
-- The parts of COBOL programs meet what the theory of control asks of parts.
pub mod cobol_parts
-- The headline for COBOL programs: what a program is written as behaves as it did.
pub mod cobol_headline
-- Named programs name paragraphs of their own alone.
pub mod own_paragraphs
-- Each part of a proper program that counts by whole numbers may be written.
pub mod served_programs
-- What is asked of a program so that its own parts may be written.
pub mod fit_programs
