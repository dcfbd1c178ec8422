-- Programs whose counts are whole numbers: definitions alone.
--
-- What TIMES and GO TO DEPENDING count by is a whole number, ZERO, or a number item without
-- decimal places (`specs/whole_counts/Whole.antt`).
-- counts by whole numbers
pub mod Whole
