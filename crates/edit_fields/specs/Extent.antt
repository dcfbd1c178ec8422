-- How long a mask is: written out, and as it is printed, where a run of one symbol has a count.
use Rattle.std.specs.Prelude.{ℕ, Bool, false, not, ◌==◌, ◌&&◌, ◌||◌, nat_lt, nat_le, if◌then◌else◌}
use Rattle.edit_fields.specs.declared.extent.Extent.{Extent}
use Rattle.edit_fields.specs.Symbol.{symbol_9, symbol_comma, symbol_period, symbol_v}
use Rattle.edit_fields.specs.Shape.{tally}

-- of no symbol yet
abbrev pub no_extent : Extent
no_extent = record { size = 0; printed = 0; last = 0; run = 0; edits = false }

-- the bytes that a run of one symbol is printed in: `Z`, or `Z(12)`
abbrev pub run_size : ℕ → ℕ
run_size run =
    if nat_le run 1 then run else if nat_lt run 10 then 4 else if nat_lt run 100 then 5 else 6

-- a number has 9 and V too, a mask has another symbol
abbrev pub is_edit : ℕ → Bool
is_edit symbol = not (symbol == symbol_9 || symbol == symbol_v)

-- the last run goes on, or another begins
abbrev pub longer : ℕ → Extent → Extent
longer symbol extent =
    if extent.last == symbol
    then record extent { size = tally extent.size 1; run = tally extent.run 1 }
    else record {
      size = tally extent.size 1;
      printed = tally extent.printed (run_size extent.run);
      last = symbol;
      run = 1;
      edits = extent.edits || is_edit symbol;
    }

-- at most 160 bytes written out, and 50 as it is printed, so that it is on one line
abbrev pub is_short : Extent → Bool
is_short extent =
    nat_le extent.size 160 && nat_le (tally extent.printed (run_size extent.run)) 50

-- a period or a comma after a picture ends a sentence or a clause
abbrev pub ends_well : Extent → Bool
ends_well extent = not (extent.last == symbol_period || extent.last == symbol_comma)
