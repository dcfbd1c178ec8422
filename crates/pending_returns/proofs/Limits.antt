-- The limit, and the summary of a program.
use Rattle.std.proofs.Common.{◌≡◌, ◌<◌, ◌≤◌, ℕ, Bool, List, length, ap, sym, ◌∙◌, subst, Some, slice_get}
use Rattle.cob_base.specs.Limit.{max_ranges}
use Rattle.cob_tree.specs.declared.fault.SplitFault.{SplitFault}
use Rattle.cob_tree.specs.declared.fault.SplitFault.TheVariants as fault
use Rattle.cob_tree.specs.declared.program.Program as tree
use Rattle.cob_tree.specs.declared.program.Range.{Range}
use Rattle.control_flow_theory.specs.language.Language.{Chooser}
use Rattle.control_flow_theory.specs.language.Control.{control_of}
use Rattle.program_points.specs.paths.Flow.{main_range}
use Rattle.program_points.specs.declared.point_table.table.Table.{Table}
use Rattle.program_points.specs.perform_ranges.Named.{AreRangesOf}
use Rattle.program_points.specs.table_building.Numbering.{Counts, HasTable}
use Rattle.program_points.proofs.table_building_lemmas.Sections.{seen-length}
use Rattle.pending_returns.specs.declared.facts.Summary.{Summary}
use Rattle.pending_returns.specs.Summary.{IsSummary, IsLimit, IsWithin, IsRangeLimitOrNoMemory}
use Rattle.pending_returns.specs.Tabled.{RangesRise, SummarisesTable}

pub past-limit : (program : tree.Program) (ranges : List Range) (counted : ℕ) (refused : SplitFault) → AreRangesOf program ranges → counted ≡ length ranges → max_ranges < counted → IsLimit counted refused → IsRangeLimitOrNoMemory program refused
past-limit program ranges counted (fault.Limit limit) are size lt is = (counted, (ranges, are, sym size), lt, is)
past-limit program ranges counted fault.NoMemory are size lt is = absurd is

pub within-limit : (program : tree.Program) (ranges : List Range) (counted : ℕ) → AreRangesOf program ranges → counted ≡ length ranges → counted ≤ max_ranges → IsWithin program
within-limit program ranges counted are size le = (counted, (ranges, are, sym size), le)

pub out-of-memory : (program : tree.Program) (refused : SplitFault) → refused ≡ fault.NoMemory → IsRangeLimitOrNoMemory program refused
out-of-memory program refused is = subst (λ (f : SplitFault). IsRangeLimitOrNoMemory program f) (sym is) tt

-- the ranges of the table are main and those that are named
pub main-first : (program : tree.Program) (table : Table) (ranges : List Range) → table.ranges ≡ ranges → AreRangesOf program ranges → slice_get table.ranges 0 ≡ Some main_range
main-first program table ranges is are = ap (λ (rs : List Range). slice_get rs 0) is ∙ are.main

pub ranges-rise : (program : tree.Program) (table : Table) (ranges : List Range) → table.ranges ≡ ranges → AreRangesOf program ranges → RangesRise table.ranges
ranges-rise program table ranges is are = subst (λ (rs : List Range). RangesRise rs) (sym is) are.rising

pub is-summary : (never_first : Chooser → Bool) (program : tree.Program) (table : Table) (summary : Summary) → HasTable never_first (control_of program) table → Counts (length program.paragraphs) table.starts → SummarisesTable table summary → IsSummary never_first (control_of program) summary
is-summary never_first program table summary has counts summarises = summarises never_first (control_of program) has.0 has.1 (counts.size ∙ sym (seen-length 0 program.paragraphs))
