-- The summary of a table, with the lists as they are lent.
use Rattle.std.proofs.Common.{◌≡◌, ◌<◌, ◌↔◌, ℕ, Bool, true, List, length, Some, slice_get, ap, sym, ◌∙◌, subst, arith}
use Rattle.program_points.specs.paths.Flow.{main_range}
use Rattle.program_points.specs.declared.point_table.table.ProgramPoint.TheVariants.{Calls}
use Rattle.program_points.specs.declared.point_table.table.Table.{Table}
use Rattle.program_points.specs.point_table.Table.{IsTidy, IsClosed}
use Rattle.pending_returns.specs.levels.Reach.{Holds, SaysSoundly}
use Rattle.pending_returns.specs.declared.facts.RangeFacts.{RangeFacts}
use Rattle.pending_returns.specs.declared.facts.Summary.{Summary}
use Rattle.pending_returns.specs.Summary.{Rises}
use Rattle.pending_returns.specs.Tabled.{AllBelow, CallsBelow, Lists, TellsLevels, LeadsTo, Ranks, KeepsFacts, MarksLevels, RangesRise, SummarisesTable}
use Rattle.pending_returns.proofs.Getting.{get-below}
use Rattle.pending_returns.proofs.Meaning.{summarises}

-- each range that a level performs is one of the table
pub calls-below : (table : Table) (returns : List Bool) (levels same : List RangeFacts) (count : ℕ) → IsTidy table → TellsLevels table returns levels → same ≡ levels → count ≡ length levels → CallsBelow count same
calls-below table returns levels same count tidy told is size = λ number facts e call has.
    let each = told.each number facts (ap (λ (ls : List RangeFacts). slice_get ls number) (sym is) ∙ e) in
    let called = (each.2.calls_are call).1 has in
    let place = tidy.places called.0 (Calls call called.1) called.3 in
    omega (arith, place.0, told.size, size)

pub some-levels : (table : Table) (returns : List Bool) (levels same : List RangeFacts) → slice_get table.ranges 0 ≡ Some main_range → TellsLevels table returns levels → same ≡ levels → 0 < length same
some-levels table returns levels same main told is = omega (arith, get-below table.ranges 0 main_range main, told.size, ap (λ (ls : List RangeFacts). length ls) is)

-- each number whose flag is on is below how many there are
pub kept-below : (flags fs : List Bool) (kept ks : List ℕ) (count : ℕ) → fs ≡ flags → Lists fs kept → ks ≡ kept → length flags ≡ count → AllBelow count ks
kept-below flags fs kept ks count one lists two size = λ number has.
    let on = (lists.on number).1 (subst (λ (ns : List ℕ). Holds ns number) two has) in
    let less : number < length fs = get-below fs number true on in
    omega (arith, less, ap (λ (bs : List Bool). length bs) one, size)

pub kept-rises : (fs : List Bool) (kept ks : List ℕ) → Lists fs kept → ks ≡ kept → Rises ks
kept-rises fs kept ks lists is = subst (λ (ns : List ℕ). Rises ns) (sym is) lists.rises

pub summarises-lent : (table : Table) (returns rs1 rs2 : List Bool) (levels ls1 ls2 : List RangeFacts) (flags fs : List Bool) (kept ks1 ks2 ks3 ranks qs : List ℕ) (made : List RangeFacts) (marks : List Bool) (summary : Summary) → rs1 ≡ returns → rs2 ≡ returns → ls1 ≡ levels → ls2 ≡ levels → fs ≡ flags → ks1 ≡ kept → ks2 ≡ kept →
    ks3 ≡ kept → qs ≡ ranks → SaysSoundly table returns → IsClosed table returns → IsTidy table → slice_get table.ranges 0 ≡ Some main_range → RangesRise table.ranges → TellsLevels table rs1 levels → ((number : ℕ) → slice_get flags number ≡ Some true ↔ LeadsTo ls1 number) → Lists fs kept → Ranks ks1 ranks → KeepsFacts ls2 ks2 qs made →
    MarksLevels table rs2 ks3 marks → length marks ≡ length table.starts → summary.ranges ≡ made → summary.reached ≡ marks → SummarisesTable table summary
summarises-lent table returns rs1 rs2 levels ls1 ls2 flags fs kept ks1 ks2 ks3 ranks qs made marks summary e_rs1 e_rs2 e_ls1 e_ls2 e_fs e_ks1 e_ks2 e_ks3 e_qs sound closed tidy main rise told led lists ranked keeps marked size e_made e_marks =
    let told1 = subst (λ (rs : List Bool). TellsLevels table rs levels) e_rs1 told in
    let led1 : (number : ℕ) → slice_get flags number ≡ Some true ↔ LeadsTo levels number = subst (λ (ls : List RangeFacts). (number : ℕ) → slice_get flags number ≡ Some true ↔ LeadsTo ls number) e_ls1 led in
    let lists1 = subst (λ (bs : List Bool). Lists bs kept) e_fs lists in
    let ranked1 = subst (λ (ks : List ℕ). Ranks ks ranks) e_ks1 ranked in
    let keeps1 = subst (λ (ls : List RangeFacts). KeepsFacts ls ks2 qs made) e_ls2 keeps in
    let keeps2 = subst (λ (ks : List ℕ). KeepsFacts levels ks qs made) e_ks2 keeps1 in
    let keeps3 = subst (λ (ns : List ℕ). KeepsFacts levels kept ns made) e_qs keeps2 in
    let marked1 = subst (λ (rs : List Bool). MarksLevels table rs ks3 marks) e_rs2 marked in
    let marked2 = subst (λ (ks : List ℕ). MarksLevels table returns ks marks) e_ks3 marked1 in
    summarises table returns levels flags kept ranks made told1 led1 lists1 ranked1 keeps3 sound closed tidy main rise marks marked2 size summary e_made e_marks
