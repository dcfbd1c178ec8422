use Rattle.std.proofs.Common.{◌≡◌, ◌<◌, suc, drop, length}
use Rattle.control_flow_theory.specs.language.Control.{section_last, seen_paragraphs}
use Rattle.program_points.specs.numbering.Kind.{never_first_of}
use Rattle.program_points.proofs.table_building_lemmas.Paragraphs.{NumbersFrom}
use Rattle.program_points.proofs.table_building.number.build_paragraphs.Given as goal

abbrev pub invariant-loop-number : goal.invariant-loop-number
invariant-loop-number l = record {
  count : l.numbering.builder.count ≡ l.fn.numbering.builder.count;
  owners : length l.numbering.owners.items ≡ length l.numbering.builder.places.items;
  last : l.number < length l.paragraphs → l.last ≡ section_last l.number (drop (suc l.number) l.paragraphs);
  builds : NumbersFrom (never_first_of l.files) (seen_paragraphs 0 l.paragraphs) l.fn.numbering.builder.count l.number l.fn.numbering.builder.places.items l.numbering.builder.places.items l.fn.numbering.builder.ranges.items l.numbering.builder.ranges.items
      l.fn.numbering.owners.items l.numbering.owners.items;
}
