use Rattle.demands.proofs.DemandsLaws.{met}
use Rattle.read_back.specs.ReadBackLaws.{part_inside, part_size, downgraded_shown}
use borrow.Author.Rules.{rules}
use Rattle.read_back.proofs.downgrade_and_read.Goals as goal

pub slice_bounds-read_number-end : goal.slice_bounds-read_number-end
slice_bounds-read_number-end c = part_inside (met c.hennelaku_downgrade_slices-downgraded.ensures).demand_1.header_kept

pub slice_bounds-read_number-end-2 : goal.slice_bounds-read_number-end-2
slice_bounds-read_number-end-2 c = part_size (met c.hennelaku_downgrade_slices-downgraded.ensures).demand_1.header_kept

pub returns : goal.returns
returns c = record {
  demands = met c.hennelaku_downgrade_slices-downgraded.ensures;
  call_reads_back = λ z. downgraded_shown (met c.hennelaku_downgrade_slices-downgraded.ensures) z c.read_number-read.ensures;
}
