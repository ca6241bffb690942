use Rattle.envelope_line.specs.EnvelopeLine.{orcpt_fault}
use Rattle.envelope_line.proofs.orcpt.orcpt_fault.Goals as goal

pub returns : goal.returns
unfolding orcpt_fault
returns c = rw (c.are_orcpt_clean.ensures, c.tail_start.ensures.1)
