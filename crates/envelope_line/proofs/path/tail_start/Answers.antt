use native.Mathlib.Omega.{arith}
use Rattle.envelope_line.proofs.PathLaws.{tail_from}
use Rattle.envelope_line.proofs.path.tail_start.Goals as goal

pub returns : goal.returns
returns c =
    let n = c.path_end.ensures in
    let r = c.place_after.ensures in
    (rw (← n) r, tail_from _ _ _ _ n r (omega arith))
