use Rattle.parameter.specs.ParameterLaws.{value_from}
use native.Mathlib.Omega.{arith}
use Rattle.parameter.proofs.value_start.Goals as goal

pub returns : goal.returns
returns c =
    let k = c.keyword_len.ensures in
    let r = c.place_after.ensures in
    (rw (← k) r, value_from _ _ k _ r (omega arith))
