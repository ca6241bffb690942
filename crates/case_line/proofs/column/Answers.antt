use Rattle.std.proofs.Common.{◌≡◌, ◌∙◌, refl, arith}
use Rattle.case_line.specs.CaseLine.{after_bars}
use Rattle.case_line.specs.CaseLineLaws.{bars_more, column_from}
use Rattle.case_line.proofs.column.Goals as goal

pub loop-k-init : goal.loop-k-init
unfolding after_bars
loop-k-init c = refl

pub loop-k-preserved : goal.loop-k-preserved
loop-k-preserved c = bars_more _ _ _ _ _ (omega arith) c.loop-k.invariant c.find.ensures c.place_after-from.ensures

pub returns : goal.returns
returns c =
    let all : c.loop-k.k ≡ c.args.n = omega arith in
    c.part.ensures ∙ column_from _ _ _ _ (rw all at c.loop-k.invariant) c.find-2.ensures
