use native.Mathlib.Omega.{arith}
use Rattle.lists.specs.RunLaws.{run_le}
use Rattle.downgraded_field.specs.Shown.{spacing, solid}
use Rattle.downgraded_field.specs.ShownLaws.{split_turn}
use Rattle.downgraded_field.proofs.turn.split_turn.Goals as goal

pub split_at-requires : goal.split_at-requires
split_at-requires c = omega (arith, c.run_end.ensures, run_le spacing c.args.s.now)

pub split_at-requires-2 : goal.split_at-requires-2
split_at-requires-2 c = omega (arith, c.run_end-2.ensures, run_le solid c.split_at.result.1.now)

pub returns : goal.returns
returns c = split_turn _ c.if-s-eq0.false c.run_end.ensures c.split_at.ensures.front c.split_at.ensures.back c.run_end-2.ensures c.split_at-2.ensures.front c.split_at-2.ensures.back
