use Rattle.word_choice.specs.BlockLaws.{escaped_cost}
use native.Mathlib.Omega.{arith}
use Rattle.word_choice.proofs.costs.Goals as goal

pub returns : goal.returns
returns c = omega (arith, escaped_cost c.args.text.now, c.count.ensures.0)
