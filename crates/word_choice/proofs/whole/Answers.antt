use Rattle.word_choice.specs.ChoiceLaws.{also_short, also_whole, all_in_b}
use Rattle.word_choice.specs.BlockLaws.{highs_cost}
use native.Mathlib.Omega.{arith}
use Rattle.word_choice.proofs.whole.Goals as goal

pub returns-then-text-room : goal.returns-then-text-room
returns-then-text-room c = also_short c.args.room c.args.text.now c.if-text-room.true

pub returns-then-room-text : goal.returns-then-room-text
returns-then-room-text c = all_in_b c.args.text.now c.requires.1 (omega (arith, c.if-room-text.true, c.count.ensures.0, highs_cost c.args.text.now))

pub returns-then-costs-room : goal.returns-then-costs-room
returns-then-costs-room c = also_whole c.args.room c.args.text.now (omega (arith, c.if-costs-room.true, c.costs.ensures))

pub returns : goal.returns
returns c = all_in_b c.args.text.now c.requires.1 (omega (arith, c.if-costs-room.false, c.costs.ensures))
