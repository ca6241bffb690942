use lib.ListN.{length-take}
use mathlib.Core.Path.{sym, ◌∙◌}
use Rattle.word_choice.specs.RegularLaws.{word_back}
use Rattle.word_choice.specs.ChoiceLaws.{also_plain}
use native.Mathlib.Omega.{arith}
use Rattle.word_choice.proofs.by_block.Goals as goal

pub slice_bounds-count-end : goal.slice_bounds-count-end
slice_bounds-count-end c = sym (length-take 32 c.args.text.now ∙ omega (arith, c.requires.1))

pub count-requires : goal.count-requires
count-requires c = omega (arith, length-take 32 c.args.text.now)

pub returns-then-regular : goal.returns-then-regular
returns-then-regular c = rw c.step_back.ensures (word_back (omega arith) c.if-limit-ge34.true (omega (arith, c.requires.0)) c.requires.1 (c.regular.ensures c.if-regular.true) (omega (arith, c.if-room-count.true, c.count.ensures.0)))

pub returns-then-limit-others : goal.returns-then-limit-others
returns-then-limit-others c = also_plain c.args.room c.args.text.now (omega (arith, c.requires.0)) (omega (arith, c.if-limit-others.true, c.others.ensures.0))
