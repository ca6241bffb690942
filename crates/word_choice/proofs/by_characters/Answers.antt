use Rattle.word_choice.specs.ChoiceLaws.{also_full, word_in_b}
use native.Mathlib.Omega.{arith}
use Rattle.word_choice.proofs.by_characters.Goals as goal

pub returns-then-costs-room : goal.returns-then-costs-room
returns-then-costs-room c = also_full {room = c.args.room} (omega arith) c.b_end-e.ensures (omega (arith, c.if-costs-room.true, c.costs.ensures))

pub returns : goal.returns
returns c = word_in_b (omega arith) c.b_end-e.ensures (omega (arith, c.if-costs-room.false, c.costs.ensures))
