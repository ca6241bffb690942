use Rattle.call.proofs.OutputLaws.{most_small, ample}
use native.Mathlib.Omega.{arith}
use borrow.Author.Rules.{rules}
use Rattle.call.proofs.output.header_needs.Goals as goal

pub overflow_add-most : goal.overflow_add-most
overflow_add-most c = omega (arith, most_small c.requires.1 c.requires.2)

pub returns-then-most-room : goal.returns-then-most-room
returns-then-most-room c = ample c.requires.0 c.requires.1 c.requires.2 c.if-most-room.true
