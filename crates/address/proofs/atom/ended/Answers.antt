use Rattle.address.specs.AddressLaws.{later_to, later_stop}
use mathlib.Core.Path.{sym}
use Rattle.address.proofs.atom.ended.Goals as goal

pub returns-then-due : goal.returns-then-due
returns-then-due c = rw c.if-due.true (sym (later_stop _))

pub returns-else-due : goal.returns-else-due
returns-else-due c = rw c.if-due.false (sym (later_to _))
