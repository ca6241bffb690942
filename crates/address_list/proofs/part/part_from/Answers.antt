use mathlib.Core.Path.{refl}
use Rattle.address_list.specs.PartsLaws.{took_from, took_past}
use Rattle.address_list.proofs.part.part_from.Goals as goal

pub returns-then-s-at : goal.returns-then-s-at
returns-then-s-at c = took_past c.if-s-at.true refl

pub returns : goal.returns
returns c = rw c.unwrap_or.ensures (took_from c.if-s-at.false c.part_at.ensures)
