use mathlib.Core.Path.{sym, ◌∙◌}
use Rattle.address_list.proofs.list.ended.Goals as goal

pub returns-then-not-is_done : goal.returns-then-not-is_done
returns-then-not-is_done c = rw (sym c.is_done.ensures ∙ c.if-not-is_done.true)

pub returns-then-changed : goal.returns-then-changed
returns-then-changed c = rw (sym c.is_done.ensures ∙ c.if-not-is_done.false, c.if-changed.true)

pub returns : goal.returns
returns c = rw (sym c.is_done.ensures ∙ c.if-not-is_done.false, c.if-changed.false)
