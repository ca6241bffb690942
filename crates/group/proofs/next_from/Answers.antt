use Rattle.group.proofs.GroupLaws.{next_past, no_turn_lem}
use Rattle.group.specs.Group.{no_turn}
use native.Mathlib.Omega.{arith}
use mathlib.Core.Path.{refl}
use borrow.Author.Rules.{rules}
use Rattle.group.proofs.next_from.Goals as goal

pub returns-then-s-at : goal.returns-then-s-at
unfolding no_turn
returns-then-s-at c =
    let given = c.args in
    (no_turn_lem given.rules given.s.now given.at c.if-s-at.true, record { there = λ h. next_past c.if-s-at.true h; past = λ h. refl })

pub returns : goal.returns
returns c = (c.next_at.ensures.equal, record { there = λ h. c.next_at.ensures; past = λ h. absurd (omega (arith, h, c.if-s-at.false)) })
