use Rattle.address.specs.AtomBits.{bits_of}
use borrow.Author.Tests.{lt-ltb, le-ltb}
use Rattle.address.proofs.atom.bits.Goals as goal

pub returns-then-b-lt64 : goal.returns-then-b-lt64
unfolding bits_of
returns-then-b-lt64 c = simp (lt-ltb _ _ c.if-b-lt64.true)

pub returns-else-b-lt64 : goal.returns-else-b-lt64
unfolding bits_of
returns-else-b-lt64 c = simp (le-ltb _ _ c.if-b-lt64.false)
