use borrow.Author.Tests.{lt-ltb, le-ltb}
use native.Mathlib.Omega.{arith}
use Prim.Native.Nat.{◌-◌}
use lib.Count.{leading_le}
use Rattle.utf8.specs.Utf8.{char_len}
use Rattle.utf8.proofs.char_len.Goals as goal

pub returns-then-b-lt128 : goal.returns-then-b-lt128
unfolding char_len
returns-then-b-lt128 c = simp (lt-ltb _ _ c.if-b-lt128.true)

pub overflow_cast-result : goal.overflow_cast-result
overflow_cast-result c = omega (arith, leading_le 8 (255 - c.args.b))

pub returns : goal.returns
unfolding char_len
returns c = simp (le-ltb _ _ c.if-b-lt128.false)
