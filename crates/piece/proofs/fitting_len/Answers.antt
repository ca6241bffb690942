use borrow.Author.Tests.{le-leb, lt-leb}
use mathlib.Core.Bool.{and-false}
use borrow.Author.Rules.{rules}
use Rattle.piece.proofs.fitting_len.Goals as goal

pub returns-then-n-gt32768 : goal.returns-then-n-gt32768
returns-then-n-gt32768 c = rw (lt-leb _ _ c.if-n-gt32768.true)

pub returns-then-room-n : goal.returns-then-room-n
returns-then-room-n c = rw (lt-leb _ _ c.if-room-n.true, and-false)

pub returns : goal.returns
returns c = rw (le-leb _ _ c.if-n-gt32768.false, le-leb _ _ c.if-room-n.false)
