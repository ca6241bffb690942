use Rattle.std.proofs.Common.{sym}
use Rattle.lists.specs.Byte.{is_ascii}
use Rattle.lists.specs.RunLaws.{run_stop, run_end}
use Rattle.utf8.specs.Utf8.{ascii_run}
use borrow.Author.Tests.{le-ltb}
use Rattle.utf8.proofs.ascii_end.Goals as goal

pub returns-then-s-at : goal.returns-then-s-at
unfolding ascii_run
returns-then-s-at c = sym (run_end is_ascii _ _ c.if-s-at.true)

pub returns-then-s-at-ge128 : goal.returns-then-s-at-ge128
unfolding ascii_run
returns-then-s-at-ge128 c = sym (run_stop is_ascii _ _ c.if-s-at.false (le-ltb _ _ c.if-s-at-ge128.true))

pub returns : goal.returns
unfolding ascii_run
returns c = c.long_run_end.ensures
