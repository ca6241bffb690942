use Rattle.utf8.specs.Utf8AtLaws.{char_at_within, utf8_run, utf8_step, utf8_stop, utf8_end}
use Rattle.utf8.specs.Utf8.{ascii_run}
use Rattle.lists.specs.RunLaws.{run_step}
use Rattle.lists.specs.Byte.{is_ascii}
use borrow.Author.Tests.{lt-ltb}
use lib.ListN.{length-drop, drop}
use mathlib.Core.Path.{refl, sym, ◌∙◌}
use native.Mathlib.Omega.{arith}
use Rattle.utf8.proofs.is_utf8_slowly.Goals as goal

pub loop-i-init : goal.loop-i-init
loop-i-init c = refl

pub loop-i-smaller-then-s-i-lt128 : goal.loop-i-smaller-then-s-i-lt128
unfolding ascii_run
loop-i-smaller-then-s-i-lt128 c = omega (arith, c.ascii_end-i.ensures, run_step is_ascii c.args.s.now c.loop-i.i c.loop-i-test.true (lt-ltb _ _ c.if-s-i-lt128.true))

pub loop-i-preserved-then-s-i-lt128 : goal.loop-i-preserved-then-s-i-lt128
loop-i-preserved-then-s-i-lt128 c = c.loop-i.invariant ∙ utf8_run _ _ _ c.ascii_end-i.ensures

pub returns-then-n-eq0 : goal.returns-then-n-eq0
returns-then-n-eq0 c = sym (c.loop-i.invariant ∙ utf8_stop _ _ c.loop-i-test.true (sym c.char_at-n.ensures ∙ c.if-n-eq0.true))

pub overflow_add-i : goal.overflow_add-i
overflow_add-i c = let s = c.args.s.now in omega (arith, char_at_within (drop c.loop-i.i s), length-drop c.loop-i.i s)

pub loop-i-preserved : goal.loop-i-preserved
loop-i-preserved c = c.loop-i.invariant ∙ utf8_step _ _ _ c.char_at-n.ensures c.if-n-eq0.false

pub returns : goal.returns
returns c = sym (c.loop-i.invariant ∙ utf8_end _ _ c.loop-i-test.false)
