use Rattle.buffer.specs.BufferLaws.{length_added}
use Rattle.word_reader.specs.WordLaws.{groups_start, groups_next, groups_last, groups_end, length_groups}
use mathlib.Core.Path.{◌≡◌, ◌∙◌, refl}
use Prim.Native.Nat.{◌+◌}
use lib.ListN.{length}
use native.Mathlib.Omega.{arith}
use Rattle.word_reader.proofs.base64_text.add.Goals as goal

pub loop-quad-init : goal.loop-quad-init
loop-quad-init c = groups_start _ _ _ (omega arith)

pub returns-then-is_empty : goal.returns-then-is_empty
returns-then-is_empty c = groups_last c.loop-quad.invariant c.in-Some.ensures.cases.0 c.in-Some.ensures.cases.1 c.in-Some.ensures.cases.2 c.is_empty.ensures (omega arith) c.if-is_empty.true c.add_last-last.ensures

pub loop-quad-preserved : goal.loop-quad-preserved
loop-quad-preserved c = groups_next c.loop-quad.invariant c.in-Some.ensures.cases.0 c.in-Some.ensures.cases.1 c.in-Some.ensures.cases.2 c.is_empty.ensures (omega arith) c.if-is_empty.false c.is_quad-good.ensures c.add_quad-place.ensures

pub returns : goal.returns
returns c = groups_end c.loop-quad.invariant (omega (arith, c.in_default.ensures.cases)) c.is_empty-2.ensures
