use lib.Dec.{eqb}
use lib.ListN.{get_or}
use Rattle.xtext.proofs.XtextLaws.{unit_bare, unit_short, unit_other, unit_hex, two_digits}
use native.Mathlib.Omega.{arith}
use Rattle.xtext.proofs.unit_at.Goals as goal

pub returns-then-is_xchar : goal.returns-then-is_xchar
returns-then-is_xchar c = (unit_bare _ _ c.requires _ c.is_xchar.ensures c.if-is_xchar.true, omega arith)

pub returns-then-s-at-lt3 : goal.returns-then-s-at-lt3
returns-then-s-at-lt3 c = unit_short _ _ c.requires _ c.is_xchar.ensures c.if-is_xchar.false c.if-s-at-lt3.true

pub returns-then-not-b-high : goal.returns-then-not-b-high
returns-then-not-b-high c = unit_other _ _ c.requires _ c.is_xchar.ensures c.if-is_xchar.false _ _ c.value-high.ensures.0 c.value-low.ensures.0 (c.if-not-b-high.true)

pub overflow_mul-result : goal.overflow_mul-result
overflow_mul-result c = let p = two_digits (eqb (get_or c.args.s.now c.args.at 0) 43) c.value-high.result c.value-low.result (c.if-not-b-high.false) in omega arith

pub overflow_add-result : goal.overflow_add-result
overflow_add-result c = let p = two_digits (eqb (get_or c.args.s.now c.args.at 0) 43) c.value-high.result c.value-low.result (c.if-not-b-high.false) in omega arith

pub returns : goal.returns
returns c = (unit_hex _ _ c.requires _ c.is_xchar.ensures c.if-is_xchar.false _ _ c.value-high.ensures.0 c.value-low.ensures.0 (c.if-not-b-high.false) (omega arith), omega arith)
