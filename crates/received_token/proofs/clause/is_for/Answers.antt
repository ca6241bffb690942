use native.Mathlib.Omega.{arith}
use Rattle.received_token.proofs.TokensLaws.{for_not, for_within, for_rest}
use Rattle.received_token.proofs.clause.is_for.Goals as goal

pub returns-then-not-first : goal.returns-then-not-first
returns-then-not-first c = for_not c.args.s.now c.args.at c.byte_at-first.ensures c.if-not-first.true

pub slice_bounds-is_for_there-count : goal.slice_bounds-is_for_there-count
slice_bounds-is_for_there-count c = let k = for_within c.args.s.now c.args.at c.byte_at-first.ensures c.if-not-first.false in omega (arith, k)

pub slice_bounds-is_for_there-start : goal.slice_bounds-is_for_there-start
slice_bounds-is_for_there-start c = let k = for_within c.args.s.now c.args.at c.byte_at-first.ensures c.if-not-first.false in omega (arith, k)

pub returns : goal.returns
returns c = for_rest c.args.s.now c.args.at c.is_for_there.ensures
