use Rattle.std.proofs.Common.{◌≡◌, ◌+◌, sym, ◌∙◌, arith, length, drop}
use Rattle.comment.proofs.CommentLaws.{run_more, run_stop, run_over}
use Rattle.structured_token.specs.Tokens.{is_quote}
use Rattle.field_parameter.proofs.quote_at.Goals as goal

pub returns-then-b-escaped : goal.returns-then-b-escaped
returns-then-b-escaped c = sym (c.loop-i.invariant ∙ run_stop _ _ _ _ c.loop-i-test.true c.if-b-escaped.true)

pub loop-i-preserved : goal.loop-i-preserved
loop-i-preserved c = c.loop-i.invariant ∙ run_more is_quote _ _ _ c.loop-i-test.true c.if-b-escaped.false ∙ rw c.escapes-escaped.ensures

pub returns : goal.returns
returns c = let e = c.loop-i.invariant ∙ run_over _ _ _ _ c.loop-i-test.false in omega (arith, c.loop-i.auto.i-end c.requires)
