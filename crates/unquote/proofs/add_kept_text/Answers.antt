use Rattle.std.proofs.Common.{◌∙◌, arith}
use Rattle.unquote.specs.UnquoteLaws.{kept_step, kept_end}
use Rattle.buffer.specs.BufferLaws.{capped_start, capped_turn, capped_end, length_capped}
use Rattle.unquote.proofs.add_kept_text.Goals as goal

pub loop-b-init : goal.loop-b-init
loop-b-init g c = capped_start _ _ _ (omega arith)

pub loop-b-preserved : goal.loop-b-preserved
loop-b-preserved g c = capped_turn c.loop-b.invariant (kept_step g.S.Stays.stays c.args.text.now c.loop-b.b-index c.loop-b.escaped c.loop-b-test.true ∙ rw (c.escapes-escaped.ensures, c.holds.ensures)) c.add_kept-next.ensures (omega arith)

pub shape_of-out : goal.shape_of-out
shape_of-out g c = length_capped c.loop-b.invariant

pub returns : goal.returns
returns g c = capped_end c.loop-b.invariant (kept_end g.S.Stays.stays _ _ _ c.loop-b-test.false)
