use Rattle.encoded_word.specs.WritingLaws.{put_step, put_stop}
use Rattle.row_length.specs.LengthLaws.{stepped_char}
use mathlib.Core.Path.{refl}
use Rattle.encoded_word.proofs.character.put_any.Goals as goal

pub returns-then-left-m : goal.returns-then-left-m
returns-then-left-m c = put_stop (stepped_char c.args.s.now c.args.i _ _ _ c.requires.0 c.cost_at-c.ensures.0 c.cost_at-c.ensures.1) c.if-left-m.true

pub returns : goal.returns
returns c = let p = (stepped_char c.args.s.now c.args.i _ _ _ c.requires.0 c.cost_at-c.ensures.0 c.cost_at-c.ensures.1) in (p.more, put_step _ p c.if-left-m.false refl refl c.put_char-after.ensures)
