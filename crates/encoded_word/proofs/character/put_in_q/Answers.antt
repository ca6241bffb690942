use Rattle.encoded_word.specs.WritingLaws.{put_start, put_on, put_full}
use Rattle.std.proofs.Common.{refl}
use Rattle.encoded_word.proofs.character.put_in_q.Goals as goal

pub loop-i-init : goal.loop-i-init
loop-i-init c = put_start _ _ _ _

pub loop-i-preserved : goal.loop-i-preserved
loop-i-preserved c = put_on c.loop-i.invariant c.in-Some.ensures.1

pub returns-in_default : goal.returns-in_default
returns-in_default c = put_full c.loop-i.invariant c.in_default.ensures refl
