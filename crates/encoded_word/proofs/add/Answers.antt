use Rattle.buffer.specs.BufferLaws.{added_by}
use Rattle.encoded_word.proofs.add.Goals as goal

pub returns : goal.returns
returns c = added_by _ _ _ _ _ c.clip-start.ensures c.write.ensures c.place_after.ensures
