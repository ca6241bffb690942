use Rattle.buffer.specs.BufferLaws.{added_by}
use Rattle.encoded_word.proofs.add_after.Goals as goal

pub returns : goal.returns
returns c = added_by _ _ _ _ _ c.clip-start.ensures c.write_after.ensures c.place_after.ensures
