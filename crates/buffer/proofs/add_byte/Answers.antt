use Rattle.buffer.specs.BufferLaws.{added_by}
use Rattle.buffer.proofs.add_byte.Goals as goal

pub returns : goal.returns
returns c = added_by _ _ _ _ _ c.clip-a.ensures c.put_byte.ensures c.place_after.ensures
