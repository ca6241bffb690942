use Rattle.buffer.specs.BufferLaws.{added_by}
use Rattle.buffer.proofs.add_slice.Goals as goal

pub returns : goal.returns
returns c = added_by _ _ _ _ _ c.clip-start.ensures c.put_slice.ensures c.place_after.ensures
