use Rattle.downgraded_field.specs.ShownLaws.{put_text}
use Rattle.downgraded_field.proofs.put.Goals as goal

pub returns : goal.returns
returns c = put_text _ c.text_of.ensures c.put_turns.ensures
