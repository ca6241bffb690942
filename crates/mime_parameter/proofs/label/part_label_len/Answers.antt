use Rattle.mime_parameter.specs.WritingLaws.{label_len}
use Rattle.mime_parameter.proofs.label.part_label_len.Goals as goal

pub returns : goal.returns
returns c = label_len _ _ c.requires.0 c.requires.1 c.add_part_label.ensures
