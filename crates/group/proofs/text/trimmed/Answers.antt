use Rattle.group.proofs.TrimmedLaws.{trimmed_parts}
use Rattle.group.proofs.text.trimmed.Goals as goal

pub returns : goal.returns
returns c = trimmed_parts _ _ c.blanks_end-start.ensures _ _ c.part-rest.ensures c.content.ensures
