use Rattle.field_text.specs.TextLaws.{skipped_none}
use Rattle.field_text.proofs.text_start.Goals as goal

pub loop-n-init : goal.loop-n-init
loop-n-init c = skipped_none _
