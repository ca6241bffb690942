use Rattle.encoded_word.specs.WritingLaws.{begun_none}
use Rattle.encoded_word.proofs.lines.add_first.Goals as goal

pub returns-then-column-ge63 : goal.returns-then-column-ge63
returns-then-column-ge63 c = begun_none _ _ _ c.if-column-ge63.true
