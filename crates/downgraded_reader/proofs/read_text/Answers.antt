use mathlib.Core.Path.{refl, sym, ◌∙◌}
use Rattle.downgraded_reader.specs.Reader.{text_left}
use Rattle.downgraded_reader.specs.ReaderLaws.{text_room, text_fits, text_fault}
use Rattle.downgraded_reader.proofs.read_text.Goals as goal

pub returns-in_err-size : goal.returns-in_err-size
returns-in_err-size c = text_fault _ _ _ _ _ c.in_err-size.ensures c.from_residual.ensures.1

pub returns-then-buffer-size : goal.returns-then-buffer-size
unfolding text_left
returns-then-buffer-size c = (text_room _ _ c.in_ok-size.ensures c.if-buffer-size.true, refl)

pub returns : goal.returns
unfolding text_left
returns c = (text_fits _ _ c.in_ok-size.ensures c.if-buffer-size.false, c.put.ensures.bytes)
