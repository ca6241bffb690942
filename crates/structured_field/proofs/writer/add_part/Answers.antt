use Rattle.structured_field.specs.WritingLaws.{part_stays, part_encoded}
use Rattle.piece.proofs.CommentPiecesLaws.{run_made}
use Rattle.buffer.specs.BufferLaws.{capped_same}
use native.Mathlib.Omega.{arith}
use mathlib.Core.Path.{sym, ◌∙◌}
use borrow.Author.Rules.{rules}
use Rattle.structured_field.proofs.writer.add_part.Goals as goal

pub returns-then-is_ascii : goal.returns-then-is_ascii
returns-then-is_ascii c = capped_same (part_stays _ (sym c.is_ascii.ensures ∙ c.if-is_ascii.true)) c.add_slice.ensures

pub slice_bounds-add-end : goal.slice_bounds-add-end
slice_bounds-add-end c = (run_made _ c.add_run_text-n.ensures c.requires.0 c.requires.1).within

pub slice_bounds-add-end-2 : goal.slice_bounds-add-end-2
slice_bounds-add-end-2 c = (run_made _ c.add_run_text-n.ensures c.requires.0 c.requires.1).size

pub returns : goal.returns
returns c = part_encoded _ (run_made _ c.add_run_text-n.ensures c.requires.0 c.requires.1) (sym c.is_ascii.ensures ∙ c.if-is_ascii.false) c.requires.0 (omega arith) c.add-end.ensures c.add_slice-2.ensures
