use mathlib.Core.Path.{sym, ◌∙◌}
use native.Mathlib.Omega.{arith}
use Rattle.piece.proofs.CommentPiecesLaws.{part_dropped, part_stays, part_encoded}
use Rattle.piece.proofs.PieceLaws.{wrote_same}
use Rattle.buffer.specs.BufferLaws.{wrote_nothing, wrote_of}
use borrow.Author.Rules.{rules}
use Rattle.piece.proofs.comment_pieces.put_part.Goals as goal

pub returns-then-is_blank_run : goal.returns-then-is_blank_run
returns-then-is_blank_run c = wrote_same (part_dropped _ (sym c.is_blank_run.ensures ∙ c.if-is_blank_run.true)) (wrote_nothing _)

pub returns-then-is_ascii : goal.returns-then-is_ascii
returns-then-is_ascii c = wrote_same (part_stays _ (sym c.is_blank_run.ensures ∙ c.if-is_blank_run.false) (sym c.is_ascii.ensures ∙ c.if-is_ascii.true)) (wrote_of c.add_piece.ensures (omega (arith, c.requires.0)))

pub returns : goal.returns
returns c = wrote_same (part_encoded _ (sym c.is_blank_run.ensures ∙ c.if-is_blank_run.false) (sym c.is_ascii.ensures ∙ c.if-is_ascii.false)) c.put_encoded.ensures
