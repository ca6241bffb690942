use Rattle.piece.proofs.CommentPiecesLaws.{run_made}
use borrow.Author.Rules.{rules}
use Rattle.piece.proofs.comment_pieces.put_encoded.Goals as goal

pub slice_bounds-write-end : goal.slice_bounds-write-end
slice_bounds-write-end c = (run_made _ c.add_run_text-n.ensures c.requires.0 c.requires.1).within

pub slice_bounds-write-end-2 : goal.slice_bounds-write-end-2
slice_bounds-write-end-2 c = (run_made _ c.add_run_text-n.ensures c.requires.0 c.requires.1).size

pub returns : goal.returns
returns c = (run_made _ c.add_run_text-n.ensures c.requires.0 c.requires.1).encoded c.write.ensures
