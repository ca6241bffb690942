use Rattle.piece.proofs.PieceLaws.{rendered_one, wrote_same}
use Rattle.piece.specs.Piece.{piece}
use Rattle.encoded_word.specs.Segments.{rendered}
use Rattle.rules.specs.Rules.{removal_start}
use Rattle.letter_case.specs.LetterCase.{bytes}
use Rattle.buffer.specs.BufferLaws.{wrote_nothing}
use mathlib.Core.List.{[], ◌∷◌}
use mathlib.Core.Logic.{⊎_elim}
use mathlib.Core.Path.{◌≡◌, sym}
use Rattle.address_pieces.proofs.address_piece.put_removal_start.Goals as goal

pub returns-in-Spool : goal.returns-in-Spool
unfolding removal_start bytes
returns-in-Spool c =
    let same : removal_start c.args.rules ≡ bytes "Internationalized Address" ∷ [] = ⊎_elim (λ e. rw e) (λ e. rw e) c.in-Spool.is in
    rw same (wrote_same (sym (rendered_one (piece (bytes "Internationalized Address")))) c.put_piece.ensures)

pub returns-in-Mailbox : goal.returns-in-Mailbox
unfolding removal_start rendered
returns-in-Mailbox c = rw c.in-Mailbox.is (wrote_nothing _)
