use mathlib.Core.Logic.{⊎_elim}
use mathlib.Core.Path.{◌≡◌}
use Rattle.rules.specs.Rules.{removal_end}
use Rattle.letter_case.specs.LetterCase.{bytes}
use Rattle.address_pieces.proofs.address_piece.put_removal_end.Goals as goal

pub returns-in-Spool : goal.returns-in-Spool
unfolding removal_end bytes
returns-in-Spool c = let same : removal_end c.args.rules ≡ bytes "Removed:;" = ⊎_elim (λ e. rw e) (λ e. rw e) c.in-Spool.is in rw same c.put_piece.ensures

pub returns-in-Mailbox : goal.returns-in-Mailbox
unfolding removal_end bytes
returns-in-Mailbox c = rw c.in-Mailbox.is c.put_piece-in-Mailbox.ensures
