use Rattle.address_pieces.proofs.WritingLaws.{by_examined, by_encoded, by_kept}
use borrow.Author.Rules.{rules}
use Rattle.address_pieces.proofs.add_by_text.Goals as goal

pub returns-in-DoesNotFit : goal.returns-in-DoesNotFit
returns-in-DoesNotFit c = by_examined _ _ _ c.in-DoesNotFit.is c.examine.ensures (by_encoded _ _ _ c.requires.0 c.add_encoded.ensures)

pub returns-in-Kept : goal.returns-in-Kept
returns-in-Kept c = by_examined _ _ _ c.in-Kept.is c.examine.ensures (by_kept _ _ _ c.add_rewritten.ensures)

pub returns-in-Changed : goal.returns-in-Changed
returns-in-Changed c = by_examined _ _ _ c.in-Changed.is c.examine.ensures c.add_with_copy.ensures
