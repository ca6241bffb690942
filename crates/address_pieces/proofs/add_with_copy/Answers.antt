use Rattle.address_pieces.proofs.WritingLaws.{with_copy}
use native.Mathlib.Omega.{arith}
use borrow.Author.Rules.{rules}
use Rattle.address_pieces.proofs.add_with_copy.Goals as goal

pub returns : goal.returns
returns c = with_copy _ _ _ (omega arith) c.add_rewritten-next.ensures c.add_copy.ensures
