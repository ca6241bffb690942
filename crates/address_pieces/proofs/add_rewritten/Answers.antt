use Rattle.address_pieces.proofs.WritingLaws.{rewritten_added}
use native.Mathlib.Omega.{arith}
use borrow.Author.Rules.{rules}
use Rattle.address_pieces.proofs.add_rewritten.Goals as goal

pub returns : goal.returns
returns c = rewritten_added _ _ _ (omega arith) c.add_slice-colon.ensures c.add_byte-value.ensures c.add_turns-end.ensures c.add_slice.ensures
