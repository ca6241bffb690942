use Rattle.std.proofs.Common.{arith}
use Rattle.piece.proofs.PieceLaws.{served}
use Rattle.structured_field.proofs.writer.StructuredValueRule.add_part.Goals as goal

pub slice_bounds-add_token-end : goal.slice_bounds-add_token-end
slice_bounds-add_token-end c = (served _ _ _ c.fitting_len-n.ensures).size

pub add_token-requires : goal.add_token-requires
add_token-requires c =
    let s = served _ c.args.token.now _ c.fitting_len-n.ensures in
    (omega (arith, s.size, s.small), omega (arith, s.size, s.roomy))

pub returns-clause-is : goal.returns-clause-is
returns-clause-is c = λ _. rw (served _ _ _ c.fitting_len-n.ensures).is at c.add_token.ensures
