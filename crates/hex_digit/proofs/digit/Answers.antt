use Rattle.hex_digit.proofs.HexLaws.{digit_decimal, digit_letter}
use Rattle.hex_digit.proofs.digit.Goals as goal
use Rattle.hex_digit.proofs.digit.Goals.{then-d-lt10, else-d-lt10}

pub returns : goal.returns
returns c = elim c.if-d-lt10.branch [
  | then-d-lt10 w ↦ rw w.zero-is (digit_decimal _ w.if-d-lt10.true)
  | else-d-lt10 w ↦ rw w.zero-is (digit_letter _ w.if-d-lt10.false)
]
