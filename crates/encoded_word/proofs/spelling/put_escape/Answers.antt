use Rattle.hex_digit.proofs.HexLaws.{upper_half, lower_half}
use Rattle.buffer.specs.BufferLaws.{stores, appended_stores}
use lib.ListN.{length-set}
use mathlib.Core.List.{[], ◌∷◌}
use native.Mathlib.Omega.{arith}
use borrow.Author.Rules.{rules}
use Rattle.encoded_word.proofs.spelling.put_escape.Goals as goal

pub bounds-out-second : goal.bounds-out-second
bounds-out-second c = simp length-set (omega arith)

pub bounds-out-third : goal.bounds-out-third
bounds-out-third c = simp length-set (omega arith)

pub returns : goal.returns
unfolding stores
returns c = rw (← upper_half c.args.b (search rules) c.digit-high.ensures, ← lower_half c.args.b c.digit-low.ensures) (appended_stores (61 ∷ c.digit-high.result ∷ c.digit-low.result ∷ []) _ _ _ (omega arith))
