use Prim.Native.Nat.{◌+◌, ◌-◌, ◌<◌}
use mathlib.Core.Path.{◌≡◌}
use lib.ListN.{length, drop}
use Rattle.structured_token.specs.Tokens.{string_len}
use Rattle.structured_token.proofs.TokensLaws.{string_from}
use Rattle.structured_token.proofs.ends.string_end.Given as goal

abbrev pub invariant-loop-i : goal.invariant-loop-i
invariant-loop-i l = (l.at + string_len (drop l.at l.s) ≡ string_from l.s l.i) × (l.at < l.i)

abbrev pub decreases-loop-i : goal.decreases-loop-i
decreases-loop-i l = length l.s - l.i
