use Rattle.std.proofs.Common.{◌≡◌, ◌+◌, drop}
use Rattle.structured_token.specs.Tokens.{calm_len}
use Rattle.structured_token.proofs.ends.calm_end.Given as goal

abbrev pub invariant-loop-i : goal.invariant-loop-i
invariant-loop-i l = l.at + calm_len (drop l.at l.s) ≡ l.i + calm_len (drop l.i l.s)
