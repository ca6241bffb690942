use Rattle.std.proofs.Common.{◌≡◌, ◌+◌, false, drop}
use Rattle.comment.specs.Comment.{run_to}
use Rattle.structured_token.specs.Tokens.{is_quote}
use Rattle.field_parameter.proofs.quote_at.Given as goal

abbrev pub invariant-loop-i : goal.invariant-loop-i
invariant-loop-i l = l.at + run_to is_quote false (drop l.at l.s) ≡ l.i + run_to is_quote l.escaped (drop l.i l.s)
