use Rattle.mime_parameter.specs.Extended.{extended}
use Prim.Native.Nat.{◌+◌, ◌*◌, ◌≤◌}
use mathlib.Core.Path.{◌≡◌}
use lib.ListN.{length, drop}
use Rattle.mime_parameter.proofs.bytes.extended_len.Given as goal

abbrev pub invariant-loop-b : goal.invariant-loop-b
invariant-loop-b l = (l.n ≤ 3 * l.b-index) × (l.b-index ≤ length l.text) × (l.n + length (extended (drop l.b-index l.text)) ≡ length (extended l.text))
