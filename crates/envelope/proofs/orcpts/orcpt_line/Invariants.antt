use Rattle.envelope.specs.Envelope.{texts, orcpt_from, orcpt_line}
use mathlib.Core.Path.{◌≡◌}
use Prim.Native.Nat.{◌-◌, ◌≤◌}
use lib.ListN.{length, drop}
use Rattle.envelope.proofs.orcpts.orcpt_line.Given as goal

abbrev pub invariant-loop-i : goal.invariant-loop-i
invariant-loop-i l = (l.n ≤ l.i) × (orcpt_line l.envelope ≡ orcpt_from l.n (texts (drop l.i l.envelope)))

abbrev pub decreases-loop-i : goal.decreases-loop-i
decreases-loop-i l = length l.envelope - l.i
