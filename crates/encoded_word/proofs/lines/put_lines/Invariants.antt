use Rattle.encoded_word.specs.Writing.{Ran}
use lib.ListN.{length}
use Prim.Native.Nat.{◌-◌}
use Rattle.encoded_word.proofs.lines.put_lines.Given as goal

abbrev pub invariant-loop-i : goal.invariant-loop-i
invariant-loop-i l = Ran l.text l.begin l.start l.initial.out l.out l.i l.at

abbrev pub decreases-loop-i : goal.decreases-loop-i
decreases-loop-i l = length l.text - l.i
