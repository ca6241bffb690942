use Rattle.word_spelling.specs.Spelling.{spell}
use Rattle.buffer.specs.Buffer.{Reached}
use Prim.Native.Nat.{◌≤◌}
use lib.ListN.{length, drop}
use Rattle.encoded_word.proofs.spelling.put_char.Given as goal

abbrev pub invariant-loop-b : goal.invariant-loop-b
invariant-loop-b l = (l.b-index ≤ length l.c) × Reached (spell l.c) (spell (drop l.b-index l.c)) l.at l.initial.out l.out l.next
