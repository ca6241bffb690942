use Rattle.std.proofs.Common.{◌≡◌, ◌+◌, ◌-◌, ◌≤◌, ◌<◌, length, drop}
use Rattle.phrase.specs.Words.{phrase_len, next_words_len}
use Rattle.phrase.proofs.word.phrase_len.Given as goal

abbrev pub invariant-loop-n : goal.invariant-loop-n
invariant-loop-n l = (l.end ≤ length l.s) × ((phrase_len l.s ≡ l.end + next_words_len 0 (drop l.end l.s)) × (0 < l.end))

abbrev pub decreases-loop-n : goal.decreases-loop-n
decreases-loop-n l = length l.s - l.end
