use mathlib.Core.List.{map}
use Prim.Native.Nat.{◌-◌}
use native.Mathlib.Omega.{arith}
use lib.ListN.{length, drop}
use Rattle.buffer.specs.BufferLaws.{capped_then, capped_start, capped_turn, capped_end, length_capped}
use Rattle.buffer.specs.Buffer.{ReachedCapped}
use Rattle.phrase.specs.PhraseLaws.{phrase_text_step, phrase_text_end}
use Rattle.unquote.specs.Unquote.{unquoted}
use Rattle.phrase.specs.Phrase.{after_spaces, words_from}
use borrow.Author.Rules.{rules}
use Rattle.phrase.proofs.text.add_spaced.Given as goal

abbrev pub invariant-loop-i : goal.invariant-loop-i
invariant-loop-i l = ReachedCapped (after_spaces (map unquoted (words_from 0 (drop l.from l.phrase)))) (after_spaces (map unquoted (words_from 0 (drop l.i l.phrase)))) l.at l.initial.out l.out l.next

abbrev pub decreases-loop-i : goal.decreases-loop-i
decreases-loop-i l = length l.phrase - l.i
