use mathlib.Core.List.{map}
use Prim.Native.Nat.{◌-◌}
use native.Mathlib.Omega.{arith}
use lib.ListN.{length, drop}
use Rattle.buffer.specs.BufferLaws.{capped_then, capped_start, capped_turn, capped_end, length_capped}
use Rattle.buffer.specs.Buffer.{ReachedCapped}
use Rattle.phrase.specs.PhraseLaws.{phrase_text_step, phrase_text_end}
use Rattle.unquote.specs.Unquote.{unquoted}
use Rattle.phrase.specs.Phrase.{after_spaces, words_from}
use borrow.Author.Rules.{rules}
use Rattle.phrase.proofs.text.add_spaced.Goals as goal

pub loop-i-init : goal.loop-i-init
loop-i-init c = capped_start _ _ _ (omega arith)

pub slice_bounds-add_unquoted-count : goal.slice_bounds-add_unquoted-count
slice_bounds-add_unquoted-count c = omega (arith, c.word_end-e.ensures.some c.loop-i-test.true)

pub slice_bounds-add_unquoted-start : goal.slice_bounds-add_unquoted-start
slice_bounds-add_unquoted-start c = omega (arith, c.word_end-e.ensures.some c.loop-i-test.true)

pub slice_bounds-add_unquoted-end : goal.slice_bounds-add_unquoted-end
slice_bounds-add_unquoted-end c = c.word_end-e.ensures.within c.loop-i-test.true

pub loop-i-smaller : goal.loop-i-smaller
loop-i-smaller c = omega (arith, c.blanks_end-i.ensures, c.word_end-e.ensures.some c.loop-i-test.true)

pub loop-i-preserved : goal.loop-i-preserved
loop-i-preserved c = capped_turn c.loop-i.invariant (phrase_text_step _ _ _ _ c.loop-i-test.true c.word_end-e.ensures.is c.blanks_end-i.ensures) (capped_then c.add_byte-word.ensures c.add_unquoted-next.ensures (omega (arith, length_capped c.loop-i.invariant))) (omega arith)

pub shape_of-out : goal.shape_of-out
shape_of-out c = length_capped c.loop-i.invariant

pub returns : goal.returns
returns c = capped_end c.loop-i.invariant (phrase_text_end _ _ c.loop-i-test.false)
