use mathlib.Core.Path.{sym}
use native.Mathlib.Omega.{arith}
use Rattle.buffer.specs.BufferLaws.{capped_none, capped_then, capped_same}
use Rattle.phrase.specs.PhraseLaws.{phrase_text_none, phrase_text_first}
use borrow.Author.Rules.{rules}
use Rattle.phrase.proofs.text.add_text.Goals as goal

pub returns-then-phrase-eq0 : goal.returns-then-phrase-eq0
returns-then-phrase-eq0 c = capped_same (phrase_text_none _ c.if-phrase-eq0.true) (capped_none _ _ (omega arith))

pub slice_bounds-add_unquoted-end : goal.slice_bounds-add_unquoted-end
slice_bounds-add_unquoted-end c = c.word_end-first.ensures.within (omega arith)

pub returns : goal.returns
returns c = capped_same (sym (phrase_text_first c.args.phrase.now _ _ (omega (arith, c.if-phrase-eq0.false)) c.word_end-first.ensures.is c.blanks_end.ensures)) (capped_then c.add_unquoted-next.ensures c.add_spaced.ensures (omega arith))
