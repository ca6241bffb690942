use Rattle.word_spelling.specs.FirstCharsLaws.{spelt_escape, spelt_alone}
use mathlib.Core.Path.{sym, ◌∙◌}
use Rattle.buffer.specs.BufferLaws.{appended_byte}
use Rattle.encoded_word.proofs.spelling.put_byte.Goals as goal

pub returns-then-c-eq61 : goal.returns-then-c-eq61
returns-then-c-eq61 c = rw (spelt_escape _ (sym c.first_of-c.ensures ∙ c.if-c-eq61.true)) c.put_escape.ensures

pub returns : goal.returns
returns c = let same = c.first_of-c.ensures in
    rw (spelt_alone _ (λ e. c.if-c-eq61.false (same ∙ e)), ← same) (appended_byte _ _ _)
