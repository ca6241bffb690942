use mathlib.Core.Path.{refl, sym, ap, ◌∙◌}
use Rattle.word_reader.specs.WordFaults.{number_of}
use Rattle.downgraded_field.specs.ShownLaws.{word_length, word_within, word_size, word_text, word_utf8, word_err}
use Rattle.downgraded_field.proofs.refusal.check_word.Goals as goal

pub returns-in_err-read : goal.returns-in_err-read
returns-in_err-read c = word_err _ c.in_err-read.field-0.0 _ _ c.add-read.ensures.0 c.in_err-read.was c.from_residual.ensures.1

pub slice_bounds-scratch-end : goal.slice_bounds-scratch-end
slice_bounds-scratch-end c = word_within _ c.add-read.ensures.1 c.requires refl

pub slice_bounds-is_utf8-end : goal.slice_bounds-is_utf8-end
slice_bounds-is_utf8-end c = word_size _ c.add-read.ensures.1 c.requires refl

pub returns-then-is_utf8 : goal.returns-then-is_utf8
returns-then-is_utf8 c = word_text _ c.add-read.ensures.1 c.requires refl (sym c.add-read.ensures.0 ∙ ap number_of c.in_ok-read.was) c.is_utf8.ensures c.if-is_utf8.true

pub returns : goal.returns
returns c = word_utf8 _ c.add-read.ensures.1 c.requires refl (sym c.add-read.ensures.0 ∙ ap number_of c.in_ok-read.was) c.is_utf8.ensures c.if-is_utf8.false
