use Rattle.word_reader.specs.WordLaws.{charset_by}
use Rattle.letter_case.specs.LetterCase.{bytes}
use mathlib.Core.Path.{refl}
use borrow.Author.Rules.{rules}
use Rattle.word_reader.proofs.is_utf8_charset.Goals as goal

pub returns : goal.returns
unfolding bytes
returns c = charset_by _ _ c.charset_len.ensures c.part.ensures refl c.same_any_case.ensures
