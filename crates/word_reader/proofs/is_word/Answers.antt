use Rattle.word_reader.specs.WordLaws.{word_short, word_ends}
use borrow.Author.Rules.{rules}
use Rattle.word_reader.proofs.is_word.Goals as goal

pub returns-then-w-lt4 : goal.returns-then-w-lt4
returns-then-w-lt4 c = word_short _ c.if-w-lt4.true

pub returns : goal.returns
returns c = word_ends _ c.if-w-lt4.false
