use Rattle.phrase.specs.Words.{is_word_byte}
use borrow.Author.Rules.{rules}
use Rattle.phrase.proofs.word.is_word_byte.Goals as goal

pub returns : goal.returns
unfolding is_word_byte
returns c = rw c.is_atom_byte.ensures
