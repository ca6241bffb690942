use Rattle.word_reader.specs.WordLaws.{three_bytes}
use native.Mathlib.Omega.{arith}
use borrow.Author.Rules.{rules}
use Rattle.word_reader.proofs.base64_text.add_quad.Goals as goal

pub returns : goal.returns
returns c = three_bytes _ _ _ _ (omega arith) c.first_of.ensures c.add_byte-second.ensures c.second_of.ensures c.add_byte-third.ensures c.third_of.ensures c.add_byte.ensures
