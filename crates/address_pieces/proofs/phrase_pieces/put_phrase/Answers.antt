use Rattle.piece.proofs.PieceLaws.{wrote_same}
use Rattle.address_pieces.proofs.PiecesLaws.{phrase_ascii, phrase_high}
use mathlib.Core.Path.{sym, ◌∙◌}
use borrow.Author.Rules.{rules}
use Rattle.address_pieces.proofs.phrase_pieces.put_phrase.Goals as goal

pub returns-then-is_ascii : goal.returns-then-is_ascii
returns-then-is_ascii c = wrote_same (phrase_ascii _ (sym c.is_ascii.ensures ∙ c.if-is_ascii.true)) c.put_words.ensures

pub returns : goal.returns
returns c = wrote_same (phrase_high _ (sym c.is_ascii.ensures ∙ c.if-is_ascii.false)) c.put_encoded.ensures
