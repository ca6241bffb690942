-- The words of a phrase, and its text.
use Rattle.std.specs.Prelude.{◌≡◌, cond, List, [], ◌∷◌, ◌++◌, map, ℕ, zero, suc, pred, ◌+◌, ◌≤◌, ◌<◌, eqb, length, take, drop}
use Rattle.lists.specs.Run.{run}
use Rattle.line.specs.Line.{blank}
use Rattle.unquote.specs.Unquote.{unquoted}
use Rattle.phrase.specs.Words.{word_len}

-- the length of the word at the front; bytes with no word at their front count as one word to the end
unfoldable pub word_size : List ℕ → ℕ
word_size t = cond (eqb (word_len t) 0) (length t) (word_len t)

-- The answer r is where the word at a place of a phrase ends; at a place in the phrase it lies past the place and in the phrase.
pub record WordEnd (phrase : List ℕ) (at r : ℕ) : Type 0 where
  pub is : r ≡ at + word_size (drop at phrase)
  pub some : at < length phrase → at < r
  pub within : at < length phrase → r ≤ length phrase

-- the words of what is left of a phrase, after k bytes: a word, the blanks after it, and so on
unfoldable pub words_from : ℕ → List ℕ → List (List ℕ)
words_from k [] = []
words_from (suc k) (b ∷ t) = words_from k t
words_from zero (b ∷ t) =
    let word = word_size (b ∷ t) in
    take word (b ∷ t) ∷ words_from (pred (word + run blank (drop word (b ∷ t)))) t

unfoldable pub phrase_words : List ℕ → List (List ℕ)
phrase_words phrase = words_from 0 phrase

-- each text after a space (32)
unfoldable pub after_spaces : List (List ℕ) → List ℕ
after_spaces [] = []
after_spaces (text ∷ texts) = 32 ∷ (text ++ after_spaces texts)

unfoldable pub joined_by_spaces : List (List ℕ) → List ℕ
joined_by_spaces [] = []
joined_by_spaces (text ∷ texts) = text ++ after_spaces texts

-- "its words without quoting and escapes, joined by single spaces"
unfoldable pub phrase_text : List ℕ → List ℕ
phrase_text phrase = joined_by_spaces (map unquoted (phrase_words phrase))
