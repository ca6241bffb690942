-- A fixed word in any case, byte by byte.
use Rattle.std.specs.Prelude.{Bool, cond, ◌&&◌, List, ℕ, suc, ltb, eqb, length, get_or}
use Rattle.letter_case.specs.LetterCase.{lower}

-- the byte b goes on with the word, of which n bytes have come
unfoldable pub is_next : List ℕ → ℕ → ℕ → Bool
is_next word n b = ltb n (length word) && eqb (lower (get_or word n 0)) (lower b)

-- how many bytes of the word have come after the byte b; one more than it has, where the text is another
unfoldable pub matched : List ℕ → ℕ → ℕ → ℕ
matched word n b = cond (is_next word n b) (suc n) (suc (length word))
