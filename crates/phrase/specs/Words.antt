-- Words, phrases and addresses at the front of a text. Lengths count bytes, and 0 is none.
--
-- Bytes that are not ASCII are taken one by one: in a text that is UTF-8 a run of them is a run of non-ASCII characters.
use Rattle.std.specs.Prelude.{Bool, cond, ◌||◌, ◌&&◌, List, [], ◌∷◌, ℕ, zero, suc, pred, ◌+◌, ltb, leb, eqb, drop, get_or, Result, Ok, Err}
use Rattle.lists.specs.Run.{run}
use Rattle.line.specs.Line.{blank}
use Rattle.address.specs.Address.{is_atom_byte, quoted_scan, address_scan}

-- the length of what a scan found
abbrev pub found : Result ℕ ℕ → ℕ
found (Ok n) = n
found (Err n) = 0

-- "No word or address exceeds 900 bytes."
unfoldable pub capped : ℕ → ℕ
capped n = cond (leb n 900) n 0

-- the address at the front
unfoldable pub address_len : List ℕ → ℕ
address_len s = capped (found (address_scan s))

-- "atext, dots and non-ASCII characters"
unfoldable pub is_word_byte : ℕ → Bool
is_word_byte b = is_atom_byte b || eqb b 46

-- "a word is a quoted string or a run of atext, dots and non-ASCII characters"; a quoted string starts with a quote (34)
unfoldable pub word_len : List ℕ → ℕ
word_len s = capped (cond (eqb (get_or s 0 0) 34) (found (quoted_scan s)) (run is_word_byte s))

-- "one or more spaces or TABs" and a word after them
unfoldable pub next_word_len : List ℕ → ℕ
next_word_len s =
    let gap = run blank s in
    let word = word_len (drop gap s) in
    cond (ltb 0 gap && ltb 0 word) (gap + word) 0

-- as many such words as follow each other, after k bytes of one
unfoldable pub next_words_len : ℕ → List ℕ → ℕ
next_words_len k [] = 0
next_words_len (suc k) (b ∷ s) = suc (next_words_len k s)
next_words_len zero (b ∷ s) = let more = suc (next_words_len (pred (next_word_len (b ∷ s))) s) in cond (ltb 0 (next_word_len (b ∷ s))) more 0

-- "A phrase is words parted by one or more spaces or TABs": the longest one
unfoldable pub phrase_len : List ℕ → ℕ
phrase_len s = let word = word_len s in cond (ltb 0 word) (word + next_words_len 0 (drop word s)) 0
