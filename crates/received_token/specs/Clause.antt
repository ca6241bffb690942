-- FOR clauses of a Received field. GrammarLaws.antt proves that `clause_len` takes exactly what the rules of Grammar.antt make.
use Rattle.std.specs.Prelude.{Bool, cond, ◌&&◌, ◌||◌, List, ℕ, ◌+◌, eqb, take, drop, get_or, Result, Ok, Err}
use Rattle.lists.specs.Run.{run}
use Rattle.letter_case.specs.LetterCase.{bytes, same_any_case}
use Rattle.structured_token.specs.Tokens.{is_white}
use Rattle.address.specs.Address.{later, address_scan}

-- "spaces, TABs and folds"
unfoldable pub white_len : List ℕ → ℕ
white_len s = run is_white s

-- "the word for (any case, .. white space, a fold or `<` after ..)" at the front. 60 is `<`.
unfoldable pub is_for : List ℕ → Bool
is_for s = same_any_case (take 3 s) (bytes "for") && (is_white (get_or s 3 0) || eqb (get_or s 3 0) 60)

-- the `>` (62) after an address that ends so far from the front: where it ends, 0 where there is none
unfoldable pub closed_len : Result ℕ ℕ → List ℕ → ℕ
closed_len (Ok n) s = cond (eqb (get_or s n 0) 62) (n + 1) 0
closed_len (Err n) s = 0

-- "an address of document 01 in angle brackets" at the front: how many bytes it has, 0 where there is none
unfoldable pub angled_len : List ℕ → ℕ
angled_len s = cond (eqb (get_or s 0 0) 60) (closed_len (later 1 (address_scan (drop 1 s))) s) 0

-- the clause at the front: "the spaces, TABs and folds before it, the word for .., the white space and folds after and an address of
-- document 01 in angle brackets": how many bytes it has, 0 where there is none
unfoldable pub clause_len : List ℕ → ℕ
clause_len s =
    let word = drop (white_len s) s in
    let more = drop 3 word in
    let n = angled_len (drop (white_len more) more) in
    cond (is_for word) (cond (eqb n 0) 0 (white_len s + 3 + white_len more + n)) 0
