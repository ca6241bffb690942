-- FOR clauses, as rules that make texts. GrammarLaws.antt proves that `clause_len` takes exactly these.
use Rattle.std.specs.Prelude.{List, [], ◌∷◌, ◌++◌, ℕ, T}
use Rattle.lists.specs.Lists.{all}
use Rattle.letter_case.specs.LetterCase.{bytes, same_any_case}
use Rattle.address.specs.Grammar.{Address}
use Rattle.structured_token.specs.Tokens.{is_white}

-- "an address of document 01 in angle brackets" (60 and 62)
pub data Angled : List ℕ → Type 0 where
  angled : {address : List ℕ} → Address address → Angled (60 ∷ (address ++ (62 ∷ [])))

-- "the spaces, TABs and folds before it, the word for (any case, ..), the white space and folds after and an address of document 01 in
-- angle brackets"
pub data Clause : List ℕ → Type 0 where
  clause : (before word after : List ℕ) {address : List ℕ} → T (all is_white before) → T (same_any_case word (bytes "for")) → T (all is_white after) → Angled address
      → Clause (before ++ (word ++ (after ++ address)))
