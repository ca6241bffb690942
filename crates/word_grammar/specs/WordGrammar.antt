-- An encoded word as the reader takes it, as a grammar: a run, and the text that it is shown as or the number of its refusal.
-- WordGrammarLaws.antt proves that this is what code reads.
use Rattle.std.specs.Prelude.{◌≡◌, not, List, [], ◌∷◌, ◌++◌, ℕ, T, eqb}
use Rattle.lists.specs.Lists.{all}
use Rattle.letter_case.specs.LetterCase.{bytes, lower, same_any_case}
use Rattle.utf8.specs.Utf8.{utf8}
use Rattle.row.specs.declared.Encoding.{Encoding}
use Rattle.row.specs.declared.Encoding.TheVariants.{Q, B}
use Rattle.row.specs.Layout.{AddsIn}
use Rattle.word_reader.specs.Word.{is_word, not_question}

-- the letter of an encoding as a small one: `q` is 113, `b` is 98
abbrev pub small_letter : Encoding → ℕ
small_letter Q = 113
small_letter B = 98

-- A word of this charset that adds these bytes: "charset, encoding and text parted by `?`". "encodings Q and B, in any case"; in Q by
-- "document 01's reading", in B "padded base64 with zero spare bits". 61 is `=`, 63 is `?`: neither text has a `?`, so that two stand
-- inside.
pub record Decodes (word charset added : List ℕ) : Type 0 where
  pub encoding : Encoding
  pub letter : ℕ
  pub standing : List ℕ
  pub is : word ≡ 61 ∷ 63 ∷ (charset ++ (63 ∷ letter ∷ 63 ∷ (standing ++ (63 ∷ 61 ∷ []))))
  pub no_question : T (all not_question charset)
  pub any_case : lower letter ≡ small_letter encoding
  pub reads : AddsIn encoding standing added

-- What a word is shown as: its text, with 5, or "2 word malformed .. or of another encoding, 3 other charset, 4 a word's bytes not UTF-8".
-- "charset UTF-8 .. in any case"
pub data WordShows (word : List ℕ) : ℕ → List ℕ → Type 0 where
  malformed : T (is_word word) → ((charset added : List ℕ) → Decodes word charset added → ⊥) → WordShows word 2 []
  other_charset : {charset added : List ℕ} → Decodes word charset added → T (not (same_any_case charset (bytes "UTF-8")))
      → WordShows word 3 []
  not_utf8 : {charset added : List ℕ} → Decodes word charset added → T (same_any_case charset (bytes "UTF-8")) → T (not (utf8 added))
      → WordShows word 4 []
  text : {charset added : List ℕ} → Decodes word charset added → T (same_any_case charset (bytes "UTF-8")) → T (utf8 added)
      → WordShows word 5 added
