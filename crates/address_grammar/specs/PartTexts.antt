-- Words, addresses and blanks of an address field's text, in the paper's words, as rules that make texts.
use Rattle.std.specs.Prelude.{List, ℕ, ◌≤◌, T, length}
use Rattle.lists.specs.Lists.{all, nonempty}
use Rattle.line.specs.Line.{blank}
use Rattle.address.specs.Grammar.{QuotedString, Address as AddressForm}
use Rattle.phrase.specs.Words.{is_word_byte}

-- "a word is a quoted string or a run of atext, dots and non-ASCII characters"
pub data WordForm : List ℕ → Type 0 where
  string : {w : List ℕ} → QuotedString w → WordForm w
  run : {w : List ℕ} → T (nonempty w) → T (all is_word_byte w) → WordForm w

-- "No word or address exceeds 900 bytes."
pub record WordText (w : List ℕ) : Type 0 where
  pub form : WordForm w
  pub size : length w ≤ 900

pub record AddressText (a : List ℕ) : Type 0 where
  pub form : AddressForm a
  pub size : length a ≤ 900

-- "runs of spaces and TABs", perhaps none
abbrev pub Blanks : List ℕ → Type 0
Blanks gap = T (all blank gap)

-- "one or more spaces or TABs"
pub record SomeBlanks (gap : List ℕ) : Type 0 where
  pub some : T (nonempty gap)
  pub blanks : Blanks gap
