-- Which encoding the word at the front of a text takes: "Each word takes the encoding that holds more whole characters in its room, Q when
-- equal."
use Rattle.std.specs.Prelude.{List, ℕ, T, length, take}
use Rattle.lists.specs.Lists.{joined}
use Rattle.utf8.specs.Utf8.{chars}
use Rattle.row.specs.declared.Encoding.{Encoding}
use Rattle.row.specs.declared.Encoding.TheVariants.{Q, B}
use Rattle.row.specs.Row.{holds}
use Rattle.row.specs.Choice.{held, holds_more}
use Rattle.row.specs.WordEnd.{Span, WordEnd}
use Rattle.word_choice.specs.declared.Choice.{Choice}
use Rattle.word_choice.specs.declared.Choice.TheVariants.{InQ, InB}

-- by the encoding, and for B by the characters that it holds
abbrev pub choice_in : Encoding → List (List ℕ) → Choice
choice_in Q run = InQ
choice_in B run = InB (length (joined run))

-- "the encoding that holds more whole characters in its room, Q when equal", and for B where the word ends
unfoldable pub choice_of : ℕ → List ℕ → Choice
choice_of room s = choice_in (holds_more room (chars s)) (held room B (chars s)).0

-- ---- what callers rely on

-- whatever whole characters a word in B holds, one in Q holds too
pub record AlsoInQ (room : ℕ) (s : List ℕ) : Type 0 where
  pub also : (e : ℕ) → Span s 0 e → T (holds room (take e s) B) → T (holds room (take e s) Q)

-- in Q where B holds no more; in B the word of the row ends at place e
abbrev pub Chosen : ℕ → List ℕ → Choice → Type 0
Chosen room s InQ = AlsoInQ room s
Chosen room s (InB e) = WordEnd room s 0 e B
