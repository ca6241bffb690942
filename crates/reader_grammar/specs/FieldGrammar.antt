-- What a Downgraded field is shown as, as a grammar: its lines, and its text as runs with white space between them. FieldGrammarLaws.antt
-- proves that this is what code shows.
use Rattle.std.specs.Prelude.{Bool, true, false, not, List, [], ◌∷◌, ◌++◌, ℕ, ◌<◌, min, T, length, take, get_or}
use Rattle.lists.specs.Lists.{all}
use Rattle.line.specs.Line.{blank}
use Rattle.header_line.specs.Lines.{named_to, formed_by}
use Rattle.header.specs.Fields.{text_of}
use Rattle.word_reader.specs.Word.{is_word}
use Rattle.word_grammar.specs.WordGrammar.{WordShows}

-- ---- its lines

-- a line that is well formed "by document 01 (names to 87 bytes here)"
abbrev pub formed : Bool → List ℕ → Bool
formed first line = formed_by (named_to 87) first line

-- continuations, each with its CRLF
pub data Continuations : List ℕ → Type 0 where
  none : Continuations []
  then : (line : List ℕ) {more : List ℕ} → T (formed false line) → T (blank (get_or line 0 0)) → Continuations more
      → Continuations (line ++ (13 ∷ 10 ∷ more))

-- a name line and its continuations
pub data FieldLines : List ℕ → Type 0 where
  lines : (line : List ℕ) {more : List ℕ} → T (formed true line) → Continuations more → FieldLines (line ++ (13 ∷ 10 ∷ more))

-- ---- its text

-- "a run .. between white space": some bytes that are none, before white space or the text's end
pub record RunBefore (rest run : List ℕ) : Type 0 where
  pub some : 0 < length run
  pub solid : T (all (λ b. not (blank b)) run)
  pub ends : T (all blank (take 1 rest))

-- What a text is shown as, and the lowest refusal of its words, or 5; `after` tells whether the run before it is a word. "other text
-- stays"; it "skips white space between adjacent words".
pub data TextShows : Bool → List ℕ → ℕ → List ℕ → Type 0 where
  end : {after : Bool} (gap : List ℕ) → T (all blank gap) → TextShows after gap 5 gap
  other : {after : Bool} {n : ℕ} (gap : List ℕ) {run rest text : List ℕ} → T (all blank gap) → RunBefore rest run → T (not (is_word run))
      → TextShows false rest n text → TextShows after (gap ++ (run ++ rest)) n (gap ++ (run ++ text))
  word : {n m : ℕ} (gap : List ℕ) {run rest added text : List ℕ} → T (all blank gap) → RunBefore rest run → WordShows run n added
      → TextShows true rest m text → TextShows false (gap ++ (run ++ rest)) (min n m) (gap ++ (added ++ text))
  adjacent : {n m : ℕ} (gap : List ℕ) {run rest added text : List ℕ} → T (all blank gap) → RunBefore rest run → WordShows run n added
      → TextShows true rest m text → TextShows true (gap ++ (run ++ rest)) (min n m) (added ++ text)

-- ---- the field

-- its text, with 0, or "1 field malformed", or the lowest refusal of its words
pub data FieldShows (field : List ℕ) : ℕ → List ℕ → Type 0 where
  malformed : (FieldLines field → ⊥) → FieldShows field 1 []
  refused : {n : ℕ} {text : List ℕ} → FieldLines field → TextShows false (text_of field) n text → n < 5 → FieldShows field n []
  text : {text : List ℕ} → FieldLines field → TextShows false (text_of field) 5 text → FieldShows field 0 text
