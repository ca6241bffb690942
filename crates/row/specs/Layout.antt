-- "Reading a row back" as a grammar: the rows that read back as a text, with the words that each has and the bytes that they add. A
-- row that is not laid out so has a fault. ReadingLaws.antt proves that a row is laid out in one way at most, and that reading it byte by
-- byte, front to back, finds that one.
use Rattle.std.specs.Prelude.{◌≡◌, ◌≢◌, Bool, true, false, cond, List, [], ◌∷◌, ◌++◌, map, ℕ, ◌+◌, ◌-◌, ◌*◌, ◌≤◌}
use Rattle.std.proofs.Math.Option.{Option, none, some}
use Rattle.lists.specs.Byte.{within}
use Rattle.lists.specs.Lists.{joined}
use Rattle.base64_digits.specs.Grammar.{FromBase64}
use Rattle.word_spelling.specs.Spelling.{closing}
use Rattle.row.specs.declared.Encoding.{Encoding}
use Rattle.row.specs.declared.Encoding.TheVariants.{Q, B}
use Rattle.row.specs.Word.{opening_in}

-- the value of a hex digit in any case: 0 to 9, A to F, a to f
unfoldable pub any_case_value : ℕ → Option ℕ
any_case_value b = cond (within 48 57 b) (some (b - 48)) (cond (within 65 70 b) (some (b - 55)) (cond (within 97 102 b) (some (b - 87)) none))

-- "In a word", in Q: what stands there, and the bytes that it adds. 95 is `_`, 61 is `=`, 63 is `?`.
pub data Adds : List ℕ → List ℕ → Type 0 where
  nothing : Adds [] []
  -- "`_` adds byte 32."
  underscore : {standing added : List ℕ} → Adds standing added → Adds (95 ∷ standing) (32 ∷ added)
  -- "`=` with two hex digits in any case adds that byte."
  hex : {first second high low : ℕ} {standing added : List ℕ} → any_case_value first ≡ some high → any_case_value second ≡ some low
      → Adds standing added → Adds (61 ∷ first ∷ second ∷ standing) ((high * 16 + low) ∷ added)
  -- "Any other byte 33 to 126 except `?` and `=` adds itself.": other than `_` too
  itself : {b : ℕ} {standing added : List ℕ} → 33 ≤ b → b ≤ 126 → b ≢ 63 → b ≢ 61 → b ≢ 95 → Adds standing added → Adds (b ∷ standing) (b ∷ added)

-- what stands in a word, and the bytes that it adds: "document 01's reading then takes `=?UTF-8?B?` words too, by base64"
abbrev pub AddsIn : Encoding → List ℕ → List ℕ → Type 0
AddsIn Q standing added = Adds standing added
AddsIn B standing added = FromBase64 standing added

-- a word: its encoding, what stands between its `=?UTF-8?Q?` or `=?UTF-8?B?` and its `?=`, and the bytes that it adds
pub record Word : Type 0 where
  pub encoding : Encoding
  pub standing : List ℕ
  pub added : List ℕ

-- a word's bytes in the row
abbrev pub word_bytes : Word → List ℕ
word_bytes w = opening_in w.encoding ++ (w.standing ++ closing)

-- what stands in the word adds what it adds
abbrev pub Reads : Word → Type 0
Reads w = AddsIn w.encoding w.standing w.added

-- "Between words": a row, or what is left of one, straight after the `?=` of a word (true) or not (false), and its words
pub data LaidAfter : Bool → List ℕ → List Word → Type 0 where
  empty : {straight : Bool} → LaidAfter straight [] []
  -- "CRLF and spaces add nothing." 32 is the space, 13 10 is CRLF.
  space : {straight : Bool} {row : List ℕ} {ws : List Word} → LaidAfter false row ws → LaidAfter straight (32 ∷ row) ws
  crlf : {straight : Bool} {row : List ℕ} {ws : List Word} → LaidAfter false row ws → LaidAfter straight (13 ∷ 10 ∷ row) ws
  -- "`=?UTF-8?Q?` opens a word; straight after the `?=` of another it is a fault. [..] `?=` closes the word.": `=?UTF-8?B?` too
  word : {row : List ℕ} {w : Word} {ws : List Word} → Reads w → LaidAfter true row ws → LaidAfter false (word_bytes w ++ row) (w ∷ ws)

-- what a row of these words reads back as: "the bytes added, in order"
abbrev pub added_text : List Word → List ℕ
added_text ws = joined (map (λ (w : Word). w.added) ws)
