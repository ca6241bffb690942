-- What we write is laid out as the words that it was written from: a byte in our spelling, a word, words each on a line of its own.
use Rattle.std.specs.Prelude.{◌≡◌, refl, ◌≢◌, Bool, false, not, ◌||◌, ℕ, ◌+◌, ◌*◌, ◌/◌, ◌%◌, ◌≤◌, ◌<◌, T, eqb}
use Rattle.std.proofs.Common.{sym, ap, div-add-mod', arith, eqb→eq, ltb→lt}
use Rattle.std.proofs.Math.Bool.{true}
use mathlib.Core.List.{List, [], ◌∷◌, ◌++◌, map}
use Rattle.std.proofs.Math.Option.{Option, none, some}
use Rattle.std.proofs.Math.Facts.{and_yes}
use Rattle.lists.specs.Lists.{all}
use Rattle.lists.specs.ListsLaws.{by_test}
use Rattle.lists.specs.Byte.{is_byte, within}
use Rattle.lists.specs.ByteLaws.{below, implies, within_low, within_high}
use Rattle.hex_digit.specs.Hex.{hex_digit}
use Rattle.word_spelling.specs.Spelling.{bare, escape, spell_byte, spell}
use Rattle.word_spelling.specs.SpellingLaws.{spell_bare, spell_space, spell_hex}
use Rattle.base64_digits.proofs.GrammarLaws.{base64_reads, base64_only}
use Rattle.row.specs.declared.Encoding.{Encoding}
use Rattle.row.specs.declared.Encoding.TheVariants.{Q, B}
use Rattle.row.specs.Word.{spell_in, word}
use Rattle.row.specs.Layout.{any_case_value, Adds, AddsIn, Word, Reads, LaidAfter}
use Rattle.row.specs.Layout.LaidAfter.{empty, space, crlf}
use Rattle.row.specs.Row.{chosen, lines}

-- a whole row and its words
abbrev pub Laid : List ℕ → List Word → Type 0
Laid row ws = LaidAfter false row ws

-- ---- a byte

bare_adds : (b : ℕ) {s t : List ℕ} → b < 256 → T (bare b) → Adds s t → Adds (b ∷ s) (b ∷ t)
unfolding bare
bare_adds b h t a =
    let w = implies (bare b) (within 33 126 b) (below (λ k. not (bare k) || within 33 126 k) 256 tt b h) t in
    Adds.itself (within_low 33 126 b w) (within_high 33 126 b w) (λ e. rw e at t) (λ e. rw e at t) (λ e. rw e at t) a

is_value : Option ℕ → ℕ → Bool
is_value none n = false
is_value (some m) n = eqb m n

is_value_lem : (o : Option ℕ) (n : ℕ) → T (is_value o n) → o ≡ some n
unfolding is_value
is_value_lem none n t = absurd t
is_value_lem (some m) n t = ap some (eqb→eq m n t)

-- a hex digit that we write reads as its value
hex_back : (d : ℕ) → d < 16 → any_case_value (hex_digit d) ≡ some d
unfolding is_value any_case_value hex_digit
hex_back d h = is_value_lem _ d (below (λ k. is_value (any_case_value (hex_digit k)) k) 16 tt d h)

-- our spelling of a byte adds it
spelling_adds : (b : ℕ) {s t : List ℕ} → b < 256 → Adds s t → Adds (spell_byte b ++ s) (b ∷ t)
spelling_adds b h a =
    by_test (bare b)
    (λ t. rw (spell_bare b t) (bare_adds b h t a))
    (λ t. by_test (eqb b 32)
    (λ u. rw (eqb→eq b 32 u, spell_space) (Adds.underscore a))
    (λ u. rw (spell_hex b t u)
    (rw (div-add-mod' b 16) at (Adds.hex (hex_back (b / 16) (omega arith)) (hex_back (b % 16) (omega arith)) a))))

-- ---- words

-- the word of some bytes in an encoding
abbrev pub ours : Encoding → List ℕ → Word
ours encoding bytes = record { encoding = encoding; standing = spell_in encoding bytes; added = bytes }

-- the word of some bytes in the encoding chosen for this room
abbrev pub ours_in : List Encoding → ℕ → List ℕ → Word
ours_in es room bytes = ours (chosen es room bytes) bytes

spell_adds : (bytes : List ℕ) → T (all is_byte bytes) → Adds (spell bytes) bytes
unfolding spell
spell_adds [] h = Adds.nothing
spell_adds (b ∷ bytes) h =
    let both = and_yes (is_byte b) (all is_byte bytes) h in
    spelling_adds b (ltb→lt b 256 both.0) (spell_adds bytes both.1)

pub ours_reads : (e : Encoding) (bytes : List ℕ) → T (all is_byte bytes) → Reads (ours e bytes)
ours_reads Q bytes h = spell_adds bytes h
ours_reads B bytes h = base64_reads bytes h

module _ (es : List Encoding) (room : ℕ) where
  lines_after_lem : (straight : Bool) (ls : List (List ℕ)) → T (all (all is_byte) ls) → LaidAfter straight (lines es room ls) (map (ours_in es room) ls)
  unfolding lines word
  lines_after_lem straight [] h = empty
  lines_after_lem straight (l ∷ ls) h =
      let both = and_yes (all is_byte l) (all (all is_byte) ls) h in
      crlf (space (LaidAfter.word {w = ours_in es room l} (ours_reads (chosen es room l) l both.0) (lines_after_lem true ls both.1)))

  -- the lines that we write are laid out as our words
  pub lines_laid : (ls : List (List ℕ)) → T (all (all is_byte) ls) → Laid (lines es room ls) (map (ours_in es room) ls)
  lines_laid ls h = lines_after_lem false ls h

-- every word in B that reads is in B with the usual padding
pub base64_spelt : {standing added : List ℕ} → AddsIn B standing added → standing ≡ spell_in B added
base64_spelt g = sym (base64_only g)

-- ---- in our spelling, byte for byte

-- "each byte it adds stands there as Encoded words writes that byte"
pub ByteForByte : {s t : List ℕ} → Adds s t → Type 0
ByteForByte Adds.nothing = Unit {0}
ByteForByte (Adds.underscore a) = (95 ∷ [] ≡ spell_byte 32) × ByteForByte a
ByteForByte (Adds.hex {first} {second} {high} {low} p q a) = (61 ∷ first ∷ second ∷ [] ≡ spell_byte (high * 16 + low)) × ByteForByte a
ByteForByte (Adds.itself {b} l h q e u a) = (b ∷ [] ≡ spell_byte b) × ByteForByte a

equals_not_bare : T (bare 61) → ⊥
unfolding bare
equals_not_bare t = t

-- a byte's spelling in front of more, where `=` and two bytes stand there, or the byte itself
module _ (b : ℕ) (x : List ℕ) where
  front_escape : (first second : ℕ) (s : List ℕ) → 61 ∷ first ∷ second ∷ s ≡ spell_byte b ++ x
      → (61 ∷ first ∷ second ∷ [] ≡ spell_byte b) × (s ≡ x)
  front_escape first second s e =
      by_test (bare b)
      (λ t. absurd (no_bare t (rw (spell_bare b t) at e)))
      (λ t. by_test (eqb b 32)
      (λ u. absurd (no_space (rw (eqb→eq b 32 u, spell_space) at e)))
      (λ u. rw (spell_hex b t u) (same (rw (spell_hex b t u) at e))))
    where
      no_bare : T (bare b) → 61 ∷ first ∷ second ∷ s ≡ b ∷ x → ⊥
      no_bare t e = let same : b ≡ 61 = cc in equals_not_bare (rw same at t)

      no_space : 61 ∷ first ∷ second ∷ s ≡ 95 ∷ x → ⊥
      no_space e = let z : ◌≡◌ {A = ℕ} 61 95 = cc in omega arith

      same : 61 ∷ first ∷ second ∷ s ≡ escape b ++ x → (61 ∷ first ∷ second ∷ [] ≡ escape b) × (s ≡ x)
      same e = (cc, cc)

  front_itself : (s : List ℕ) → 33 ≤ b → b ≢ 61 → b ∷ s ≡ spell_byte b ++ x → (b ∷ [] ≡ spell_byte b) × (s ≡ x)
  front_itself s l n e =
      by_test (bare b)
      (λ t. rw (spell_bare b t) (same (rw (spell_bare b t) at e)))
      (λ t. by_test (eqb b 32)
      (λ u. absurd (not_space_lem (eqb→eq b 32 u)))
      (λ u. absurd (no_escape (rw (spell_hex b t u) at e))))
    where
      same : b ∷ s ≡ b ∷ x → (b ∷ [] ≡ b ∷ []) × (s ≡ x)
      same e = (refl, cc)

      not_space_lem : b ≡ 32 → ⊥
      not_space_lem e = omega arith

      no_escape : b ∷ s ≡ escape b ++ x → ⊥
      no_escape e = n (cc)

-- a word in our spelling is so byte for byte
pub spelt_bytes : {s t : List ℕ} (a : Adds s t) → s ≡ spell t → ByteForByte a
unfolding ByteForByte spell
spelt_bytes Adds.nothing e = tt
spelt_bytes (Adds.underscore {standing} {added} a) e = (sym spell_space, spelt_bytes a (next e))
  where
    next : 95 ∷ standing ≡ spell_byte 32 ++ spell added → standing ≡ spell added
    next e = let f : 95 ∷ standing ≡ 95 ∷ spell added = rw spell_space at e in cc
spelt_bytes (Adds.hex {first} {second} {high} {low} {standing} {added} p q a) e =
    let f = front_escape (high * 16 + low) (spell added) first second standing e in (f.0, spelt_bytes a f.1)
spelt_bytes (Adds.itself {b} {standing} {added} l h q n u a) e =
    let f = front_itself b (spell added) standing l n e in (f.0, spelt_bytes a f.1)

-- and the other way round
pub bytes_spelt : {s t : List ℕ} (a : Adds s t) → ByteForByte a → s ≡ spell t
unfolding ByteForByte spell
bytes_spelt Adds.nothing h = refl
bytes_spelt (Adds.underscore a) h = rw (← h.0, bytes_spelt a h.1) refl
bytes_spelt (Adds.hex p q a) h = rw (← h.0, bytes_spelt a h.1) refl
bytes_spelt (Adds.itself l i q n u a) h = rw (← h.0, bytes_spelt a h.1) refl
