-- Of segments that are sound: what is written is all ASCII, and demand 3 holds of each text that is encoded.
use Rattle.std.specs.Prelude.{◌≡◌, refl, ◌&&◌, ℕ, ◌-◌, ◌<◌, length, T, eqb}
use Rattle.std.proofs.Common.{sym, ⊎_elim, eqb→eq, ltb→lt}
use mathlib.Core.List.{List, [], ◌∷◌, ◌++◌, append_assoc, Memᴰ, map}
use Rattle.std.proofs.Math.Facts.{and_yes, or_yes}
use Rattle.lists.specs.Byte.{is_byte, is_ascii}
use Rattle.lists.specs.ByteLaws.{below}
use Rattle.lists.specs.Lists.{all, joined, nonempty}
use Rattle.lists.specs.ListsLaws.{all_append, all_joined, all_mem, all_weaken, joined_map}
use Rattle.utf8.specs.Utf8.{chars, utf8}
use Rattle.utf8.specs.Utf8Laws.{chars_joined, utf8_bytes}
use Rattle.hex_digit.specs.Hex.{hex_digit}
use Rattle.word_spelling.specs.Spelling.{closing, bare, spell_byte, spell}
use Rattle.base64_digits.specs.Base64.{digit64, in_base64}
use Rattle.base64_digits.specs.Reading.{is_digit64, value64}
use Rattle.base64_digits.proofs.Base64Laws.{is_base64, reads_only, all_base64}
use Rattle.row.specs.declared.Encoding.{Encoding}
use Rattle.row.specs.declared.Encoding.TheVariants.{Q, B}
use Rattle.row.specs.Word.{opening_in, spell_in, word}
use Rattle.row.specs.Row.{encodings, runs, chosen, word_in, lines, row_in, row, runs_after, lines_after, row_after_in, row_after}
use Rattle.row.specs.Demand3.{Demand3}
use Rattle.row.proofs.Demand3Laws.{runs_joined, demand_3}
use Rattle.row.specs.FieldRow.{FieldDemand3}
use Rattle.row.proofs.FieldRowLaws.{runs_after_joined, field_demand_3}
use Rattle.mime_parameter.specs.Pieces.{pieces, has_room}
use Rattle.mime_parameter.specs.LinesLaws as parameters
use Rattle.mime_parameter.specs.Parameter2231.{ParameterDemand}
use Rattle.mime_parameter.specs.Parameter2231Laws.{parameter_demand}
use Rattle.encoded_word.specs.Segments.{Segment, bytes_of, rendered, sound}
use Rattle.encoded_word.specs.Segments.Segment.{raw, words, labelled, parameter}

-- ---- a row is ASCII

spell_byte_ascii : (b : ℕ) → b < 256 → T (all is_ascii (spell_byte b))
unfolding spell_byte bare hex_digit
spell_byte_ascii b h = below (λ k. all is_ascii (spell_byte k)) 256 tt b h

spell_ascii : (bytes : List ℕ) → T (all is_byte bytes) → T (all is_ascii (spell bytes))
unfolding spell
spell_ascii [] h = tt
spell_ascii (b ∷ bytes) h =
    let both = and_yes (is_byte b) (all is_byte bytes) h in
    all_append is_ascii (spell_byte b) (spell bytes) (spell_byte_ascii b (ltb→lt b 256 both.0)) (spell_ascii bytes both.1)

digit_ascii : (b : ℕ) → T (is_base64 b) → T (is_ascii b)
unfolding digit64
digit_ascii b t =
    ⊎_elim
    (λ u. let d = reads_only b u in rw d.1 at (below (λ v. is_ascii (digit64 v)) 64 tt (value64 b) d.0))
    (λ u. rw (eqb→eq b 61 u) tt)
    (or_yes (is_digit64 b) (eqb b 61) t)

spell_in_ascii : (e : Encoding) (bytes : List ℕ) → T (all is_byte bytes) → T (all is_ascii (spell_in e bytes))
spell_in_ascii Q bytes h = spell_ascii bytes h
spell_in_ascii B bytes h = all_weaken is_base64 is_ascii digit_ascii (in_base64 bytes) (all_base64 bytes)

word_ascii : (e : Encoding) (bytes : List ℕ) → T (all is_byte bytes) → T (all is_ascii (word e bytes))
unfolding word
word_ascii e bytes h =
    all_append is_ascii (opening_in e) (spell_in e bytes ++ closing) (opening_ascii e) (all_append is_ascii (spell_in e bytes) closing (spell_in_ascii e bytes h) tt)
  where
    opening_ascii : (e : Encoding) → T (all is_ascii (opening_in e))
    opening_ascii Q = tt
    opening_ascii B = tt

module _ (es : List Encoding) (room : ℕ) where
  lines_ascii : (ls : List (List ℕ)) → T (all (all is_byte) ls) → T (all is_ascii (lines es room ls))
  unfolding lines
  lines_ascii [] h = tt
  lines_ascii (l ∷ ls) h =
      let both = and_yes (all is_byte l) (all (all is_byte) ls) h in
      all_append is_ascii (13 ∷ 10 ∷ 32 ∷ word_in es room l) (lines es room ls) (word_ascii (chosen es room l) l both.0) (lines_ascii ls both.1)

  -- of every text of bytes, UTF-8 or not
  row_ascii : (text : List ℕ) → T (all is_byte text) → T (all is_ascii (row_in es room text))
  unfolding row_in
  row_ascii text h =
      let rs = runs es room (chars text) in
      lines_ascii (map joined rs) (all_joined is_byte (map joined rs) (rw (joined_map rs, runs_joined es room (chars text), chars_joined text) h))

  lines_after_ascii : (column : ℕ) (ls : List (List ℕ)) → T (all (all is_byte) ls) → T (all is_ascii (lines_after es room column ls))
  unfolding lines_after
  lines_after_ascii column [] h = tt
  lines_after_ascii column ([] ∷ ls) h = lines_ascii ls h
  lines_after_ascii column ((b ∷ l) ∷ ls) h =
      let both = and_yes (all is_byte (b ∷ l)) (all (all is_byte) ls) h in
      all_append is_ascii (32 ∷ word_in es (room - column) (b ∷ l)) (lines es room ls) (word_ascii (chosen es (room - column) (b ∷ l)) (b ∷ l) both.0) (lines_ascii ls both.1)

  row_after_ascii : (column : ℕ) (text : List ℕ) → T (all is_byte text) → T (all is_ascii (row_after_in es room column text))
  unfolding row_after_in
  row_after_ascii column text h =
      let rs = runs_after es room column (chars text) in
      lines_after_ascii column (map joined rs) (all_joined is_byte (map joined rs) (rw (joined_map rs, runs_after_joined es room column (chars text), chars_joined text) h))

-- ---- segments

pub rendered_append : (a b : List Segment) → rendered (a ++ b) ≡ rendered a ++ rendered b
unfolding rendered
rendered_append [] b = refl
rendered_append (s ∷ a) b = rw (rendered_append a b) (sym (append_assoc (bytes_of s) (rendered a) (rendered b)))

-- a parameter that is sound
record SoundParameter (name text : List ℕ) : Type 0 where
  ascii : T (all is_ascii name)
  whole : T (utf8 text)
  some : T (nonempty text)
  room : T (has_room name text)

parameter_sound : (name text : List ℕ) → T (sound (parameter name text)) → SoundParameter name text
parameter_sound name text h =
    let x = and_yes (all is_ascii name && utf8 text && nonempty text) (has_room name text) h in
    let y = and_yes (all is_ascii name && utf8 text) (nonempty text) x.0 in
    let z = and_yes (all is_ascii name) (utf8 text) y.0 in
    record { ascii = z.0; whole = z.1; some = y.1; room = x.1 }

bytes_ascii : (s : Segment) → T (sound s) → T (all is_ascii (bytes_of s))
bytes_ascii (raw bytes) h = h
bytes_ascii (words text) h = row_ascii encodings 63 text (utf8_bytes text h)
bytes_ascii (labelled label text) h =
    let both = and_yes (all is_ascii label) (utf8 text) h in
    all_append is_ascii label (row_after (length label) text) both.0 (row_after_ascii encodings 63 (length label) text (utf8_bytes text both.1))
bytes_ascii (parameter name text) h =
    let p = parameter_sound name text h in
    parameters.lines_ascii name p.ascii text (utf8_bytes text p.whole)

pub rendered_ascii : (ss : List Segment) → T (all sound ss) → T (all is_ascii (rendered ss))
unfolding rendered
rendered_ascii [] h = tt
rendered_ascii (s ∷ ss) h =
    let both = and_yes (sound s) (all sound ss) h in
    all_append is_ascii (bytes_of s) (rendered ss) (bytes_ascii s both.0) (rendered_ascii ss both.1)

-- Demand 3 for every text that a rule asked to encode, by itself or after a label.
pub words_demand_3 : (ss : List Segment) (text : List ℕ) → T (all sound ss) → Memᴰ (words text) ss → Demand3 text (row text)
words_demand_3 ss text h m = demand_3 text (all_mem sound h m)

pub labelled_demand_3 : (ss : List Segment) (label text : List ℕ) → T (all sound ss) → Memᴰ (labelled label text) ss → FieldDemand3 (length label) text (row_after (length label) text)
labelled_demand_3 ss label text h m = field_demand_3 (length label) text (and_yes (all is_ascii label) (utf8 text) (all_mem sound h m)).1

-- The promise of RFC 2231 for every parameter that is converted.
pub parameter_promise : (ss : List Segment) (name text : List ℕ) → T (all sound ss) → Memᴰ (parameter name text) ss → ParameterDemand name text (pieces name text)
parameter_promise ss name text h m =
    let p = parameter_sound name text (all_mem sound h m) in
    parameter_demand name text p.whole p.some p.room
