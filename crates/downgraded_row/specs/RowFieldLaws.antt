-- A Downgraded field that we write, wherever it stands in a header, is shown as the text that is encoded in it.
use Rattle.std.specs.Prelude.{◌≡◌, false, ℕ, ◌+◌, ◌-◌, ◌≤◌, ◌<◌, T, drop, get_or}
use Rattle.std.proofs.Math.Path.{refl, ap}
use Rattle.std.proofs.Common.{sym, arith, drop_at}
use mathlib.Core.List.{List, [], ◌∷◌, ◌++◌, append_assoc}
use Rattle.std.proofs.Math.ListN.{length, length-append}
use Rattle.std.proofs.Math.Seq.{take_at}
use borrow.Author.Tests.{lt-ltb, le-leb}
use Rattle.buffer.specs.Buffer.{overlay}
use Rattle.line.specs.Line.{blank}
use Rattle.utf8.specs.Utf8.{utf8}
use Rattle.row.specs.Row.{row_after}
use Rattle.row.specs.FieldRow.{FieldDemand3}
use Rattle.row.proofs.FieldRowLaws.{field_demand_3}
use Rattle.header_line.specs.Lines.{name_len}
use Rattle.header.specs.Fields.{field_len, value_of}
use Rattle.std.specs.Prelude.{Some, Ok}
use Rattle.downgraded_field.specs.Shown.{field_turns, field_text, of_number, field_read}
use Rattle.downgraded_reader.specs.Reader.{field_start, field_at, fitting, of_field, reading, text_left, left_by, buffer_after, text_number, number_of, start_of, next_of, text_size, length_of, outcome}
use Rattle.downgraded_row.specs.RowTurnsLaws.{ShownAs, row_shown}
use Rattle.downgraded_row.specs.RowLinesLaws.{Label, label_length, label_name, field_formed, field_len_lem}

-- the bytes of a label with the encoded words of a text after it, and CRLF
abbrev pub written : List ℕ → List ℕ → List ℕ
written label text = label ++ (row_after (length label) text ++ (13 ∷ 10 ∷ []))

module _ (label text : List ℕ) (l : Label label) (u : T (utf8 text)) where
  demand : FieldDemand3 (length label) text (row_after (length label) text)
  demand = field_demand_3 (length label) text u

  size : length (written label text) ≡ length label + (length (row_after (length label) text) + 2)
  size = rw (length-append label (row_after (length label) text ++ (13 ∷ 10 ∷ [])), length-append (row_after (length label) text) (13 ∷ 10 ∷ [])) refl

  -- its value is the row
  value_is : value_of (written label text) ≡ row_after (length label) text
  unfolding value_of
  value_is =
      let r = row_after (length label) text in
      let n : name_len (label ++ (r ++ (13 ∷ 10 ∷ []))) + 1 ≡ length label = rw (label_name l (r ++ (13 ∷ 10 ∷ []))) (sym (label_length l)) in
      let split : (label ++ r) ++ (13 ∷ 10 ∷ []) ≡ label ++ (r ++ (13 ∷ 10 ∷ [])) = append_assoc label r (13 ∷ 10 ∷ []) in
      let cut : length (label ++ (r ++ (13 ∷ 10 ∷ []))) - 2 ≡ length (label ++ r) = omega (arith, ap length split, length-append (label ++ r) (13 ∷ 10 ∷ [])) in
      rw (n, cut, ← split, take_at (label ++ r) (13 ∷ 10 ∷ []) (length (label ++ r)) refl) (drop_at label r (length label) refl)

  shows : ShownAs false (field_turns (written label text)) text
  unfolding field_turns
  shows = rw value_is (rw demand.ours.reads at (row_shown demand.ours.laid demand.ours.proper))

  pub written_text : field_text (written label text) ≡ text
  unfolding field_text
  written_text = shows.text_is

  pub written_read : field_read (written label text) ≡ Ok (length text)
  unfolding field_read of_number
  written_read = rw (field_formed l demand.ours.laid demand.ours.proper, shows.number, written_text) refl

  -- where it stands in a header: not before white space
  module _ (before after : List ℕ) (fresh : blank (get_or after 0 0) ≡ false) where
    rest_is : drop (length before) (before ++ (written label text ++ after)) ≡ written label text ++ after
    rest_is = drop_at before (written label text ++ after) (length before) refl

    length_is : field_len (written label text ++ after) ≡ length (written label text)
    length_is = field_len_lem after fresh l demand.ours.laid

    pub written_at : field_at (before ++ (written label text ++ after)) (length before) ≡ written label text
    unfolding field_at
    written_at = rw (rest_is, length_is) (take_at (written label text) after (length (written label text)) refl)

    inside : length before < length (before ++ (written label text ++ after))
    inside = omega (arith, length-append before (written label text ++ after), length-append (written label text) after, size)

    read_is : (place room : ℕ) → field_start (before ++ (written label text ++ after)) place ≡ length before → length text ≤ room
        → reading (before ++ (written label text ++ after)) place room ≡ Some (record { start = length before; next = length before + length (written label text); text = Ok (length text) })
    unfolding reading of_field fitting
    read_is place room s k =
        let h = before ++ (written label text ++ after) in
        rw (s, lt-ltb (length before) (length h) inside, written_at, written_read, le-leb (length text) room k, rest_is, length_is) refl

    left_is : (place : ℕ) (buffer : List ℕ) → field_start (before ++ (written label text ++ after)) place ≡ length before → length text ≤ length buffer
        → buffer_after (before ++ (written label text ++ after)) place buffer ≡ overlay text buffer
    unfolding buffer_after left_by text_left
    left_is place buffer s k = rw (read_is place (length buffer) s k, s, written_at, written_text) refl

    -- a call whose first field is this one
    pub written_outcome : (place : ℕ) (buffer : List ℕ) → field_start (before ++ (written label text ++ after)) place ≡ length before → length text ≤ length buffer
        → outcome (before ++ (written label text ++ after)) place buffer
        ≡ record { number = 0; start = length before; next = length before + length (written label text); size = length text; buffer = overlay text buffer }
    unfolding outcome number_of text_number start_of next_of length_of text_size
    written_outcome place buffer s k = rw (read_is place (length buffer) s k, left_is place buffer s k) refl
