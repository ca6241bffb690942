-- Laws of the pieces of a comment: they are written part by part, how long they can be, and that they are sound.
use Rattle.std.specs.Prelude.{◌≡◌, true, false, List, [], ◌∷◌, ◌++◌, ℕ, ◌+◌, ◌-◌, ◌*◌, ◌≤◌, ◌<◌, T, length, take, drop}
use Rattle.std.proofs.Common.{sym, zero-le, arith, length-append, length-take, length-drop}
use Rattle.std.proofs.Math.Facts.{yes_and}
use Rattle.lists.specs.Byte.{is_ascii}
use Rattle.lists.specs.CutBy.{cut_by}
use Rattle.lists.specs.CutByLaws.{cut_joined, cut_some}
use Rattle.lists.specs.Lists.{all, joined}
use Rattle.lists.specs.ListsLaws.{cond_has}
use Rattle.utf8.specs.Utf8.{utf8}
use Rattle.buffer.specs.Buffer.{AppendedCapped}
use Rattle.row.specs.Row.{row}
use Rattle.row.proofs.RowLaws.{length_row_le}
use Rattle.encoded_word.specs.Segments.{Segment, bytes_of, rendered, sound}
use Rattle.encoded_word.specs.Segments.Segment.{words}
use Rattle.encoded_word.specs.MappedLaws.{mapped_next, mapped_none, mapped_le, mapped_sound}
use Rattle.comment.specs.Parts.{part_len, parts, run_text, is_blank_run}
use Rattle.comment.proofs.PartsLaws.{parts_next, parts_over}
use Rattle.comment.proofs.BoundaryLaws.{parts_utf8, run_text_utf8, length_run_text}
use Rattle.piece.specs.Piece.{piece}
use Rattle.piece.proofs.PieceLaws.{rendered_one, MadeIn, made_in}
use Rattle.piece.specs.CommentPieces.{part_pieces, comment_pieces}

-- ---- a parenthesis or a run

module _ (part : List ℕ) where
  pub part_dropped : is_blank_run part ≡ true → [] ≡ rendered (part_pieces part)
  unfolding part_pieces rendered
  part_dropped h = rw h

  module _ (b : is_blank_run part ≡ false) where
    pub part_stays : all is_ascii part ≡ true → bytes_of (piece part) ≡ rendered (part_pieces part)
    unfolding part_pieces
    part_stays h = rw (b, h) (sym (rendered_one (piece part)))

    pub part_encoded : all is_ascii part ≡ false → row (run_text part) ≡ rendered (part_pieces part)
    unfolding part_pieces
    part_encoded h = rw (b, h) (sym (rendered_one (words (run_text part))))

-- the text of a run in a scratch that has room for it
pub run_made : (run : List ℕ) {begun text : List ℕ} {n : ℕ} → AppendedCapped (run_text run) 0 begun text n → length run ≤ 32768 → length run ≤ length begun → MadeIn text n (run_text run)
run_made run u k h = made_in u (omega (arith, length_run_text run)) (omega (arith, length_run_text run))

-- ---- a comment, part by part

module _ (t : List ℕ) (i : ℕ) where
  -- a turn: the part at i ends at e
  pub comment_step : (e : ℕ) → i < length t → e ≡ i + part_len (drop i t)
      → rendered (comment_pieces (drop i t)) ≡ rendered (part_pieces (take (e - i) (drop i t))) ++ rendered (comment_pieces (drop e t))
  unfolding comment_pieces
  comment_step e h r = mapped_next part_pieces (parts_next t i h e r)

  -- a part is no longer than the comment
  pub part_fits_lem : (e room : ℕ) → i < length t → e ≡ i + part_len (drop i t) → length t ≤ 32768 → length t ≤ room
      → (length (take (e - i) (drop i t)) ≤ 32768) × (length (take (e - i) (drop i t)) ≤ room)
  part_fits_lem e room h r k l =
      let size : length (take (e - i) (drop i t)) ≤ length t = omega (arith, length-take (e - i) (drop i t), length-drop i t) in
      (omega arith, omega arith)

  pub comment_end_lem : length t ≤ i → rendered (comment_pieces (drop i t)) ≡ []
  unfolding comment_pieces
  comment_end_lem h = mapped_none part_pieces (parts_over t i h)

-- ---- how long they can be

nothing_le : (n : ℕ) → length (rendered []) ≤ n
unfolding rendered
nothing_le n = zero-le

part_le : (p : List ℕ) → 0 < length p → length (rendered (part_pieces p)) ≤ 20 * length p
unfolding part_pieces
part_le p h =
    let short : List Segment → Type 0 = (λ ss. length (rendered ss) ≤ 20 * length p) in
    cond_has short (is_blank_run p) [] _
    (λ _. nothing_le (20 * length p))
    (λ _. cond_has short (all is_ascii p) (piece p ∷ []) (words (run_text p) ∷ [])
    (λ _. rw (rendered_one (piece p)) (omega arith))
    (λ _. rw (rendered_one (words (run_text p))) (omega (arith, length_row_le (run_text p), length_run_text p))))

-- at most 20 bytes are written for each byte of a comment
pub comment_le : (t : List ℕ) → length (rendered (comment_pieces t)) ≤ 20 * length t
unfolding comment_pieces parts
comment_le t = rw (cut_joined part_len t) at (mapped_le part_pieces 20 part_le (cut_by part_len t) (cut_some part_len t))

-- ---- what is written is sound

part_sound : (p : List ℕ) → T (utf8 p) → T (all sound (part_pieces p))
unfolding part_pieces
part_sound p h =
    let good : List Segment → Type 0 = (λ ss. T (all sound ss)) in
    cond_has good (is_blank_run p) [] _
    (λ _. tt)
    (λ _. cond_has good (all is_ascii p) (piece p ∷ []) (words (run_text p) ∷ [])
    (λ a. yes_and (all is_ascii p) true a tt)
    (λ _. yes_and (utf8 (run_text p)) true (run_text_utf8 p h) tt))

pub comment_sound : (t : List ℕ) → T (utf8 t) → T (all sound (comment_pieces t))
unfolding comment_pieces
comment_sound t h = mapped_sound part_pieces utf8 part_sound (parts t) (parts_utf8 t h)
