-- Laws of the pieces, as code writes them.
use Rattle.std.specs.Prelude.{◌≡◌, refl, Bool, true, not, List, [], ◌++◌, map, ℕ, ◌+◌, ◌-◌, ◌*◌, ◌≤◌, ◌<◌, T, length, take, drop}
use Rattle.std.proofs.Common.{sym, arith, length-drop, length-take-le}
use Rattle.std.proofs.Math.Bool.{false}
use Rattle.lists.specs.Byte.{is_ascii}
use Rattle.lists.specs.Lists.{all}
use Rattle.lists.specs.Run.{run}
use Rattle.line.specs.Line.{blank}
use Rattle.rules.specs.declared.Rules.{Rules}
use Rattle.row.specs.Row.{row}
use Rattle.encoded_word.specs.Segments.{Segment, bytes_of, rendered}
use Rattle.encoded_word.specs.Segments.Segment.{words}
use Rattle.encoded_word.specs.SegmentsLaws.{rendered_append}
use Rattle.phrase.specs.Phrase.{word_size, words_from, phrase_words, phrase_text}
use Rattle.phrase.specs.PhraseLaws.{phrase_words_next, phrase_words_end}
use Rattle.address_list.specs.Parts.{inner_end}
use Rattle.address_list.specs.PartsLaws.{parts_end}
use Rattle.address_list.specs.declared.PartKind.{PartKind}
use Rattle.address_list.specs.declared.PartKind.TheVariants.{Blank, Comment, Comma, Colon, Semicolon, Phrase, Address, Angled, Alternative, Stray}
use Rattle.group.specs.Group.{is_lost, Turn, turns_from, turn_for, turn_inner, parts_at, NextAt}
use Rattle.group.specs.Trimmed.{trimmed}
use Rattle.group.proofs.NestingLaws.{is_removed}
use Rattle.group.specs.declared.Next.{Next}
use Rattle.group.specs.declared.TurnKind.{TurnKind}
use Rattle.group.specs.declared.TurnKind.TheVariants.{OnePart, LostGroup}
use Rattle.piece.specs.Piece.{piece}
use Rattle.piece.proofs.PieceLaws.{rendered_one}
use Rattle.address_pieces.specs.Pieces.{phrase_pieces, removed, in_angles, address_pieces, pieces, turn_pieces, pieces_of}

kept_ascii : (b : Bool) → T (not (not b)) → b ≡ true
kept_ascii true h = refl
kept_ascii false h = absurd h

-- ---- a phrase, word by word

-- a turn: the word at i ends at e, and the blanks after it at f
pub word_pieces_step : (t : List ℕ) (i e f : ℕ) → i < length t → e ≡ i + word_size (drop i t) → f ≡ e + run blank (drop e t)
    → rendered (map piece (words_from 0 (drop i t))) ≡ bytes_of (piece (take (e - i) (drop i t))) ++ rendered (map piece (words_from 0 (drop f t)))
unfolding rendered
word_pieces_step t i e f h qe qf = rw (phrase_words_next t i e f h qe qf)

pub word_pieces_end : (t : List ℕ) (i : ℕ) → length t ≤ i → rendered (map piece (words_from 0 (drop i t))) ≡ []
unfolding rendered
word_pieces_end t i h = rw (phrase_words_end t i h)

-- ---- the pieces of a phrase and of an address

module _ (t : List ℕ) where
  pub phrase_ascii : all is_ascii t ≡ true → rendered (map piece (phrase_words t)) ≡ rendered (phrase_pieces t)
  unfolding phrase_pieces
  phrase_ascii h = rw h

  pub phrase_high : all is_ascii t ≡ false → row (phrase_text t) ≡ rendered (phrase_pieces t)
  unfolding phrase_pieces
  phrase_high h = rw h (sym (rendered_one (words (phrase_text t))))

  module _ (rules : Rules) where
    module _ (as_piece : List ℕ → Segment) where
      pub address_ascii : all is_ascii t ≡ true → bytes_of (as_piece t) ≡ rendered (address_pieces rules as_piece t)
      unfolding address_pieces
      address_ascii h = rw h (sym (rendered_one (as_piece t)))

      pub address_high : all is_ascii t ≡ false → rendered (removed rules t) ≡ rendered (address_pieces rules as_piece t)
      unfolding address_pieces
      address_high h = rw h

    module _ (start size : ℕ) where
      part_size : start + size - start ≡ size
      part_size = omega arith

      pub pieces_angled : rendered (address_pieces rules in_angles (take (start + size - start) (drop start t))) ≡ rendered (pieces rules (Angled start size) t)
      unfolding pieces
      pieces_angled = rw part_size

      pub pieces_alternative : bytes_of (in_angles (take (start + size - start) (drop start t))) ≡ rendered (pieces rules (Alternative start size) t)
      unfolding pieces
      pieces_alternative = rw part_size (sym (rendered_one (in_angles (take size (drop start t)))))

-- ---- the pieces of a text, turn by turn

module _ (rules : Rules) (t : List ℕ) where
  pub turn_group : {k : TurnKind} → k ≡ LostGroup → rendered (removed rules (trimmed t)) ≡ rendered (turn_pieces rules (turn_for k t))
  unfolding turn_pieces
  turn_group h = rw h

  pub turn_part : {k : TurnKind} (part : PartKind) → k ≡ OnePart part → rendered (pieces rules part t) ≡ rendered (turn_pieces rules (turn_for k t))
  unfolding turn_pieces
  turn_part part h = rw h

module _ {rules : Rules} {s : List ℕ} {i : ℕ} where
  module _ {r : Next} (w : NextAt rules s i r) where
    abbrev turn_text : List ℕ
    turn_text = take (r.end - r.start) (drop r.start s)

    pub turns_step : rendered (pieces_of rules (turns_from false (parts_at rules s i)))
        ≡ rendered (turn_pieces rules (turn_for r.kind turn_text)) ++ rendered (pieces_of rules (turns_from false (parts_at rules s r.next)))
    unfolding pieces_of
    turns_step = rw w.is (rendered_append (turn_pieces rules (turn_for r.kind turn_text)) (pieces_of rules (turns_from false (parts_at rules s r.next))))

    -- a part has the address in it, and the scratch can serve it
    pub turn_fits : (room : ℕ) → length s ≤ 32768 → 2 * length s ≤ room → (length turn_text ≤ 32768) × ((2 * length turn_text ≤ room) × (turn_inner r.kind ≤ length turn_text))
    turn_fits room k l =
        let size : length turn_text ≡ r.end - r.start = length-take-le (r.end - r.start) (drop r.start s) (omega (arith, w.covers, w.within, length-drop r.start s)) in
        (omega (arith, size, w.covers, w.within), (omega (arith, size, w.covers, w.within), omega (arith, size, w.inner)))

pub turns_end : (rules : Rules) (s : List ℕ) (i : ℕ) → length s ≤ i → rendered (pieces_of rules (turns_from false (parts_at rules s i))) ≡ []
unfolding pieces_of turns_from rendered
turns_end rules s i h = rw (parts_end rules s i h)

-- where nothing is removed the pieces are the same under all rules, whose fixed words differ
pub kept_same : (a b : Rules) (t : Turn) → T (not (is_removed t)) → turn_pieces a t ≡ turn_pieces b t
unfolding turn_pieces pieces is_lost address_pieces
kept_same a b (Turn.lost_group t) h = absurd h
kept_same a b (Turn.part Blank t) h = refl
kept_same a b (Turn.part Comment t) h = refl
kept_same a b (Turn.part Comma t) h = refl
kept_same a b (Turn.part Colon t) h = refl
kept_same a b (Turn.part Semicolon t) h = refl
kept_same a b (Turn.part Phrase t) h = refl
kept_same a b (Turn.part Address t) h = rw (kept_ascii (all is_ascii t) h)
kept_same a b (Turn.part (Angled start size) t) h = rw (kept_ascii (all is_ascii (take size (drop start t))) h)
kept_same a b (Turn.part (Alternative start size) t) h = refl
kept_same a b (Turn.part Stray t) h = refl
