-- How long a rewritten address field can be.
use Rattle.std.specs.Prelude.{Bool, false, cond, ℕ, zero, suc, pred, ◌+◌, ◌-◌, ◌*◌, ◌≤◌, ◌<◌, T, leb, take, drop, Result, Ok, Err}
use Rattle.std.proofs.Math.Bool.{true}
use mathlib.Core.List.{List, [], ◌∷◌, map}
use Rattle.std.proofs.Common.{zero-le, arith, not-suc-le-zero, length-drop, length-take, length-append}
use Rattle.std.proofs.Math.ListN.{length}
use Rattle.lists.specs.Byte.{is_ascii}
use Rattle.lists.specs.Lists.{all}
use Rattle.lists.specs.ListsLaws.{by_test, no_false, cond_has}
use Rattle.lists.specs.Run.{run}
use Rattle.line.specs.Line.{blank}
use Rattle.letter_case.specs.LetterCase.{bytes}
use Rattle.rules.specs.Rules.{removal_start, removal_end}
use Rattle.rules.specs.declared.Rules.{Rules}
use Rattle.rules.specs.declared.Rules.TheVariants.{Spool, Current, Mailbox}
use Rattle.row.proofs.RowLaws.{length_row_le}
use Rattle.encoded_word.specs.SegmentsLaws.{rendered_append}
use Rattle.encoded_word.specs.Segments.{Segment, bytes_of, rendered}
use Rattle.encoded_word.specs.Segments.Segment.{words}
use Rattle.field.specs.Field.{encoded_field}
use Rattle.field.proofs.FieldLaws.{length_encoded, length_named}
use Rattle.address.specs.AddressLaws.{byte_within}
use Rattle.address.specs.Address.{address_scan}
use Rattle.address.specs.TakenLaws.{Taken, taken_address}
use Rattle.phrase.specs.Words.{found, capped, address_len, phrase_len}
use Rattle.phrase.specs.Phrase.{word_size, words_from, phrase_words, phrase_text}
use Rattle.phrase.specs.PhraseLaws.{word_size_some, length_phrase_text}
use Rattle.comment.specs.Comment.{comment_len}
use Rattle.piece.proofs.CommentPiecesLaws.{comment_le}
use Rattle.address_list.specs.Parts.{Part, part_at, parts_from, parts_of}
use Rattle.address_list.specs.PartCasesLaws.{part_has}
use Rattle.address_list.specs.declared.Front.{Front}
use Rattle.address_list.specs.Table.{examined}
use Rattle.address_list.specs.declared.Examined.{Examined}
use Rattle.address_list.specs.declared.Examined.TheVariants.{DoesNotFit, Kept, Changed}
use Rattle.address_list.specs.declared.PartKind.{PartKind}
use Rattle.address_list.specs.declared.PartKind.TheVariants.{Blank, Comment, Comma, Colon, Semicolon, Phrase, Address, Angled, Alternative, Stray}
use Rattle.group.specs.Group.{is_lost, inside, any_lost, text_of, Turn, turns_of}
use Rattle.group.specs.Trimmed.{trimmed}
use Rattle.group.proofs.GroupLaws.{Each, each_inside, TurnCases, turns_have}
use Rattle.group.proofs.TrimmedLaws.{trimmed_le}
use Rattle.piece.specs.Piece.{piece}
use Rattle.address_pieces.specs.Pieces.{phrase_pieces, removed, in_angles, address_pieces, pieces, turn_pieces, pieces_of}
use Rattle.piece.proofs.PieceLaws.{rendered_one}
use Rattle.address_pieces.specs.AddressField.{rewritten_field, adds_copy, copy_of, field_by, address_field}

either_le : (b : Bool) (x y : List Segment) (n : ℕ) → length (rendered x) ≤ n → length (rendered y) ≤ n → length (rendered (cond b x y)) ≤ n
either_le true x y n p q = p
either_le false x y n p q = q

one_le : (s : Segment) (n : ℕ) → length (bytes_of s) ≤ n → length (rendered (s ∷ [])) ≤ n
one_le s n h = rw (rendered_one s) h

word_pieces_le : (k : ℕ) (t : List ℕ) → length (rendered (map piece (words_from k t))) ≤ 4 * length (drop k t)
unfolding words_from rendered
word_pieces_le k [] = zero-le
word_pieces_le (suc k) (b ∷ t) = word_pieces_le k t
word_pieces_le zero (b ∷ t) =
    let n : ℕ = word_size (b ∷ t) in
    let m : ℕ = pred (n + run blank (drop n (b ∷ t))) in
    rw length-append (omega (arith, word_pieces_le m t, length-drop m t, length-take n (b ∷ t), word_size_some b t))

phrase_le : (t : List ℕ) → length (rendered (phrase_pieces t)) ≤ 15 + 10 * length t
unfolding phrase_pieces phrase_words
phrase_le t =
    either_le (all is_ascii t) (map piece (words_from 0 t)) (words (phrase_text t) ∷ []) (15 + 10 * length t)
    (omega (arith, word_pieces_le 0 t))
    (rw (rendered_one (words (phrase_text t))) (omega (arith, length_row_le (phrase_text t), length_phrase_text t)))

-- the words of a phrase, a piece each
pub phrase_words_le : (t : List ℕ) → length (rendered (map piece (phrase_words t))) ≤ 4 * length t
unfolding phrase_words
phrase_words_le t = word_pieces_le 0 t

pub removed_le : (rules : Rules) (address : List ℕ) → length (rendered (removed rules address)) ≤ 55 + 5 * length address
unfolding rendered removed removal_start removal_end bytes
removed_le Spool address = rw (length-append, length-append) (omega (arith, length_row_le address))
removed_le Current address = rw (length-append, length-append) (omega (arith, length_row_le address))
removed_le Mailbox address = rw (length-append, length-append) (omega (arith, length_row_le address))

angles_le : (address : List ℕ) → length (bytes_of (in_angles address)) ≤ 5 + length address
angles_le address = omega (arith, length-append address (62 ∷ []))

address_le : (rules : Rules) (as_piece : List ℕ → Segment) (t : List ℕ) → length (bytes_of (as_piece t)) ≤ 5 + length t → length (rendered (address_pieces rules as_piece t)) ≤ 55 + 5 * length t
unfolding address_pieces
address_le rules as_piece t h =
    either_le (all is_ascii t) (as_piece t ∷ []) (removed rules t) (55 + 5 * length t)
    (rw (rendered_one (as_piece t)) (omega arith))
    (removed_le rules t)

-- a part of a text is no longer
pub part_le : (start size : ℕ) (t : List ℕ) → length (take size (drop start t)) ≤ length t
part_le start size t = omega (arith, length-take size (drop start t), length-drop start t)

-- how many bytes a part has at least: a bare address 3, one in `< >` 5, any other part 1
abbrev least : PartKind → ℕ
least Blank = 1
least Comment = 1
least Comma = 1
least Colon = 1
least Semicolon = 1
least Phrase = 1
least Address = 3
least (Angled start size) = 5
least (Alternative start size) = 1
least Stray = 1

-- at most 25 bytes are written for each byte of a part
pieces_le : (rules : Rules) (kind : PartKind) (t : List ℕ) → least kind ≤ length t → length (rendered (pieces rules kind t)) ≤ 25 * length t
unfolding pieces rendered
pieces_le rules Blank t h = zero-le
pieces_le rules Comment t h = omega (arith, comment_le t)
pieces_le rules Comma t h = omega arith
pieces_le rules Colon t h = omega arith
pieces_le rules Semicolon t h = omega arith
pieces_le rules Phrase t h = omega (arith, phrase_le t)
pieces_le rules Address t h = omega (arith, address_le rules piece t (omega arith))
pieces_le rules (Angled start size) t h =
    let a = take size (drop start t) in
    omega (arith, address_le rules in_angles a (angles_le a), part_le start size t)
pieces_le rules (Alternative start size) t h =
    let a = take size (drop start t) in
    one_le (in_angles a) (25 * length t) (omega (arith, angles_le a, part_le start size t))
pieces_le rules Stray t h = zero-le

-- ---- the least lengths

record Enough (s : List ℕ) (f : Front) : Type 0 where
  some : 0 < f.size
  bytes : least f.kind ≤ length (take f.size s)

front_length : (n m : ℕ) (s : List ℕ) → m ≤ n → m ≤ length s → m ≤ length (take n s)
front_length n m s h k = omega (arith, length-take n s)

-- an address has at least 3 bytes, all of them in the text
found_least : {s : List ℕ} (r : Result ℕ ℕ) → Taken 3 s r → 0 < found r → (3 ≤ found r) × (found r ≤ length s)
found_least (Ok n) t h = (t.some, t.covers.within)
found_least (Err n) t h = absurd (not-suc-le-zero h)

address_least : (s : List ℕ) → 0 < address_len s → (3 ≤ address_len s) × (address_len s ≤ length s)
unfolding address_len capped
address_least s =
    cond_has (λ n. 0 < n → (3 ≤ n) × (n ≤ length s)) (leb (found (address_scan s)) 900) (found (address_scan s)) 0
    (λ t h. found_least (address_scan s) (taken_address s) h)
    (λ t h. absurd (not-suc-le-zero h))

part_enough : (rules : Rules) (s : List ℕ) → 0 < length s → Enough s (part_at rules s)
part_enough rules s h = part_has (Enough s) rules s (record {
  none = record { some = omega arith; bytes = one };
  is_blank_lem = λ t. record { some = omega arith; bytes = one };
  comma = λ e. record { some = omega arith; bytes = one };
  colon = λ e. record { some = omega arith; bytes = one };
  semicolon = λ e. record { some = omega arith; bytes = one };
  angled =
      λ start size o close.
      let three : 3 ≤ size = rw o.size_is (address_least (drop start s) (rw o.size_is at o.some)).0 in
      let inside : start + size < length s = byte_within s (start + size) 61 close in
      record { some = omega arith; bytes = front_length (start + size + 1) 5 s (omega (arith, o.start_is)) (omega (arith, o.start_is)) };
  alternative = λ a n inner start size allowed o r. record { some = omega arith; bytes = front_length (start + size + 2) 1 s (omega arith) h };
  comment = λ some runs. record { some = some; bytes = front_length (comment_len s) 1 s some h };
  address = λ some. let a = address_least s some in record { some = some; bytes = front_length (address_len s) 3 s a.0 (omega (arith, a.0, a.1)) };
  phrase = λ some. record { some = some; bytes = front_length (phrase_len s) 1 s some h };
})
  where
    one : 1 ≤ length (take 1 s)
    one = front_length 1 1 s (omega arith) h

-- ---- the parts of a text

abbrev EnoughPart : Part → Type 0
EnoughPart p = least p.kind ≤ length p.text

parts_enough : (rules : Rules) (k : ℕ) (s : List ℕ) → Each EnoughPart (parts_from rules k s)
unfolding parts_from
parts_enough rules k [] = tt
parts_enough rules (suc k) (b ∷ s) = parts_enough rules k s
parts_enough rules zero (b ∷ s) = ((part_enough rules (b ∷ s) (omega arith)).bytes, parts_enough rules (pred (part_at rules (b ∷ s)).size) s)

-- the parts are no longer than the text
parts_length : (rules : Rules) (k : ℕ) (s : List ℕ) → length (text_of (parts_from rules k s)) ≤ length (drop k s)
unfolding parts_from text_of
parts_length rules k [] = zero-le
parts_length rules (suc k) (b ∷ s) = parts_length rules k s
parts_length rules zero (b ∷ s) =
    let f = part_at rules (b ∷ s) in
    rw length-append (omega (arith, (part_enough rules (b ∷ s) (omega arith)).some, parts_length rules (pred f.size) s, length-drop (pred f.size) s, length-take f.size (b ∷ s)))

-- ---- a group that is removed

lost_least : (kind : PartKind) (t : List ℕ) → T (is_lost kind t) → 3 ≤ least kind
unfolding is_lost
lost_least Blank t h = absurd h
lost_least Comment t h = absurd h
lost_least Comma t h = absurd h
lost_least Colon t h = absurd h
lost_least Semicolon t h = absurd h
lost_least Phrase t h = absurd h
lost_least Address t h = omega arith
lost_least (Angled start size) t h = omega arith
lost_least (Alternative start size) t h = absurd h
lost_least Stray t h = absurd h

-- a lost member has at least 3 bytes
lost_length : (ps : List Part) → Each EnoughPart ps → T (any_lost ps) → 3 ≤ length (text_of ps)
unfolding any_lost text_of
lost_length [] e h = absurd h
lost_length (p ∷ ps) e h =
    rw length-append (by_test (is_lost p.kind p.text)
    (λ y. omega (arith, lost_least p.kind p.text y, e.0))
    (λ n. omega (arith, lost_length ps e.1 (rw (no_false (is_lost p.kind p.text) n) at h))))

-- ---- the value

-- at most 25 bytes are written for each byte of the parts
abbrev Written : Rules → List Part → List Turn → Type 0
Written rules ps ts = Each EnoughPart ps → length (rendered (pieces_of rules ts)) ≤ 25 * length (text_of ps)

-- and none for a group that is passed over
abbrev Passing : Rules → List Part → List Turn → Type 0
Passing rules ps ts = Each EnoughPart ps → length (rendered (pieces_of rules ts)) + 25 * length (text_of (inside ps)) ≤ 25 * length (text_of ps)

turns_le : (rules : Rules) → TurnCases (Written rules) (Passing rules)
unfolding pieces_of turn_pieces rendered inside text_of
turns_le rules = record {
  none = λ e. zero-le;
  over = λ e. omega arith;
  group =
      λ p ps ts colon lost more e.
      let t = text_of (inside ps) in
      rw (rendered_append, length-append, length-append)
      (omega (arith, removed_le rules (trimmed t), trimmed_le t, lost_length (inside ps) (each_inside EnoughPart ps e.1) lost, more e.1));
  part = λ p ps ts n more e. rw (rendered_append, length-append, length-append) (omega (arith, pieces_le rules p.kind p.text e.0, more e.1));
  end = λ p ps ts m more e. rw (m, length-append) (omega (arith, more e.1));
  passed = λ p ps ts m more e. rw (m, length-append, length-append) (omega (arith, more e.1));
}

value_le : (rules : Rules) (text : List ℕ) → length (rendered (pieces_of rules (turns_of (parts_of rules text)))) ≤ 25 * length text
unfolding parts_of turns_of
value_le rules text = omega (arith, (turns_have (Written rules) (Passing rules) (turns_le rules) (parts_from rules 0 text)).0 (parts_enough rules 0 text), parts_length rules 0 text)

-- ---- the field

module _ (rules : Rules) (name text : List ℕ) where
  rewritten_le : length (rendered (rewritten_field rules name text)) ≤ 3 + length name + 25 * length text
  unfolding rewritten_field
  rewritten_le = rw (length_named name (pieces_of rules (turns_of (parts_of rules text)))) (omega (arith, value_le rules text))

  copy_le : length (rendered (copy_of rules name text)) ≤ 42 + length name + 3 * length text
  unfolding copy_of rendered
  copy_le =
      cond_has (λ (ss : List Segment). length (rendered ss) ≤ 42 + length name + 3 * length text) (adds_copy rules) (encoded_field true name text) []
      (λ t. length_encoded true name text)
      (λ t. zero-le)

  by_le : (e : Examined) → length (rendered (field_by e rules name text)) ≤ 45 + 2 * length name + 28 * length text
  unfolding field_by
  by_le DoesNotFit = omega (arith, length_encoded true name text)
  by_le Kept = omega (arith, rewritten_le)
  by_le Changed = rw (rendered_append, length-append) (omega (arith, rewritten_le, copy_le))

  -- of every name and text
  pub length_address_field : length (rendered (address_field rules name text)) ≤ 45 + 2 * length name + 28 * length text
  unfolding address_field
  length_address_field = by_le (examined rules text)

  -- of a field of n bytes that has the name, a colon, the text and CRLF
  pub address_field_within : (n : ℕ) → length name + length text + 3 ≤ n → length (rendered (address_field rules name text)) ≤ 30 * n
  address_field_within n h = omega (arith, length_address_field)
