-- Laws of writing a row.
use Rattle.std.specs.Prelude.{◌≡◌, refl, true, not, ◌&&◌, List, [], ◌∷◌, ◌++◌, ℕ, ◌+◌, ◌-◌, ◌*◌, ◌≤◌, ◌<◌, min, length, take, drop, get_or, leb, ltb, eqb}
use Rattle.std.proofs.Common.{sym, ap, ◌∙◌, append-nil, arith, length-take, length-drop, T_not, ltb→lt, le→leb, zero-add, leb-true, ltb-true}
use Rattle.std.proofs.Math.Seq.{take-length}
use Rattle.std.proofs.Math.Facts.{ltb_no}
use Rattle.std.proofs.lemmas.Bool.{eqb-false, not-true}
use Rattle.lists.specs.Lists.{joined}
use Rattle.lists.specs.ListsLaws.{by_test, joined_append}
use Rattle.utf8.specs.Utf8.{char_len, chars}
use Rattle.utf8.specs.Utf8Laws.{chars_at, char_len_le}
use Rattle.buffer.specs.Buffer.{overlay_at, Appended, AppendedCapped, ReachedCapped, Wrote, greatest}
use Rattle.buffer.specs.BufferLaws.{overlay_parts, overlay_front, wrote_from, appended_none, appended_then, appended_of, length_appended, reached_start, reached_then, reached_last, reached_join, reached_within, capped_then, capped_turn}
use Rattle.base64_digits.specs.Base64.{in_base64}
use Rattle.word_spelling.specs.Spelling.{opening, closing, escape, spell_byte, spell}
use Rattle.word_spelling.specs.Cost.{cost}
use Rattle.word_spelling.specs.SpellingLaws.{length_spell, spell_append, spell_high, spell_one, escapes, alone_ascii}
use Rattle.word_spelling.specs.FirstChars.{first_char, first_chars}
use Rattle.word_spelling.specs.FirstCharsLaws.{spelt_alone, cost_alone, first_in}
use Rattle.word_spelling.specs.HighChar.{HighChar}
use Rattle.word_spelling.specs.HighCharLaws.{both, one_byte, escapes_next, whole_take}
use Rattle.row.specs.declared.Encoding.{Encoding}
use Rattle.row.specs.declared.Encoding.TheVariants.{Q, B}
use Rattle.row.specs.Word.{opening_in, word}
use Rattle.row.specs.Row.{encodings, holds, fits_room, row, row_after}
use Rattle.row.proofs.FitsLaws.{or_left, length_word_in}
use Rattle.row.specs.WordEnd.{Span, WordEnd}
use Rattle.row.specs.WordEndLaws.{between}
use Rattle.row.proofs.WordEndLaws.{span_none, span_join, word_small, first_step, first_none}
use Rattle.row.proofs.RowLaws.{row_after_none, length_row_after_le}
use Rattle.word_choice.specs.Choice.{AlsoInQ}
use Rattle.word_choice.specs.EndInQLaws.{Stepped, between_join, cost_join, word_in_q, rest_step, rest_more, rest_within}
use Rattle.row_length.specs.LengthLaws.{stepped_ascii, stepped_join, stepped_high}
use Rattle.encoded_word.specs.Writing.{PutTurn, PutInQ, PutWordInQ, PutWord, PutLine, Begun, Ran}

-- ---- bytes

-- some bytes in the place of as many
pub put_part : (text out ys : List ℕ) (at n : ℕ) → length text ≡ n → at + n ≤ length out → ys ≡ text
    → Appended text at out (take at out ++ (ys ++ drop (at + n - at) (drop at out))) (at + n)
unfolding overlay_at
put_part text out ys at n size fits same =
    let count : at + n - at ≡ length text = omega (arith, size) in
    let all : length text ≡ min (length text) (length (drop at out)) = omega (arith, size, length-drop at out) in
    record {
      place = omega (arith, size);
      bytes = rw (same, count, overlay_parts text (drop at out) (length text) all, take-length) refl;
    }

-- ---- characters

-- those that fit, written
pub put_step : {s : List ℕ} {i left e m at at' left' : ℕ} {before after : List ℕ} (t : List ℕ) → Stepped s i left e m → m ≤ left → left' ≡ left - m
    → spell (between s i e) ≡ t → Appended t at before after at' → PutTurn s i left at before after e left' at'
put_step t p h l e w = record {
  span = p.span;
  spent = omega (arith, p.size, h, l);
  wrote = rw e w;
  stopped = λ k. absurd (omega (arith, p.more, k));
}

-- one that does not
pub put_stop : {s : List ℕ} {i left e m at : ℕ} {before : List ℕ} → Stepped s i left e m → left < m → PutTurn s i left at before before i left at
unfolding spell
put_stop {s} {i} {left} {e} {m} {at} {before} p h =
    let none : i - i ≡ 0 = omega arith in
    record {
      span = span_none s i (omega (arith, p.span.ahead, p.span.within));
      spent = rw none (omega arith);
      wrote = rw none (appended_none at before);
      stopped = λ k next j. let same : next ≡ e = j ∙ sym (p.single h) in rw same (omega (arith, p.size, h));
    }

-- bytes from place to place
spell_join : (s : List ℕ) (i e e' : ℕ) → i ≤ e → e ≤ e' → spell (between s i e') ≡ spell (between s i e) ++ spell (between s e e')
spell_join s i e e' h k = ap spell (between_join s i e e' h k) ∙ spell_append (between s i e) (between s e e')

pub spell_byte_lem : (s : List ℕ) (i : ℕ) → i < length s → spell (between s i (i + 1)) ≡ spell_byte (get_or s i 0)
spell_byte_lem s i h = ap spell (one_byte s i h) ∙ spell_one (get_or s i 0)

-- four that take one character each, by the first characters x, y, z and w of their spellings
module _ (s : List ℕ) where
  -- one of them
  single : (i left x : ℕ) → i < length s → get_or s i 0 < 256 → x ≡ first_char (get_or s i 0) → not (eqb x 61) ≡ true
      → Stepped s i left (i + 1) 1 × (spell (between s i (i + 1)) ≡ x ∷ [])
  single i left x h k f n =
      let other : first_char (get_or s i 0) ≡ 61 → ⊥ = λ j. eqb-false x 61 (not-true (eqb x 61) n) (f ∙ j) in
      let size = cost_alone (get_or s i 0) other in
      (stepped_ascii s i left 1 h (alone_ascii (get_or s i 0) k size) (sym size), spell_byte_lem s i h ∙ spelt_alone (get_or s i 0) other ∙ ap (λ (y : ℕ). y ∷ []) (sym f))

  pub put_singles : (i left at x y z w : ℕ) {before after : List ℕ} {next : ℕ} → leb 4 left && leb 4 (length s - i) ≡ true
      → get_or s i 0 < 256 → get_or s (i + 1) 0 < 256 → get_or s (i + 1 + 1) 0 < 256 → get_or s (i + 1 + 1 + 1) 0 < 256
      → x ≡ first_char (get_or s i 0) → y ≡ first_char (get_or s (i + 1) 0) → z ≡ first_char (get_or s (i + 1 + 1) 0) → w ≡ first_char (get_or s (i + 1 + 1 + 1) 0)
      → not (eqb x 61) && not (eqb y 61) && not (eqb z 61) && not (eqb w 61) ≡ true
      → Appended (x ∷ y ∷ z ∷ w ∷ []) at before after next
      → PutTurn s i left at before after (i + 1 + 1 + 1 + 1) (left - 4) next
  put_singles i left at x y z w room ka kb kc kd px py pz pw none v =
      let p = both (leb 4 left) (leb 4 (length s - i)) room in
      let roomy = leb-true 4 left p.0 in
      let long = leb-true 4 (length s - i) p.1 in
      let n1 = both (not (eqb x 61) && not (eqb y 61) && not (eqb z 61)) (not (eqb w 61)) none in
      let n2 = both (not (eqb x 61) && not (eqb y 61)) (not (eqb z 61)) n1.0 in
      let n3 = both (not (eqb x 61)) (not (eqb y 61)) n2.0 in
      let a = single i left x (omega arith) ka px n3.0 in
      let b = single (i + 1) left y (omega arith) kb py n3.1 in
      let c = single (i + 1 + 1) left z (omega arith) kc pz n2.1 in
      let d = single (i + 1 + 1 + 1) left w (omega arith) kd pw n1.1 in
      let ab = stepped_join a.0 b.0 (omega arith) (omega arith) in
      let abc = stepped_join ab c.0 (omega arith) (omega arith) in
      put_step (x ∷ y ∷ z ∷ w ∷ []) (stepped_join abc d.0 (omega arith) (omega arith)) (omega arith) refl
      (spell_join s i (i + 1 + 1 + 1) (i + 1 + 1 + 1 + 1) (omega arith) (omega arith)
      ∙ rw (d.1, spell_join s i (i + 1 + 1) (i + 1 + 1 + 1) (omega arith) (omega arith), c.1, spell_join s i (i + 1) (i + 1 + 1) (omega arith) (omega arith), a.1, b.1) refl)
      v

-- the same by the table of first characters
module _ (s first : List ℕ) (e : first ≡ first_chars) where
  pub put_alone : (i left at x y z w : ℕ) {before after : List ℕ} {next : ℕ} → leb 4 left && leb 4 (length s - i) ≡ true
      → get_or s i 0 < 256 → get_or s (i + 1) 0 < 256 → get_or s (i + 1 + 1) 0 < 256 → get_or s (i + 1 + 1 + 1) 0 < 256
      → x ≡ get_or first (get_or s i 0) 0 → y ≡ get_or first (get_or s (i + 1) 0) 0 → z ≡ get_or first (get_or s (i + 1 + 1) 0) 0 → w ≡ get_or first (get_or s (i + 1 + 1 + 1) 0) 0
      → not (eqb x 61) && not (eqb y 61) && not (eqb z 61) && not (eqb w 61) ≡ true
      → Appended (x ∷ y ∷ z ∷ w ∷ []) at before after next
      → PutTurn s i left at before after (i + 1 + 1 + 1 + 1) (left - 4) next
  put_alone i left at x y z w room ka kb kc kd px py pz pw none v =
      put_singles s i left at x y z w room ka kb kc kd
      (first_in (get_or s i 0) e ka px)
      (first_in (get_or s (i + 1) 0) e kb py)
      (first_in (get_or s (i + 1 + 1) 0) e kc pz)
      (first_in (get_or s (i + 1 + 1 + 1) 0) e kd pw)
      none v

-- a character that is whole and of which no byte is ASCII; what it is written as, `t`, are its escapes
pub put_high_lem : (s : List ℕ) (i left at r : ℕ) → 0 < r → HighChar s i r → {before after : List ℕ} {next left' : ℕ} (t : List ℕ)
    → escapes (take r (drop i s)) ≡ t → 3 * r ≤ left → left' ≡ left - 3 * r → Appended t at before after next
    → PutTurn s i left at before after (i + r) left' next
put_high_lem s i left at r hr k t ht h l w =
    put_step t (stepped_high hr k) h l (ap spell (whole_take hr k) ∙ spell_high (take r (drop i s)) (k.bytes hr) ∙ ht) w

-- the escapes of characters of two, three and four bytes
module _ (s : List ℕ) (i : ℕ) where
  pub escapes_two : i + 2 ≤ length s → escapes (take 2 (drop i s)) ≡ escape (get_or s i 0) ++ escape (get_or s (i + 1) 0)
  escapes_two h = escapes_next s i 1 (i + 1) refl (omega arith) ∙ rw (escapes_next s i 0 i (omega arith) (omega arith))

  pub escapes_three : i + 3 ≤ length s
      → escapes (take 3 (drop i s)) ≡ (escape (get_or s i 0) ++ escape (get_or s (i + 1) 0)) ++ escape (get_or s (i + 1 + 1) 0)
  escapes_three h = escapes_next s i 2 (i + 1 + 1) (omega arith) (omega arith) ∙ rw (escapes_two (omega arith))

  pub escapes_four : i + 4 ≤ length s
      → escapes (take 4 (drop i s)) ≡ ((escape (get_or s i 0) ++ escape (get_or s (i + 1) 0)) ++ escape (get_or s (i + 1 + 1) 0)) ++ escape (get_or s (i + 1 + 1 + 1) 0)
  escapes_four h = escapes_next s i 3 (i + 1 + 1 + 1) (omega arith) (omega arith) ∙ rw (escapes_three (omega arith))

-- ---- a word in Q

-- what a loop over its characters has written so far
pub record PutSoFar (room : ℕ) (s : List ℕ) (at : ℕ) (before after : List ℕ) (e left at' : ℕ) : Type 0 where
  pub span : Span s 0 e
  pub spent : room ≡ left + cost (between s 0 e)
  pub wrote : Appended (spell (between s 0 e)) at before after at'

pub put_start : (room : ℕ) (s : List ℕ) (at : ℕ) (before : List ℕ) → PutSoFar room s at before before 0 room at
unfolding spell
put_start room s at before = record { span = span_none s 0 (omega arith); spent = omega arith; wrote = appended_none at before }

module _ {room : ℕ} {s : List ℕ} {at : ℕ} {before mid : List ℕ} {e left n : ℕ} (q : PutSoFar room s at before mid e left n) where
  -- with what is left of the room, the place is where the whole room ends
  pub put_place : n + left ≡ at + room
  put_place = omega (arith, q.wrote.place, q.spent)

  pub put_length : length mid ≡ length before
  put_length = length_appended q.wrote

  pub put_on : {after : List ℕ} {e' left' n' : ℕ} → PutTurn s e left n mid after e' left' n' → PutSoFar room s at before after e' left' n'
  put_on {after} {e'} t = record {
    span = span_join q.span t.span;
    spent = omega (arith, q.spent, t.spent, cost_join s 0 e e' (omega arith) t.span.ahead);
    wrote = rw (spell_join s 0 e e' (omega arith) t.span.ahead) (appended_then q.wrote t.wrote);
  }

  pub put_end : length s ≤ e → PutInQ room s at before mid e n
  put_end h = record {
    end = record { span = q.span; size = refl; small = omega (arith, q.spent); full = λ k. absurd (omega arith) };
    wrote = q.wrote;
  }

  -- the next character does not fit
  pub put_full : {after : List ℕ} {e' left' n' : ℕ} → PutTurn s e left n mid after e' left' n' → e' ≡ e → PutInQ room s at before after e n'
  put_full {after} {e'} t h =
      let w = put_on t in
      record {
        end = record { span = q.span; size = refl; small = omega (arith, q.spent); full = λ k next j. omega (arith, t.stopped h next j, q.spent) };
        wrote = rw h at w.wrote;
      }

-- its opening, its characters and its closing
pub word_written : {s : List ℕ} {at a n r e room : ℕ} {before started mid after : List ℕ} → Appended opening at before started a
    → PutInQ room s a started mid e n → Appended closing n mid after r → PutWordInQ room s at before after e r
unfolding word
word_written {s} {e = e} o p c = record {
  end = p.end;
  wrote = appended_then o (appended_then p.wrote c);
}

-- ---- a word

pub word_written_b : (bytes : List ℕ) {at a n r : ℕ} {before started mid after : List ℕ} → Appended (opening_in B) at before started a
    → AppendedCapped (in_base64 bytes) a started mid n → a + length (in_base64 bytes) ≤ greatest → Appended closing n mid after r → Appended (word B bytes) at before after r
unfolding word
word_written_b bytes o p h c = appended_then o (appended_then (appended_of p h) c)

-- by the choice
pub put_word_q : {room : ℕ} {s : List ℕ} {at : ℕ} {before after : List ℕ} {e n : ℕ} → AlsoInQ room s → PutWordInQ room s at before after e n
    → PutWord room s at before after e n
put_word_q a w = record { kind = Q; end = word_in_q a w.end; wrote = w.wrote }

pub put_word_b : {room : ℕ} {s : List ℕ} {at : ℕ} {before after : List ℕ} {e n : ℕ} → WordEnd room s 0 e B → Appended (word B (between s 0 e)) at before after n
    → PutWord room s at before after e n
put_word_b w a = record { kind = B; end = w; wrote = a }

-- a word is no longer than its room and 12
pub word_length : {room : ℕ} {s : List ℕ} {at : ℕ} {before after : List ℕ} {e n : ℕ} → PutWord room s at before after e n → n ≤ at + 12 + room
word_length {s = s} {e = e} w = omega (arith, w.wrote.place, length_word_in w.kind (between s 0 e), word_small w.end)

pub line_length : {s : List ℕ} {at : ℕ} {before after : List ℕ} {e n : ℕ} → PutLine s at before after e n → n ≤ at + 78
line_length {s = s} {e = e} w = omega (arith, w.wrote.place, length_word_in w.kind (between s 0 e), word_small w.end)

pub line_written : {s : List ℕ} {at a r e : ℕ} {before started after : List ℕ} → Appended (13 ∷ 10 ∷ 32 ∷ []) at before started a
    → PutWord 63 s a started after e r → PutLine s at before after e r
line_written o w = record { kind = w.kind; end = w.end; wrote = appended_then o w.wrote }

-- ---- what is written into a piece of its own, and copied from there

pub copied : {text piece piece' before after : List ℕ} {n at r : ℕ} → Appended text 0 piece piece' n → n ≤ length piece
    → AppendedCapped (take n piece') at before after r → AppendedCapped text at before after r
copied {text} {piece} {piece'} {n = n} w h a =
    let o = wrote_from w in
    let same : take n piece' ≡ text = rw (o.size, o.bytes) (overlay_front text piece (omega (arith, o.size))) in
    rw same at a

-- ---- the name's line

module _ (column : ℕ) (s : List ℕ) where
  nothing : (before : List ℕ) → row_after column s ≡ row s → Begun column s before before 0 0
  nothing before e = record { within = omega arith; reached = rw e (reached_start (row s) 0 before) }

  pub begun_none : (before : List ℕ) → 63 ≤ column → Begun column s before before 0 0
  begun_none before h = nothing before (row_after_none column s h)

  module _ {piece piece' : List ℕ} {e n : ℕ} (w : PutWord (63 - column) s 0 piece piece' e n) where
    pub begun_empty : (before : List ℕ) → e ≡ 0 → Begun column s before before 0 0
    begun_empty before h = nothing before (first_none column w.end h)

    pub begun_word : {before mid after : List ℕ} {a r : ℕ} → 0 < e → length before ≤ greatest → n ≤ length piece
        → AppendedCapped (32 ∷ []) 0 before mid a → AppendedCapped (take n piece') a mid after r → Begun column s before after e r
    begun_word {before} {mid} {after} {a} {r} h k l v c =
        let text : List ℕ = 32 ∷ word w.kind (between s 0 e) in
        let all : AppendedCapped text 0 before after r = capped_then v (copied w.wrote l c) k in
        let size : length text ≤ 76 = omega (arith, length_word_in w.kind (between s 0 e), word_small w.end) in
        record {
          within = w.end.span.within;
          reached = reached_then text (row (drop e s)) (reached_start (row_after column s) 0 before) (first_step column w.end h) (appended_of all (omega arith));
        }

-- a room of 24 holds any character in Q
some_fits : (room : ℕ) (s : List ℕ) {e : ℕ} {k : Encoding} → WordEnd room s 0 e k → 24 ≤ room → 0 < length s → 0 < e
some_fits room s {e} w h l =
    by_test (ltb 0 e) (λ t. ltb→lt 0 e t)
    (λ t. let none : e ≡ 0 = omega (arith, ltb_no {a = 0} {b = e} t) in
    let c = take (char_len (get_or s 0 0)) s in
    let next : chars (drop e s) ≡ c ∷ chars (drop (char_len (get_or s 0 0)) s) = rw none (chars_at s 0 l ∙ rw zero-add refl) in
    let p = w.span in
    let bytes : joined (p.run ++ (c ∷ [])) ≡ c = rw (joined_append p.run (c ∷ []), p.bytes, none, append-nil) refl in
    let cheap : cost c ≤ room = omega (arith, length_spell c, length-take (char_len (get_or s 0 0)) s, char_len_le (get_or s 0 0)) in
    absurd (T_not (fits_room encodings room 0 (p.run ++ (c ∷ []))) (w.full c _ next)
    (rw bytes (or_left (holds room c Q) _ (le→leb (cost c) room cheap)))))

-- straight into the buffer
pub begun_here : {column : ℕ} {s : List ℕ} {e r : ℕ} {before mid after : List ℕ} → column ≤ 39 → 0 < length s → Appended (32 ∷ []) 0 before mid 1
    → PutWord (63 - column) s 1 mid after e r → Begun column s before after e r
begun_here {column} {s} {e} {before = before} h l v w = record {
  within = w.end.span.within;
  reached = reached_then (32 ∷ word w.kind (between s 0 e)) (row (drop e s)) (reached_start (row_after column s) 0 before)
      (first_step column w.end (some_fits (63 - column) s w.end (omega arith) l)) (appended_then v w.wrote);
}

-- the tests for that
pub straight : (column n m : ℕ) → leb column 39 && ltb 0 n && leb 76 m ≡ true → (column ≤ 39) × (0 < n) × (76 ≤ m)
straight column n m e =
    let p = both (leb column 39 && ltb 0 n) (leb 76 m) e in
    let q = both (leb column 39) (ltb 0 n) p.0 in
    (leb-true column 39 q.0, ltb-true 0 n q.1, leb-true 76 m p.1)

-- ---- lines

pub ran_start : (s : List ℕ) (i at : ℕ) (before : List ℕ) → i ≤ length s → Ran s i at before before i at
ran_start s i at before h = record { within = h; reached = reached_start (row (drop i s)) at before }

-- a line more
pub ran_on : {s : List ℕ} {i₀ at₀ i at e at' : ℕ} {before mid after : List ℕ} → Ran s i₀ at₀ before mid i at → i < length s
    → PutLine (take (length s - i) (drop i s)) at mid after e at' → Ran s i₀ at₀ before after (i + e) at'
ran_on {s} {i = i} {e = e} g h w = record {
  within = rest_within s i h w.end;
  reached = reached_then _ (row (drop (i + e) s)) g.reached (rest_step s i h w.end) w.wrote;
}

-- it has something
pub line_some : (s : List ℕ) (i : ℕ) {at e at' : ℕ} {mid after : List ℕ} → i < length s → PutLine (take (length s - i) (drop i s)) at mid after e at'
    → (0 < e) × (i + e ≤ length s)
line_some s i h w = (rest_more s i h w.end, rest_within s i h w.end)

-- a line more, copied
pub copied_on : (s : List ℕ) (i : ℕ) {whole : List ℕ} {start at e n r : ℕ} {before mid after piece piece' : List ℕ} → ReachedCapped whole (row (drop i s)) start before mid at
    → i < length s → PutLine (take (length s - i) (drop i s)) 0 piece piece' e n → n ≤ length piece → AppendedCapped (take n piece') at mid after r → length before ≤ greatest
    → ReachedCapped whole (row (drop (i + e) s)) start before after r
copied_on s i g h w l c k = capped_turn g (rest_step s i h w.end) (copied w.wrote l c) k

-- the test of the loop that writes
pub looping : (i n at last : ℕ) → ltb i n && leb at last ≡ true → (i < n) × (at ≤ last)
looping i n at last e = let p = both (ltb i n) (leb at last) e in (ltb-true i n p.0, leb-true at last p.1)

-- the whole row
pub row_written : {column : ℕ} {s before begun mid after : List ℕ} {i a j n r : ℕ} → length s ≤ 4294967296 → Begun column s before begun i a
    → Ran s i a begun mid j n → AppendedCapped (row (drop j s)) n mid after r → Wrote (row_after column s) before after r
row_written {column} {s} {j = j} {n} h b g c =
    let all = reached_join b.reached g.reached in
    wrote_from (reached_last all (appended_of c (omega (arith, reached_within all, length_row_after_le column s))))
