-- A word in Q, as a scan by characters finds where it ends, and the row of a text word by word, each at the front of what is left.
use Rattle.std.specs.Prelude.{◌≡◌, refl, ℕ, ◌+◌, ◌-◌, ◌*◌, ◌/◌, ◌≤◌, ◌<◌, min, leb, length, take, drop, get_or}
use Rattle.std.proofs.Common.{sym, ap, ◌∙◌, arith, leb→le, le→leb, length-take, length-drop, take-add, take_all, drop-drop}
use mathlib.Core.List.{List, ◌∷◌, ◌++◌, nil≢cons}
use Rattle.std.proofs.Math.Facts.{leb_no}
use Rattle.lists.specs.ListsLaws.{by_test}
use Rattle.utf8.specs.Utf8.{char_len, chars}
use Rattle.utf8.specs.Utf8Laws.{chars_at, chars_end, char_len_some}
use Rattle.base64_digits.proofs.Base64Laws.{length_base64}
use Rattle.word_spelling.specs.Spelling.{spell}
use Rattle.word_spelling.specs.Cost.{cost}
use Rattle.word_spelling.specs.SpellingLaws.{length_spell_append}
use Rattle.word_spelling.specs.HighCharLaws.{char_cut}
use Rattle.row.specs.declared.Encoding.{Encoding}
use Rattle.row.specs.declared.Encoding.TheVariants.{Q, B}
use Rattle.row.specs.Word.{spell_in, word}
use Rattle.row.specs.Row.{row}
use Rattle.row.specs.WordEnd.{Span, WordEnd}
use Rattle.row.specs.WordEndLaws.{between}
use Rattle.row.proofs.WordEndLaws.{span_none, span_char, span_join, word_end_q, word_small, line_step, line_more}
use Rattle.word_choice.specs.Choice.{AlsoInQ, Chosen}
use Rattle.word_choice.specs.declared.Choice.{Choice}
use Rattle.word_choice.specs.declared.Choice.TheVariants.{InQ, InB}
use Rattle.word_choice.specs.ChoiceLaws.{bytes_in_b, front_bytes}

-- bytes from place to place, one after another
pub between_join : (s : List ℕ) (i e e' : ℕ) → i ≤ e → e ≤ e' → between s i e' ≡ between s i e ++ between s e e'
between_join s i e e' h k =
    let size : e - i + (e' - e) ≡ e' - i = omega arith in
    let there : i + (e - i) ≡ e = omega arith in
    rw (← size, take-add, drop-drop, there) refl

pub cost_join : (s : List ℕ) (i e e' : ℕ) → i ≤ e → e ≤ e' → cost (between s i e') ≡ cost (between s i e) + cost (between s e e')
cost_join s i e e' h k = ap cost (between_join s i e e' h k) ∙ length_spell_append (between s i e) (between s e e')

-- ---- some characters, or one

-- The next characters from place i on end at place e and take m. Where they take more than what is left, there is one of them.
pub record Stepped (s : List ℕ) (i left e m : ℕ) : Type 0 where
  pub span : Span s i e
  pub more : i < e
  pub size : m ≡ cost (between s i e)
  pub small : m ≤ 63
  pub single : left < m → e ≡ min (i + char_len (get_or s i 0)) (length s)

-- ---- a word in Q

-- It has the characters up to place e, which take n, and the next does not fit.
pub record EndInQ (room : ℕ) (s : List ℕ) (e n : ℕ) : Type 0 where
  pub span : Span s 0 e
  pub size : n ≡ cost (between s 0 e)
  pub small : n ≤ room
  pub full : e < length s → (next : ℕ) → next ≡ min (e + char_len (get_or s e 0)) (length s) → room < n + cost (between s e next)

-- the same so far
pub record SoFarInQ (room : ℕ) (s : List ℕ) (e n : ℕ) : Type 0 where
  pub span : Span s 0 e
  pub size : n ≡ cost (between s 0 e)
  pub small : n ≤ room

pub q_start : (room : ℕ) (s : List ℕ) → SoFarInQ room s 0 0
unfolding spell
q_start room s = record { span = span_none s 0 (omega arith); size = refl; small = omega arith }

module _ {room : ℕ} {s : List ℕ} {e n : ℕ} (q : SoFarInQ room s e n) where
  pub q_on : {left e' m : ℕ} → Stepped s e left e' m → n + m ≤ room → SoFarInQ room s e' (n + m)
  q_on {left} {e'} {m} t h = record {
    span = span_join q.span t.span;
    size = omega (arith, q.size, t.size, cost_join s 0 e e' (omega arith) (omega (arith, t.more)));
    small = h;
  }

  pub q_full : {left e' m : ℕ} → Stepped s e left e' m → left ≡ room - n → left < m → EndInQ room s e n
  q_full {left} {e'} {m} t l h = record {
    span = q.span;
    size = q.size;
    small = q.small;
    full = λ k next j. let same : next ≡ e' = j ∙ sym (t.single h) in rw same (omega (arith, t.size, q.small));
  }

  pub q_end : length s ≤ e → EndInQ room s e n
  q_end h = record { span = q.span; size = q.size; small = q.small; full = λ k. absurd (omega arith) }

-- what B holds, Q holds: so it is the word of the row
pub word_in_q : {room : ℕ} {s : List ℕ} {e n : ℕ} → AlsoInQ room s → EndInQ room s e n → WordEnd room s 0 e Q
word_in_q {room} {s} {e} {n} a q = word_end_q room s 0 e q.span (omega (arith, q.size, q.small)) (λ c cs k. full c cs k)
  where
    not_end : (c : List ℕ) (cs : List (List ℕ)) → chars (drop e s) ≡ c ∷ cs → e < length s
    not_end c cs k =
        by_test (leb (length s) e) (λ t. absurd (nil≢cons (sym (chars_end s e (leb→le (length s) e t)) ∙ k))) (λ t. leb_no {a = length s} {b = e} t)

    head_same : {x y : List ℕ} {xs ys : List (List ℕ)} → x ∷ xs ≡ y ∷ ys → x ≡ y
    head_same j = cc

    full : (c : List ℕ) (cs : List (List ℕ)) → chars (drop e s) ≡ c ∷ cs → (room < cost (between s 0 e) + cost c) × (3 * (room / 4) < e - 0 + length c)
    full c cs k =
        let h = not_end c cs k in
        let next = min (e + char_len (get_or s e 0)) (length s) in
        let same : between s e next ≡ c = char_cut s e next refl ∙ head_same (sym (chars_at s e h) ∙ k) in
        let p : Span s 0 next = span_join q.span (span_char s e next h refl) in
        let over : room < n + cost (between s e next) = q.full h next refl in
        let size : length c ≡ next - e = ap length (sym same) ∙ rw length-take (omega (arith, length-drop e s)) in
        let all : cost (take next s) ≡ n + cost (between s e next) = ap cost (sym (front_bytes s next)) ∙ omega (arith, cost_join s 0 e next (omega arith) (omega (arith, char_len_some (get_or s e 0))), q.size) in (
          omega (arith, over, ap cost same, q.size),
          by_test (leb next (bytes_in_b room))
              (λ t. let small : length (spell_in B (take next s)) ≤ room = omega (arith, length_base64 (take next s), length-take next s, leb→le next (bytes_in_b room) t) in
              absurd (omega (arith, over, all, leb→le (cost (take next s)) room (a.also next p (le→leb (length (spell_in B (take next s))) room small)))))
              (λ t. omega (arith, leb_no {a = next} {b = bytes_in_b room} t, size, char_len_some (get_or s e 0))),
        )

-- ---- a word at the front of what is left

-- the word of a row, in one of the encodings: it ends at place e, and n characters stand between its opening and closing
pub record WordAt (room : ℕ) (s : List ℕ) (e n : ℕ) : Type 0 where
  pub kind : Encoding
  pub end : WordEnd room s 0 e kind
  pub size : n ≡ length (spell_in kind (between s 0 e))

pub word_at_q : {room : ℕ} {s : List ℕ} {e n : ℕ} → AlsoInQ room s → EndInQ room s e n → WordAt room s e n
word_at_q a q = record { kind = Q; end = word_in_q a q; size = q.size }

-- a word in B has 4 characters for each 3 bytes begun
pub word_b_size : {room : ℕ} {s : List ℕ} {e : ℕ} → WordEnd room s 0 e B → length (spell_in B (between s 0 e)) ≡ 4 * ((e + 2) / 3)
word_b_size {room} {s} {e} w =
    length_base64 (between s 0 e) ∙ ap (λ (n : ℕ). 4 * ((n + 2) / 3)) (length-take (e - 0) s ∙ omega (arith, w.span.within))

pub word_at_small : {room : ℕ} {s : List ℕ} {e n : ℕ} → WordAt room s e n → n ≤ room
word_at_small w = omega (arith, w.size, word_small w.end)

-- by the choice, in a room of 63 at most
pub chosen_q : {room : ℕ} {s : List ℕ} {k : Choice} → room ≤ 63 → k ≡ InQ → Chosen (min room 63) s k → AlsoInQ room s
chosen_q {room} {s} h e a = let same : min room 63 ≡ room = omega arith in rw same at (rw e at a)

pub sure_q : {room : ℕ} {s : List ℕ} → room ≤ 63 → AlsoInQ (min room 63) s → AlsoInQ room s
sure_q {room} h a = let same : min room 63 ≡ room = omega arith in rw same at a

pub chosen_b : {room : ℕ} {s : List ℕ} {k : Choice} {e : ℕ} → room ≤ 63 → k ≡ InB e → Chosen (min room 63) s k → WordEnd room s 0 e B
chosen_b {room} {s} h e a = let same : min room 63 ≡ room = omega arith in rw same at (rw e at a)

-- a word in B holds at most 45 bytes
pub word_b_end : {room : ℕ} {s : List ℕ} {e : ℕ} → room ≤ 63 → WordEnd room s 0 e B → e ≤ 45
word_b_end h w = omega (arith, h, word_b_size w, word_small w)

pub word_at_b : {room : ℕ} {s : List ℕ} {e : ℕ} → WordEnd room s 0 e B → WordAt room s e ((e + 2) / 3 * 4)
word_at_b w = record { kind = B; end = w; size = omega (arith, word_b_size w) }

-- what is left of a text, as it is lent
pub rest_is : (s : List ℕ) (i : ℕ) → take (length s - i) (drop i s) ≡ drop i s
rest_is s i = take_all (length s - i) (drop i s) (rw length-drop (omega arith))

-- a word on a line of its own from place i on, and the row of what is left after it
module _ (s : List ℕ) (i : ℕ) {e : ℕ} {k : Encoding} (h : i < length s) (w : WordEnd 63 (take (length s - i) (drop i s)) 0 e k) where
  there : WordEnd 63 (drop i s) 0 e k
  there = rw rest_is at w

  some : 0 < length (drop i s)
  some = rw length-drop (omega arith)

  pub rest_step : row (drop i s) ≡ (13 ∷ 10 ∷ 32 ∷ word k (between (take (length s - i) (drop i s)) 0 e)) ++ row (drop (i + e) s)
  rest_step = rw (rest_is s i, ← drop-drop e i s) (line_step there some)

  pub rest_more : 0 < e
  rest_more = line_more there some

  pub rest_within : i + e ≤ length s
  rest_within = omega (arith, there.span.within, length-drop i s)
