-- Laws of the choice: what tells that Q holds whatever B holds, and that a word in B ends.
use Rattle.std.specs.Prelude.{◌≡◌, refl, ℕ, ◌+◌, ◌-◌, ◌*◌, ◌/◌, ◌≤◌, ◌<◌, min, T, take, drop}
use Rattle.std.proofs.Common.{sym, ap, ◌∙◌, arith, leb→le, le→leb, lt→ltb, length-append, length-take, length-drop, take_all}
use Rattle.std.proofs.Math.Bool.{true, false}
use mathlib.Core.List.{List, [], ◌∷◌, ◌++◌, append-nil, nil≢cons}
use Rattle.std.proofs.Math.Dec.{leb, ltb}
use Rattle.std.proofs.Math.Facts.{no_leb, no_ltb}
use Rattle.std.proofs.Math.ListN.{length, get_or}
use Rattle.lists.specs.Lists.{joined}
use Rattle.lists.specs.ListsLaws.{yes_true, no_false}
use Rattle.utf8.specs.Utf8.{char_len, chars}
use Rattle.utf8.specs.Utf8Laws.{chars_at, chars_end, chars_joined, char_len_some}
use Rattle.base64_digits.proofs.Base64Laws.{length_base64}
use Rattle.word_spelling.specs.Cost.{cost}
use Rattle.word_spelling.specs.SpellingLaws.{length_spell}
use Rattle.row.specs.declared.Encoding.TheVariants.{B}
use Rattle.row.specs.Row.{holds}
use Rattle.row.specs.WordEnd.{Span, WordEnd}
use Rattle.row.specs.WordEndLaws.{between}
use Rattle.row.proofs.WordEndLaws.{span_char, span_join, length_span, word_end_b}
use Rattle.word_choice.specs.Choice.{AlsoInQ}
use Rattle.word_choice.specs.Block.{other, count, surely_in_q}
use Rattle.word_choice.specs.BlockLaws.{count_front, others_cost, highs_cost, cost_front}

-- the most bytes that a word in B holds
abbrev pub bytes_in_b : ℕ → ℕ
bytes_in_b room = 3 * (room / 4)

-- as many characters as so many bytes hold end at place e
pub record FullInB (limit : ℕ) (s : List ℕ) (e : ℕ) : Type 0 where
  pub span : Span s 0 e
  pub small : e ≤ limit
  pub full : (c : List ℕ) (cs : List (List ℕ)) → chars (drop e s) ≡ c ∷ cs → limit < e + length c

pub front_bytes : (s : List ℕ) (e : ℕ) → between s 0 e ≡ take e s
front_bytes s e = let same : e - 0 ≡ e = omega arith in rw same refl

-- ---- in Q

-- what B holds is no longer than it can hold
held_in_b : (room : ℕ) (s : List ℕ) (e : ℕ) → Span s 0 e → T (holds room (take e s) B) → e ≤ bytes_in_b room
held_in_b room s e p t =
    let size : length (take e s) ≡ e = length-take e s ∙ omega (arith, p.within) in
    omega (arith, size, length_base64 (take e s), leb→le _ room t)

-- the first n bytes take no more than the room, and B holds none past them
pub also_in_q : (room : ℕ) (s : List ℕ) (n : ℕ) → cost (take n s) ≤ room → ((e : ℕ) → Span s 0 e → e ≤ bytes_in_b room → e ≤ n) → AlsoInQ room s
also_in_q room s n h far = record {
  also = λ e p t. le→leb (cost (take e s)) room (omega (arith, cost_front s e n (far e p (held_in_b room s e p t)), h));
}

module _ (room : ℕ) (s : List ℕ) where
  -- the whole text, three characters for each byte
  pub also_short : 3 * length s ≤ room → AlsoInQ room s
  also_short h =
      let all : take (length s) s ≡ s = take_all (length s) s (omega arith) in
      also_in_q room s (length s) (rw all (omega (arith, length_spell s))) (λ e p k. p.within)

  -- the whole text
  pub also_whole : cost s ≤ room → AlsoInQ room s
  also_whole h =
      let all : take (length s) s ≡ s = take_all (length s) s (omega arith) in
      also_in_q room s (length s) (rw all h) (λ e p k. p.within)

  -- few bytes of the first 48 that are neither letters, digits nor spaces
  pub also_plain : bytes_in_b room ≤ 48 → bytes_in_b room + 2 * count other (take 48 s) ≤ room → AlsoInQ room s
  also_plain h k =
      let n = bytes_in_b room in
      also_in_q room s n
      (omega (arith, k, others_cost (take n s), length-take n s, count_front other s n 48 h)) (λ e p j. j)

-- of two places where characters end, up to the limit, the last cannot be passed
order : (p q x y : List (List ℕ)) (k limit : ℕ) → p ++ x ≡ q ++ y → ((c : List ℕ) (cs : List (List ℕ)) → x ≡ c ∷ cs → limit < k + length (joined p) + length c)
    → k + length (joined q) ≤ limit → length (joined q) ≤ length (joined p)
order p [] x y k limit e full h = omega arith
order [] (c ∷ q) x y k limit e full h = absurd (omega (arith, full c (q ++ y) e, h, length-append c (joined q)))
order (a ∷ p) (c ∷ q) x y k limit e full h =
    let same : a ≡ c = cc in
    let more : p ++ x ≡ q ++ y = cc in
    let size = ap length same in
    omega (
      arith,
      length-append a (joined p),
      length-append c (joined q),
      size,
      order p q x y (k + length a) limit more (λ d ds f. omega (arith, full d ds f, length-append a (joined p))) (omega (arith, h, length-append c (joined q), size)),
    )

pub last_in_b : {limit : ℕ} {s : List ℕ} {b : ℕ} → FullInB limit s b → (e : ℕ) → Span s 0 e → e ≤ limit → e ≤ b
last_in_b {limit} {s} {b} f e p h =
    omega (
      arith,
      length_span f.span,
      length_span p,
      order f.span.run p.run (chars (drop b s)) (chars (drop e s)) 0 limit (sym f.span.joins ∙ p.joins)
          (λ c cs k. omega (arith, f.full c cs k, length_span f.span)) (omega (arith, length_span p)),
    )

-- the characters that B holds
pub also_full : {room limit : ℕ} {s : List ℕ} {b : ℕ} → limit ≡ bytes_in_b room → FullInB limit s b → cost (between s 0 b) ≤ room → AlsoInQ room s
also_full {room} {limit} {s} {b} l f h = also_in_q room s b (rw front_bytes at h) (λ e p k. last_in_b f e p (omega arith))

-- ---- in B

pub word_in_b : {room limit : ℕ} {s : List ℕ} {e : ℕ} → limit ≡ bytes_in_b room → FullInB limit s e → room < cost (between s 0 e) → WordEnd room s 0 e B
word_in_b {room} {limit} {s} {e} l f h = word_end_b room s 0 e f.span h (omega (arith, f.small)) (λ c cs k. omega (arith, f.full c cs k))

-- the whole text
pub span_all : (s : List ℕ) → Span s 0 (length s)
span_all s = record {
  run = chars s;
  ahead = omega arith;
  within = omega arith;
  joins = rw (chars_end s (length s) (omega arith)) (sym (append-nil (chars s)));
  bytes = chars_joined s ∙ sym (front_bytes s (length s) ∙ take_all (length s) s (omega arith));
}

pub full_all : (limit : ℕ) (s : List ℕ) → length s ≤ limit → FullInB limit s (length s)
full_all limit s h = record {
  span = span_all s;
  small = h;
  full = λ c cs k. absurd (nil≢cons (sym (chars_end s (length s) (omega arith)) ∙ k));
}

-- many bytes of the first 32 that are not ASCII
pub highs_over : (room : ℕ) (s : List ℕ) (e : ℕ) → 32 ≤ e → 32 ≤ length s → room < 32 + 2 * count (λ b. leb 128 b) (take 32 s) → room < cost (between s 0 e)
highs_over room s e h k t = rw front_bytes (omega (arith, t, highs_cost (take 32 s), length-take 32 s, cost_front s 32 e h))

-- a text that B holds whole, by what it takes in Q
pub all_in_b : {room : ℕ} (s : List ℕ) → length s ≤ bytes_in_b room → room < cost s → WordEnd room s 0 (length s) B
all_in_b {room} s h k =
    word_in_b refl (full_all (bytes_in_b room) s h) (rw (front_bytes s (length s), take_all (length s) s (omega arith)) k)

-- ---- a scan by characters

module _ {s : List ℕ} {e : ℕ} (p : Span s 0 e) where
  -- up to the end of the text
  pub full_end : (limit : ℕ) → e ≤ limit → length s ≤ e → FullInB limit s e
  full_end limit h k = record { span = p; small = h; full = λ c cs j. absurd (nil≢cons (sym (chars_end s e k) ∙ j)) }

  module _ (next : ℕ) (h : e < length s) (n : next ≡ min (e + char_len (get_or s e 0)) (length s)) where
    -- up to a character that does not fit
    pub full_stop : (limit : ℕ) → e ≤ limit → limit < next → FullInB limit s e
    full_stop limit k over = record {
      span = p;
      small = k;
      full = λ c cs j. let same : take (char_len (get_or s e 0)) (drop e s) ≡ c = head_same (sym (chars_at s e h) ∙ j) in
          omega (arith, over, n, ap length (sym same), length-take (char_len (get_or s e 0)) (drop e s), length-drop e s);
    }
      where
        head_same : {x y : List ℕ} {xs ys : List (List ℕ)} → x ∷ xs ≡ y ∷ ys → x ≡ y
        head_same q = cc

    -- past one that does
    pub span_on : Span s 0 next
    span_on = span_join p (span_char s e next h n)

    pub char_more : e < next
    char_more = omega (arith, n, char_len_some (get_or s e 0))

-- ---- the short test

module _ (room : ℕ) (s : List ℕ) where
  pub sure_short : length s < 48 → false ≡ surely_in_q room s
  unfolding surely_in_q
  sure_short h = let no : leb 48 (length s) ≡ false = no_false (leb 48 (length s)) (no_leb {a = 48} {b = length s} h) in rw no

  module _ (h : 48 ≤ length s) where
    there : leb 48 (length s) ≡ true
    there = yes_true (leb 48 (length s)) (le→leb 48 (length s) h)

    pub sure_high : 128 ≤ get_or s 0 0 → false ≡ surely_in_q room s
    unfolding surely_in_q
    sure_high k = let no : ltb (get_or s 0 0) 128 ≡ false = no_false (ltb (get_or s 0 0) 128) (no_ltb {a = get_or s 0 0} {b = 128} k) in rw (there, no)

    pub sure_by : get_or s 0 0 < 128 → (n : ℕ) → n ≡ count other (take 48 s) → leb (room / 4 * 3 + 2 * n) room ≡ surely_in_q room s
    unfolding surely_in_q
    sure_by k n e = let low : ltb (get_or s 0 0) 128 ≡ true = yes_true (ltb (get_or s 0 0) 128) (lt→ltb (get_or s 0 0) 128 k) in rw (there, low, e)
