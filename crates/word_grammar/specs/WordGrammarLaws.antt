-- A word read by a function is read as the grammar says, both ways round.
use Rattle.std.specs.Prelude.{◌≡◌, ◌≢◌, Bool, true, false, not, cond, ◌&&◌, ◌||◌, ℕ, zero, suc, pred, ◌+◌, ◌-◌, ◌*◌, ◌/◌, ◌%◌, ◌≤◌, ◌<◌, T, eqb, leb, length, drop}
use Rattle.std.proofs.Math.Path.{refl, ap}
use Rattle.std.proofs.Common.{sym, ◌∙◌, not-suc-le-zero, add-zero, arith, eqb→eq, le→leb, length-append, length-take, length-drop, take-append-drop, drop_of_length-le, take_at, drop_at, drop-cons, get_or-take, get_or-drop, drop-drop, length-take-le, ne_eqb, eq-eqb}
use mathlib.Core.List.{List, [], ◌∷◌, ◌++◌, append_assoc}
use Rattle.std.proofs.Math.Option.{Option, none, some}
use Rattle.std.proofs.Math.ListN.{take, get_or, get_or-eq_default}
use Rattle.std.proofs.lemmas.List.{get_or_at}
use Rattle.std.proofs.Math.Seq.{get_or-append-add, drop-append-add, get_or-append_seam, split_at}
use Rattle.std.proofs.Math.Facts.{and_yes, yes_and, leb_yes, leb_no, eqb_no}
use Rattle.lists.specs.Lists.{all}
use Rattle.lists.specs.ListsLaws.{by_test, cond_yes, cond_no, cond_has, yes_true, no_false, true_yes}
use Rattle.lists.specs.Byte.{within}
use Rattle.lists.specs.ByteLaws.{within_low, within_high, to_within}
use Rattle.lists.specs.Run.{run}
use Rattle.lists.specs.RunLaws.{run_past, run_all, run_le}
use Rattle.letter_case.specs.LetterCase.{bytes, lower, same_any_case}
use Rattle.utf8.specs.Utf8.{utf8}
use Rattle.base64_digits.specs.Reading.{is_digit64, value64, from_quad, from_three, from_two, from_last, together, from_base64}
use Rattle.base64_digits.specs.Grammar.{FromBase64}
use Rattle.base64_digits.proofs.GrammarLaws.{grammar_read, read_grammar}
use Rattle.row.specs.declared.Encoding.{Encoding}
use Rattle.row.specs.declared.Encoding.TheVariants.{Q, B}
use Rattle.row.specs.Layout.{any_case_value, Adds, AddsIn}
use Rattle.word_reader.specs.Each.{each_after, each}
use Rattle.word_reader.specs.Word.{unit_size, is_any_hex, any_hex, unit_byte, unit_ok, q_text, q_ok, first_of, second_of, third_of, quad_ok, last_ok, last_text, b_text, b_ok, is_word, inner, not_question, charset_len, is_parted, letter, standing, text_ok, text_of, is_utf8_charset, added, form_number}
use Rattle.word_grammar.specs.WordGrammar.{small_letter, Decodes, WordShows}

-- ---- Q

some_same : {a b : ℕ} → some a ≡ some b → a ≡ b
some_same e = cc

none_some : {a : ℕ} → none ≡ some a → ⊥
none_some e = let z : ◌≡◌ {A = ℕ} 0 1 = cc in omega arith

any_hex_lem : (b v : ℕ) → any_case_value b ≡ some v → (is_any_hex b ≡ true) × (any_hex b ≡ v)
unfolding any_case_value is_any_hex any_hex
any_hex_lem b v e =
    by_test (within 48 57 b)
    (λ t. let f = yes_true (within 48 57 b) t in (rw f refl, rw f (some_same (rw f at e))))
    (λ t. let f = no_false (within 48 57 b) t in by_test (within 65 70 b)
    (λ u. let g = yes_true (within 65 70 b) u in (rw (f, g) refl, rw (f, g) (some_same (rw (f, g) at e))))
    (λ u. let g = no_false (within 65 70 b) u in by_test (within 97 102 b)
    (λ v. let k = yes_true (within 97 102 b) v in (rw (f, g, k) refl, rw (f, g, k) (some_same (rw (f, g, k) at e))))
    (λ v. let k = no_false (within 97 102 b) v in absurd (none_some (rw (f, g, k) at e)))))

hex_any : (b : ℕ) → T (is_any_hex b) → any_case_value b ≡ some (any_hex b)
unfolding any_case_value is_any_hex any_hex
hex_any b t =
    by_test (within 48 57 b) (λ u. rw (yes_true (within 48 57 b) u) refl)
    (λ u. let f = no_false (within 48 57 b) u in by_test (within 65 70 b) (λ v. rw (f, yes_true (within 65 70 b) v) refl)
    (λ v. let g = no_false (within 65 70 b) v in by_test (within 97 102 b) (λ w. rw (f, g, yes_true (within 97 102 b) w) refl)
    (λ w. absurd (rw (f, g, no_false (within 97 102 b) w) at t))))

-- what stands in a word in Q has no fault, and its text is what it adds
adds_q : {s t : List ℕ} → Adds s t → (q_ok s ≡ true) × (q_text s ≡ t)
unfolding q_ok q_text each_after unit_size unit_byte unit_ok
adds_q Adds.nothing = (refl, refl)
adds_q (Adds.underscore a) = let k = adds_q a in (k.0, ap (λ (l : List ℕ). 32 ∷ l) k.1)
adds_q (Adds.hex {first} {second} {high} {low} p q a) =
    let k = adds_q a in
    let x = any_hex_lem first high p in
    let y = any_hex_lem second low q in
    (rw (x.0, y.0) k.0, rw (x.1, y.1, k.1) refl)
adds_q (Adds.itself {b} l h q e u a) =
    let k = adds_q a in
    let r = yes_true (within 33 126 b) (to_within 33 126 b l h) in
    (rw (ne_eqb b 61 e, r, ne_eqb b 63 q) k.0, rw (ne_eqb b 61 e, ne_eqb b 95 u, k.1) refl)

-- and the other way round
one_text : (b : ℕ) (s : List ℕ) → T (not (eqb b 61)) → (q_text (b ∷ s) ≡ unit_byte (b ∷ s) ∷ q_text s) × (q_ok (b ∷ s) ≡ unit_ok (b ∷ s) && q_ok s)
unfolding q_ok q_text each_after unit_size
one_text b s n = rw (no_false (eqb b 61) n) (refl, refl)

one_adds : (b : ℕ) {s t : List ℕ} → T (not (eqb b 61)) → T (unit_ok (b ∷ s)) → Adds s t → Adds (b ∷ s) (unit_byte (b ∷ s) ∷ t)
unfolding unit_byte unit_ok
one_adds b n k a =
    by_test (eqb b 95)
    (λ u. rw (eqb→eq b 95 u) (Adds.underscore a))
    (λ u.
    let both = and_yes (within 33 126 b) (not (eqb b 63)) (rw (no_false (eqb b 61) n) at k) in
    rw (no_false (eqb b 61) n, no_false (eqb b 95) u)
    (Adds.itself (within_low 33 126 b both.0) (within_high 33 126 b both.0) (eqb_no {a = b} {b = 63} both.1) (eqb_no {a = b} {b = 61} n) (eqb_no {a = b} {b = 95} u) a))

one_step : (b : ℕ) (s : List ℕ) → T (not (eqb b 61)) → T (q_ok (b ∷ s)) → (T (q_ok s) → Adds s (q_text s)) → Adds (b ∷ s) (q_text (b ∷ s))
one_step b s n t f =
    let e = one_text b s n in
    let both = and_yes (unit_ok (b ∷ s)) (q_ok s) (rw e.1 at t) in
    rw e.0 (one_adds b n both.0 (f both.1))

hex_step : (x y : ℕ) (s : List ℕ) → T (q_ok (61 ∷ x ∷ y ∷ s)) → (T (q_ok s) → Adds s (q_text s)) → Adds (61 ∷ x ∷ y ∷ s) (q_text (61 ∷ x ∷ y ∷ s))
unfolding q_ok q_text each_after unit_size unit_byte unit_ok
hex_step x y s t f =
    let both = and_yes (is_any_hex x && is_any_hex y) (q_ok s) t in
    let digits = and_yes (is_any_hex x) (is_any_hex y) both.0 in
    Adds.hex (hex_any x digits.0) (hex_any y digits.1) (f both.1)

short_escape : (x : ℕ) → (T (q_ok (61 ∷ [])) → ⊥) × (T (q_ok (61 ∷ x ∷ [])) → ⊥)
unfolding q_ok each_after unit_size unit_ok is_any_hex
short_escape x = (λ t. t, λ t. (and_yes (is_any_hex x) false (and_yes (is_any_hex x && false) true t).0).1)

nil_adds : Adds [] (q_text [])
unfolding q_text each_after
nil_adds = Adds.nothing

q_adds : (m : ℕ) (s : List ℕ) → length s ≤ m → T (q_ok s) → Adds s (q_text s)
q_adds m [] h t = nil_adds
q_adds zero (b ∷ s) h t = absurd (omega arith)
q_adds (suc m) (b ∷ []) h t =
    by_test (eqb b 61) (λ u. absurd ((short_escape 0).0 (rw (eqb→eq b 61 u) at t))) (λ u. one_step b [] u t (q_adds m [] (omega arith)))
q_adds (suc m) (b ∷ x ∷ []) h t =
    by_test (eqb b 61) (λ u. absurd ((short_escape x).1 (rw (eqb→eq b 61 u) at t))) (λ u. one_step b (x ∷ []) u t (q_adds m (x ∷ []) (omega arith)))
q_adds (suc m) (b ∷ x ∷ y ∷ s) h t =
    by_test (eqb b 61)
    (λ u. let e = eqb→eq b 61 u in rw e (hex_step x y s (rw e at t) (q_adds m s (omega arith))))
    (λ u. one_step b (x ∷ y ∷ s) u t (q_adds m (x ∷ y ∷ s) (omega arith)))

-- ---- B

from_quad_lem : (w x y z : ℕ) → from_quad w x y z ≡ cond (quad_ok w x y z) (some (first_of w x ∷ second_of x y ∷ third_of y z ∷ [])) none
unfolding from_quad quad_ok first_of second_of third_of
from_quad_lem w x y z = refl

from_last_lem : (w x y z : ℕ) → from_last w x y z ≡ cond (last_ok w x y z) (some (last_text w x y z)) none
unfolding from_last from_two from_three last_ok last_text first_of second_of
from_last_lem w x y z =
    by_test (eqb z 61)
    (λ t. let f = yes_true (eqb z 61) t in by_test (eqb y 61) (λ u. rw (f, yes_true (eqb y 61) u) refl) (λ u. rw (f, no_false (eqb y 61) u) refl))
    (λ t. rw (no_false (eqb z 61) t) (from_quad_lem w x y z))

join : (a b : Bool) (x y : List ℕ) → together (cond a (some x) none) (cond b (some y) none) ≡ cond (a && b) (some (x ++ y)) none
join true true x y = refl
join true false x y = refl
join false b x y = refl

from_b : (s : List ℕ) → from_base64 s ≡ cond (b_ok s) (some (b_text s)) none
unfolding from_base64 b_ok b_text
from_b [] = refl
from_b (w ∷ []) = refl
from_b (w ∷ x ∷ []) = refl
from_b (w ∷ x ∷ y ∷ []) = refl
from_b (w ∷ x ∷ y ∷ z ∷ []) = from_last_lem w x y z
from_b (w ∷ x ∷ y ∷ z ∷ v ∷ s) =
    rw (from_quad_lem w x y z, from_b (v ∷ s)) (join (quad_ok w x y z) (b_ok (v ∷ s)) (first_of w x ∷ second_of x y ∷ third_of y z ∷ []) (b_text (v ∷ s)))

adds_b : {s t : List ℕ} → FromBase64 s t → (b_ok s ≡ true) × (b_text s ≡ t)
adds_b {s} {t} g = read (b_ok s) refl
  where
    back : cond (b_ok s) (some (b_text s)) none ≡ some t
    back = sym (from_b s) ∙ grammar_read g

    read : (ok : Bool) → b_ok s ≡ ok → (b_ok s ≡ true) × (b_text s ≡ t)
    read true e = let k : some (b_text s) ≡ some t = rw e at back in (e, cc)
    read false e = let k : none ≡ some t = rw e at back in absurd (let z : ◌≡◌ {A = ℕ} 0 1 = cc in omega arith)

b_adds : (s : List ℕ) → T (b_ok s) → FromBase64 s (b_text s)
b_adds s t = read_grammar s (b_text s) (from_b s ∙ cond_yes (b_ok s) (some (b_text s)) none t)

-- ---- by the letter

text_reads : (e : Encoding) (s t : List ℕ) → AddsIn e s t → (text_ok (small_letter e) s ≡ true) × (text_of (small_letter e) s ≡ t)
unfolding text_ok text_of
text_reads Q s t a = adds_q a
text_reads B s t a = adds_b a

reads_text : (l : ℕ) (s : List ℕ) → T (text_ok l s) → (e : Encoding) × (l ≡ small_letter e) × AddsIn e s (text_of l s)
unfolding text_ok text_of
reads_text l s t =
    by_test (eqb l 113)
    (λ u. let e = eqb→eq l 113 u in rw e (Q, refl, q_adds (length s) s (omega arith) (rw e at t)))
    (λ u. by_test (eqb l 98)
    (λ v. let e = eqb→eq l 98 v in rw e (B, refl, b_adds s (rw e at t)))
    (λ v. absurd (rw (no_false (eqb l 113) u, no_false (eqb l 98) v) at t)))

-- ---- a word

stops : (a : List ℕ) (b : List ℕ) → T (all not_question a) → run not_question (a ++ (63 ∷ b)) ≡ length a
unfolding run
stops a b h = run_past not_question a (63 ∷ b) h ∙ omega arith

-- a word by its ends
size_of : (w body : List ℕ) → w ≡ 61 ∷ 63 ∷ (body ++ (63 ∷ 61 ∷ [])) → length w ≡ length body + 4
size_of w body e = omega (arith, ap length e, length-append body (63 ∷ 61 ∷ []))

inner_of : (w body : List ℕ) → w ≡ 61 ∷ 63 ∷ (body ++ (63 ∷ 61 ∷ [])) → inner w ≡ body
unfolding inner
inner_of w body e =
    let n : length w - 2 - 2 ≡ length body = omega (arith, size_of w body e) in
    rw n (ap (λ (l : List ℕ). take (length body) (drop 2 l)) e ∙ take_at body (63 ∷ 61 ∷ []) (length body) refl)

word_of : (w body : List ℕ) → w ≡ 61 ∷ 63 ∷ (body ++ (63 ∷ 61 ∷ [])) → is_word w ≡ true
unfolding is_word
word_of w body e =
    let size = size_of w body e in
    let before : length w - 2 ≡ length (61 ∷ 63 ∷ body) + 0 = omega (arith, size) in
    let last : length w - 1 ≡ length (61 ∷ 63 ∷ body) + 1 = omega (arith, size) in
    let a : get_or w (length w - 2) 0 ≡ 63 = ap (λ (n : ℕ). get_or w n 0) before ∙ ap (λ (l : List ℕ). get_or l (length (61 ∷ 63 ∷ body) + 0) 0) e ∙ get_or-append-add (61 ∷ 63 ∷ body) (63 ∷ 61 ∷ []) 0 0 in
    let b : get_or w (length w - 1) 0 ≡ 61 = ap (λ (n : ℕ). get_or w n 0) last ∙ ap (λ (l : List ℕ). get_or l (length (61 ∷ 63 ∷ body) + 1) 0) e ∙ get_or-append-add (61 ∷ 63 ∷ body) (63 ∷ 61 ∷ []) 1 0 in
    let c : get_or w 0 0 ≡ 61 = ap (λ (l : List ℕ). get_or l 0 0) e in
    let f : get_or w 1 0 ≡ 63 = ap (λ (l : List ℕ). get_or l 1 0) e in
    rw (yes_true (leb 4 (length w)) (le→leb 4 (length w) (omega (arith, size))), a, b, c, f) refl

-- what stands inside a word of a charset, a letter and a text
module _ {w charset added' : List ℕ} (d : Decodes w charset added') where
  body : List ℕ
  body = charset ++ (63 ∷ d.letter ∷ 63 ∷ d.standing)

  whole : w ≡ 61 ∷ 63 ∷ (body ++ (63 ∷ 61 ∷ []))
  unfolding body
  whole = d.is ∙ ap (λ (l : List ℕ). 61 ∷ 63 ∷ l) (sym (append_assoc charset (63 ∷ d.letter ∷ 63 ∷ d.standing) (63 ∷ 61 ∷ [])))

  inner_is : inner w ≡ body
  inner_is = inner_of w body whole

  len : charset_len body ≡ length charset
  unfolding charset_len body
  len = stops charset (d.letter ∷ 63 ∷ d.standing) d.no_question

  parted : is_parted body ≡ true
  unfolding is_parted body
  parted =
      rw (len, get_or-append_seam charset 63 (d.letter ∷ 63 ∷ d.standing) 0, get_or-append-add charset (63 ∷ d.letter ∷ 63 ∷ d.standing) 2 0) refl

  letter_is : letter body ≡ small_letter d.encoding
  unfolding letter body
  letter_is = rw (len, get_or-append-add charset (63 ∷ d.letter ∷ 63 ∷ d.standing) 1 0) d.any_case

  standing_is : standing body ≡ d.standing
  unfolding standing body
  standing_is = rw (len, drop-append-add charset (63 ∷ d.letter ∷ 63 ∷ d.standing) 3) refl

  charset_is : take (charset_len body) body ≡ charset
  unfolding body
  charset_is = rw len (take_at charset (63 ∷ d.letter ∷ 63 ∷ d.standing) (length charset) refl)

  pub decodes_added : added w ≡ added'
  unfolding added
  decodes_added = rw (inner_is, parted, letter_is, standing_is) (text_reads d.encoding d.standing added' d.reads).1

  pub decodes_number : form_number w ≡ cond (same_any_case charset (bytes "UTF-8")) 0 3
  unfolding form_number is_utf8_charset
  decodes_number = rw (inner_is, parted, letter_is, standing_is, (text_reads d.encoding d.standing added' d.reads).0, charset_is) refl

  pub decodes_word : is_word w ≡ true
  decodes_word = word_of w body whole

-- ---- and the other way round: what the function reads, the grammar makes

-- the last two bytes
two_left : (s : List ℕ) (i : ℕ) → i + 2 ≡ length s → drop i s ≡ get_or s i 0 ∷ get_or s (i + 1) 0 ∷ []
two_left s i e =
    let one : i + 1 ≡ suc i = omega arith in
    let none : drop (suc (suc i)) s ≡ [] = drop_of_length-le s {i = suc (suc i)} (omega arith) in
    drop-cons s i 0 (omega arith) ∙ rw (drop-cons s (suc i) 0 (omega arith), none, one) refl

-- a word is its ends and what stands between them
word_split : (w : List ℕ) → T (is_word w) → w ≡ 61 ∷ 63 ∷ (inner w ++ (63 ∷ 61 ∷ []))
unfolding is_word inner
word_split w t =
    let n = length w in
    let a = eqb (get_or w 0 0) 61 in
    let b = eqb (get_or w 1 0) 63 in
    let c = eqb (get_or w (n - 2) 0) 63 in
    let d = eqb (get_or w (n - 1) 0) 61 in
    let p = and_yes (leb 4 n && a && b && c) d t in
    let q = and_yes (leb 4 n && a && b) c p.0 in
    let r = and_yes (leb 4 n && a) b q.0 in
    let s = and_yes (leb 4 n) a r.0 in
    let long : 4 ≤ n = leb_yes s.0 in
    let w0 : get_or w 0 0 ≡ 61 = eqb→eq (get_or w 0 0) 61 s.1 in
    let w1 : get_or w 1 0 ≡ 63 = eqb→eq (get_or w 1 0) 63 r.1 in
    let w2 : get_or w (n - 2) 0 ≡ 63 = eqb→eq (get_or w (n - 2) 0) 63 q.1 in
    let w3 : get_or w (n - 1) 0 ≡ 61 = eqb→eq (get_or w (n - 1) 0) 61 p.1 in
    let at : 2 + (n - 2 - 2) ≡ n - 2 = omega arith in
    let last : n - 2 + 1 ≡ n - 1 = omega arith in
    let tail : drop (n - 2 - 2) (drop 2 w) ≡ 63 ∷ 61 ∷ [] = drop-drop (n - 2 - 2) 2 w ∙ rw (at, two_left w (n - 2) (omega arith), last, w2, w3) refl in
    let front : w ≡ 61 ∷ 63 ∷ drop 2 w = drop-cons w 0 0 (omega arith) ∙ rw (drop-cons w 1 0 (omega arith), w0, w1) refl in
    front ∙ ap (λ (l : List ℕ). 61 ∷ 63 ∷ l) (sym (take-append-drop (n - 2 - 2) (drop 2 w)) ∙ ap (λ (l : List ℕ). take (n - 2 - 2) (drop 2 w) ++ l) tail)

-- a byte that is not missing
there : (s : List ℕ) (i b : ℕ) → get_or s i 0 ≡ suc b → i < length s
there s i b e = by_test (leb (length s) i) (λ t. absurd (omega (arith, e, get_or-eq_default s 0 {n = i} (leb_yes t)))) (λ t. leb_no {a = length s} {b = i} t)

parted_split : (s : List ℕ) → T (is_parted s) → s ≡ take (charset_len s) s ++ (63 ∷ get_or s (charset_len s + 1) 0 ∷ 63 ∷ standing s)
unfolding is_parted standing
parted_split s t =
    let n = charset_len s in
    let both = and_yes (eqb (get_or s n 0) 63) (eqb (get_or s (n + 2) 0) 63) t in
    let a : get_or s n 0 ≡ 63 = eqb→eq (get_or s n 0) 63 both.0 in
    let b : get_or s (n + 2) 0 ≡ 63 = eqb→eq (get_or s (n + 2) 0) 63 both.1 in
    let inside : n + 2 < length s = there s (n + 2) 62 b in
    let one : suc n ≡ n + 1 = omega arith in
    let two : suc (suc n) ≡ n + 2 = omega arith in
    let three : suc (suc (suc n)) ≡ n + 3 = omega arith in
    let rest : drop n s ≡ get_or s n 0 ∷ get_or s (suc n) 0 ∷ get_or s (suc (suc n)) 0 ∷ drop (suc (suc (suc n))) s =
    drop-cons s n 0 (omega arith) ∙ rw (drop-cons s (suc n) 0 (omega arith), drop-cons s (suc (suc n)) 0 (omega arith)) refl in
    sym (take-append-drop n s) ∙ ap (λ (l : List ℕ). take n s ++ l) (rest ∙ rw (three, two, one, a, b) refl)

-- the charset has no `?`
charset_whole : (s : List ℕ) → T (all not_question (take (charset_len s) s))
unfolding charset_len
charset_whole s = run_all not_question s

letter_of_lem : (s : List ℕ) → lower (get_or s (charset_len s + 1) 0) ≡ letter s
unfolding letter
letter_of_lem s = refl

either_number : (b : Bool) → ◌≡◌ {A = ℕ} (cond b 0 3) 2 → ⊥
either_number true e = omega (arith, e)
either_number false e = omega (arith, e)

no_decodes : {w charset added' : List ℕ} → Decodes w charset added' → is_parted (inner w) && text_ok (letter (inner w)) (standing (inner w)) ≡ false → ⊥
unfolding form_number
no_decodes {w} {charset} d e = either_number (same_any_case charset (bytes "UTF-8")) (sym (decodes_number d) ∙ rw e refl)

module _ (w : List ℕ) (t : T (is_word w)) where
  form_decodes : T (is_parted (inner w)) → T (text_ok (letter (inner w)) (standing (inner w))) → Decodes w (take (charset_len (inner w)) (inner w)) (added w)
  unfolding added
  form_decodes p k =
      let s = inner w in
      let r = reads_text (letter s) (standing s) k in
      record {
        encoding = r.0;
        letter = get_or s (charset_len s + 1) 0;
        standing = standing s;
        is = word_split w t ∙ ap (λ (l : List ℕ). 61 ∷ 63 ∷ l) (ap (λ (l : List ℕ). l ++ (63 ∷ 61 ∷ [])) (parted_split s p) ∙ append_assoc (take (charset_len s) s) _ (63 ∷ 61 ∷ []));
        no_question = charset_whole s;
        any_case = letter_of_lem s ∙ r.1;
        reads = rw (yes_true (is_parted s) p) r.2;
      }

  -- what a word is shown as
  pub word_shows : (n : ℕ) × (text : List ℕ) × WordShows w n text × (n ≡ cond (eqb (form_number w) 0) (cond (utf8 (added w)) 5 4) (form_number w)) × (n ≡ 5 → text ≡ added w)
  unfolding form_number is_utf8_charset
  word_shows =
      let s = inner w in
      let charset = take (charset_len s) s in
      by_test (is_parted s && text_ok (letter s) (standing s))
      (λ k.
      let both = and_yes (is_parted s) (text_ok (letter s) (standing s)) k in
      let d = form_decodes both.0 both.1 in
      let f = yes_true (is_parted s && text_ok (letter s) (standing s)) k in
      by_test (same_any_case charset (bytes "UTF-8"))
      (λ c. let g = yes_true (same_any_case charset (bytes "UTF-8")) c in
      by_test (utf8 (added w))
      (λ u. (5, added w, WordShows.text d c u, rw (f, g, yes_true (utf8 (added w)) u) refl, λ e. refl))
      (λ u. (4, [], WordShows.not_utf8 d c u, rw (f, g, no_false (utf8 (added w)) u) refl, λ e. absurd (omega (arith, e)))))
      (λ c. (3, [], WordShows.other_charset d c, rw (f, no_false (same_any_case charset (bytes "UTF-8")) c) refl, λ e. absurd (omega (arith, e)))))
      (λ k. (2, [], WordShows.malformed t (λ charset added d. no_decodes d (no_false (is_parted s && text_ok (letter s) (standing s)) k)), rw (no_false (is_parted s && text_ok (letter s) (standing s)) k) refl, λ e. absurd (omega (arith, e))))

-- and it is shown as nothing else
pub shows_word : {w : List ℕ} {n : ℕ} {text : List ℕ} → WordShows w n text
    → (is_word w ≡ true) × (n ≡ cond (eqb (form_number w) 0) (cond (utf8 (added w)) 5 4) (form_number w)) × (n ≡ 5 → text ≡ added w)
unfolding form_number
shows_word {w} (WordShows.malformed t never) =
    let s = inner w in
    let bad : T (not (is_parted s && text_ok (letter s) (standing s))) =
    by_test (is_parted s && text_ok (letter s) (standing s))
    (λ k. let both = and_yes (is_parted s) (text_ok (letter s) (standing s)) k in absurd (never (take (charset_len s) s) (added w) (form_decodes w t both.0 both.1)))
    (λ k. k) in
    (yes_true (is_word w) t, rw (no_false (is_parted s && text_ok (letter s) (standing s)) bad) refl, λ e. absurd (omega (arith, e)))
shows_word {w} (WordShows.other_charset {charset} d c) =
    (decodes_word d, rw (decodes_number d, no_false (same_any_case charset (bytes "UTF-8")) c) refl, λ e. absurd (omega (arith, e)))
shows_word {w} (WordShows.not_utf8 {charset} {added = a} d c u) =
    (decodes_word d, rw (decodes_number d, yes_true (same_any_case charset (bytes "UTF-8")) c, decodes_added d, no_false (utf8 a) u) refl, λ e. absurd (omega (arith, e)))
shows_word {w} (WordShows.text {charset} {added = a} d c u) =
    (decodes_word d, rw (decodes_number d, yes_true (same_any_case charset (bytes "UTF-8")) c, decodes_added d, yes_true (utf8 a) u) refl, λ e. sym (decodes_added d))
