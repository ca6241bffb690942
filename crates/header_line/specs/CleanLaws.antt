-- Laws of clean headers: how blocks of windows show that a header is clean, and that each of its lines then ends at the next CR and holds
-- what a line may hold.
use Rattle.std.specs.Prelude.{◌≡◌, refl, Bool, true, false, ◌&&◌, List, [], ◌∷◌, ◌++◌, ℕ, zero, suc, ◌+◌, ◌-◌, ◌≤◌, ◌<◌, T, eqb, length, take, drop}
use Rattle.std.proofs.Common.{ap, sym, ◌∙◌, add-zero, zero-add, add-one, arith, length-drop, take-append-drop, drop-cons, drop-drop, get_or-drop, get_or-take, length-take-le, ne_eqb}
use Rattle.std.proofs.Math.Dec.{ltb, eqb→eq}
use Rattle.std.proofs.Math.ListN.{get_or}
use Rattle.std.proofs.Math.Facts.{and_yes, yes_and, ltb_yes, ltb_no}
use Rattle.lists.specs.Lists.{all}
use Rattle.lists.specs.ListsLaws.{by_test, yes_true, true_yes, no_false, all_at_lem}
use Rattle.lists.specs.Byte.{is_ascii}
use Rattle.lists.specs.Run.{run}
use Rattle.lists.specs.RunLaws.{run_le, run_all, run_step}
use Rattle.utf8.specs.Utf8.{utf8}
use Rattle.utf8.specs.Utf8Laws.{utf8_right, utf8_ascii, utf8_cut}
use Rattle.utf8.specs.Window.{placed, placed3, starts, window_at, all_at}
use Rattle.utf8.specs.WindowLaws.{placed_first, to_whole, all_at_here, all_at_make, three_block, window_part, Clear, clear_over, utf8_windows}
use Rattle.line.specs.Line.{crlf, not_cr, cr_run}
use Rattle.line.specs.LineLaws.{crlf_at_lem, cr_there}
use Rattle.line.specs.CrLaws.{CrStep}
use Rattle.header_line.specs.Lines.{line_byte, checked_lines, bad_line}
use Rattle.header_line.specs.LineLaws.{passed_part, crlf_text, TextEnd, text_end_lem, shaped_to, GoodLine, lined_shape, lined_good, Left, left_all, left_bad, left_next}
use Rattle.header_line.specs.Clean.{line_after, line_placed, line_placed3, calm, lines_start, lines_end, Clean}

-- ---- a byte after another

module _ (c d : ℕ) (t : T (line_after c d)) where
  after_nul : d ≡ 0 → ⊥
  unfolding line_after
  after_nul e = rw e at t

  after_lf_lem : d ≡ 10 → c ≡ 13
  unfolding line_after
  after_lf_lem e = by_test (eqb c 13) (λ u. eqb→eq c 13 u) (λ u. absurd (rw (e, no_false (eqb c 13) u) at t))

  after_cr_lem : c ≡ 13 → d ≡ 10
  unfolding line_after
  after_cr_lem e = by_test (eqb d 10) (λ u. eqb→eq d 10 u) (λ u. absurd (by_test (eqb d 0) (λ v. absurd (rw (eqb→eq d 0 v) at t)) (λ v. rw (e, no_false (eqb d 10) u, no_false (eqb d 0) v) at t)))

-- ---- from windows

module _ (a b c d : ℕ) where
  line_placed_lem : T (line_placed a b c d) → T (placed a b c d)
  unfolding line_placed
  line_placed_lem t = (and_yes (placed a b c d) (line_after c d) t).0

  line_after_lem : T (line_placed a b c d) → T (line_after c d)
  unfolding line_placed
  line_after_lem t = (and_yes (placed a b c d) (line_after c d) t).1

  calm_placed : a < 128 → b < 128 → c < 128 → T (calm a b c d) → T (line_placed a b c d)
  unfolding calm line_placed
  calm_placed f g h t =
      let both = and_yes (is_ascii d) (line_after c d) t in
      yes_and (placed a b c d) (line_after c d)
      (true_yes (placed a b c d) (placed_first a b c d (omega arith) (omega arith) (omega arith) ∙ rw (yes_true (is_ascii d) both.0)))
      both.1

  calm_low : T (calm a b c d) → d < 128
  unfolding calm
  calm_low t = ltb_yes (and_yes (is_ascii d) (line_after c d) t).0

module _ (h : List ℕ) (at n : ℕ) where
  -- a block of ASCII after three ASCII bytes
  pub calm_block : get_or h at 0 < 128 → get_or h (at + 1) 0 < 128 → get_or h (at + 2) 0 < 128 → T (all_at (window_at calm h) at n) → T (all_at (window_at line_placed h) at n)
  calm_block x y z t =
      all_at_make (window_at line_placed h) at n
      (λ k l. calm_placed (get_or h (at + k) 0) (get_or h (at + k + 1) 0) (get_or h (at + k + 2) 0) (get_or h (at + k + 3) 0)
      (low k (omega arith) (at + k) (omega arith)) (low (k + 1) (omega arith) (at + k + 1) (omega arith)) (low (k + 2) (omega arith) (at + k + 2) (omega arith))
      (all_at_here (window_at calm h) at n t k l))
    where
      past : (k : ℕ) → k < n → (j : ℕ) → j ≡ at + k + 3 → get_or h j 0 < 128
      past k l j e = rw e (calm_low (get_or h (at + k) 0) (get_or h (at + k + 1) 0) (get_or h (at + k + 2) 0) (get_or h (at + k + 3) 0) (all_at_here (window_at calm h) at n t k l))

      low : (k : ℕ) → k < n + 2 → (j : ℕ) → j ≡ at + k → get_or h j 0 < 128
      low zero l j e = let i : j ≡ at = omega arith in rw i x
      low (suc zero) l j e = let i : j ≡ at + 1 = omega arith in rw i y
      low (suc (suc zero)) l j e = let i : j ≡ at + 2 = omega arith in rw i z
      low (suc (suc (suc k))) l j e = past k (omega arith) j (omega arith)

-- a block of characters of at most three bytes
pub line_block : (h : List ℕ) (at n : ℕ) → 3 ≤ n → T (all_at (window_at line_placed3 h) at n) → T (all_at (window_at line_placed h) at n)
unfolding line_placed line_placed3
line_block h at n small t =
    all_at_make (window_at line_placed h) at n
    (λ k l. yes_and (window_at placed h (at + k)) (after k) (all_at_here (window_at placed h) at n (three_block h at n small (all_at_make (window_at placed3 h) at n (λ j m. (both j m).0))) k l) (both k l).1)
  where
    after : ℕ → Bool
    after k = line_after (get_or h (at + k + 2) 0) (get_or h (at + k + 3) 0)

    both : (k : ℕ) → k < n → T (window_at placed3 h (at + k)) × T (after k)
    both k l = and_yes (window_at placed3 h (at + k)) (after k) (all_at_here (window_at line_placed3 h) at n t k l)

-- the windows of the bytes from `at` on, as code cuts them out
pub block_windows : (f : ℕ → ℕ → ℕ → ℕ → Bool) (h : List ℕ) (at n : ℕ) → at + n + 3 ≤ length h
    → all_at (window_at f (take (at + n + 3 - at) (drop at h))) 0 (length (take (at + n + 3 - at) (drop at h)) - 3) ≡ all_at (window_at f h) at n
block_windows f h at n k =
    let cut : at + n + 3 - at ≡ n + 3 = omega arith in
    let size : length (take (n + 3) (drop at h)) ≡ n + 3 = length-take-le (n + 3) (drop at h) (omega (arith, length-drop at h)) in
    let few : n + 3 - 3 ≡ n = omega arith in
    rw (cut, size, few) (window_part f h at n)

-- what code answers of a block of ASCII
pub record Calm (h : List ℕ) (at : ℕ) (r : Bool) : Type 0 where
  pub fits : r ≡ true → at + 67 ≤ length h
  pub passes : r ≡ true → T (all_at (window_at line_placed h) at 64)

pub never : {X : Type 0} → false ≡ true → X
never e = absurd (true_yes false e)

pub calm_none : {h : List ℕ} {at : ℕ} → Calm h at false
calm_none = record { fits = λ e. never e; passes = λ e. never e }

pub calm_by : (h : List ℕ) (at : ℕ) (r : Bool) → at + 67 ≤ length h
    → is_ascii (get_or h at 0) && is_ascii (get_or h (at + 1) 0) && is_ascii (get_or h (at + 2) 0) ≡ true → r ≡ all_at (window_at calm h) at 64 → Calm h at r
calm_by h at r k e f =
    let x = is_ascii (get_or h at 0) in
    let y = is_ascii (get_or h (at + 1) 0) in
    let z = is_ascii (get_or h (at + 2) 0) in
    let two = and_yes (x && y) z (true_yes (x && y && z) e) in
    let one = and_yes x y two.0 in
    record {
      fits = λ t. k;
      passes = λ t. calm_block h at 64 (ltb_yes one.0) (ltb_yes one.1) (ltb_yes two.1) (true_yes (all_at (window_at calm h) at 64) (sym f ∙ t));
    }

-- blocks are passed over from a place to another
pub record Advance (h : List ℕ) (at r : ℕ) : Type 0 where
  pub up : at < r
  pub inside : r + 3 ≤ length h
  pub clear : Clear (window_at line_placed h) at → Clear (window_at line_placed h) r

pub advance_by : (h : List ℕ) (at n : ℕ) → 0 < n → at + n + 3 ≤ length h → T (all_at (window_at line_placed h) at n) → Advance h at (at + n)
advance_by h at n some k t = record { up = omega arith; inside = k; clear = λ c. clear_over at n (omega arith) c t }

pub clear_end : (h : List ℕ) {at : ℕ} (last m : ℕ) (r : Bool) → last ≤ at → last + 32 ≡ m → Clear (window_at line_placed h) at
    → r ≡ all_at (window_at line_placed h) last 32 → r ≡ true → Clear (window_at line_placed h) m
clear_end h {at} last m r l e c f t = rw e at (clear_over last 32 l c (true_yes (all_at (window_at line_placed h) last 32) (sym f ∙ t)))

module _ (h : List ℕ) (long : 3 ≤ length h) (start : T (lines_start h)) (windows : Clear (window_at line_placed h) (length h - 3))
    (end : T (lines_end (get_or h (length h - 3) 0) (get_or h (length h - 3 + 1) 0) (get_or h (length h - 3 + 2) 0))) where
  abbrev last : ℕ
  last = length h - 3

  parts : T (line_placed 0 0 0 (get_or h 0 0)) × (T (line_placed 0 0 (get_or h 0 0) (get_or h 1 0)) × T (line_placed 0 (get_or h 0 0) (get_or h 1 0) (get_or h 2 0)))
  unfolding lines_start
  parts =
      let two = and_yes (line_placed 0 0 0 (get_or h 0 0) && line_placed 0 0 (get_or h 0 0) (get_or h 1 0)) (line_placed 0 (get_or h 0 0) (get_or h 1 0) (get_or h 2 0)) start in
      let one = and_yes (line_placed 0 0 0 (get_or h 0 0)) (line_placed 0 0 (get_or h 0 0) (get_or h 1 0)) two.0 in
      (one.0, (one.1, two.1))

  ends : (get_or h (last + 2) 0 ≡ 10) × ((get_or h (last + 1) 0 < 224) × (get_or h last 0 < 240))
  unfolding lines_end
  ends =
      let a = get_or h last 0 in
      let b = get_or h (last + 1) 0 in
      let c = get_or h (last + 2) 0 in
      let two = and_yes (eqb c 10 && ltb b 224) (ltb a 240) end in
      let one = and_yes (eqb c 10) (ltb b 224) two.0 in
      (eqb→eq c 10 one.0, (ltb_yes one.1, ltb_yes two.1))

  all_starts : T (starts h)
  unfolding starts
  all_starts =
      let x = get_or h 0 0 in
      let y = get_or h 1 0 in
      let z = get_or h 2 0 in
      yes_and (placed 0 0 0 x && placed 0 0 x y) (placed 0 x y z)
      (yes_and (placed 0 0 0 x) (placed 0 0 x y) (line_placed_lem 0 0 0 x parts.0) (line_placed_lem 0 0 x y parts.1.0))
      (line_placed_lem 0 x y z parts.1.1)

  all_placed : T (all_at (window_at placed h) 0 last)
  all_placed =
      all_at_make (window_at placed h) 0 last
      (λ k l. rw (zero-add k) (line_placed_lem (get_or h k 0) (get_or h (k + 1) 0) (get_or h (k + 2) 0) (get_or h (k + 3) 0) (windows.here k l)))

  is_utf8_lem : T (utf8 h)
  is_utf8_lem =
      let f = ends in
      true_yes (utf8 h)
      (utf8_windows h long
      ∙ rw (yes_true (starts h) all_starts, yes_true (all_at (window_at placed h) 0 last) all_placed)
      (to_whole (get_or h last 0) (get_or h (last + 1) 0) (get_or h (last + 2) 0) (omega (arith, f.0)) (omega (arith, f.1.0)) (omega (arith, f.1.1))))

  each : (k : ℕ) → k + 1 < length h → T (line_after (get_or h k 0) (get_or h (k + 1) 0))
  each zero l = line_after_lem 0 0 (get_or h 0 0) (get_or h 1 0) parts.1.0
  each (suc zero) l = line_after_lem 0 (get_or h 0 0) (get_or h 1 0) (get_or h 2 0) parts.1.1
  each (suc (suc k)) l =
      let e : k + 2 ≡ suc (suc k) = omega arith in
      let g : k + 3 ≡ suc (suc k) + 1 = omega arith in
      rw (e, g) at (line_after_lem (get_or h k 0) (get_or h (k + 1) 0) (get_or h (k + 2) 0) (get_or h (k + 3) 0) (windows.here k (omega arith)))

  pub clean_by : Clean h
  clean_by = record {
    text = is_utf8_lem;
    first = line_after_lem 0 0 0 (get_or h 0 0) parts.0;
    bytes = each;
    last = λ k e. let i : k ≡ last + 2 = omega arith in rw i ends.0;
  }

-- as code tests it
pub clean_tests : (h : List ℕ) (x y r : Bool) → 3 ≤ length h → x ≡ lines_start h → x ≡ true
    → y ≡ lines_end (get_or h (length h - 3) 0) (get_or h (length h - 3 + 1) 0) (get_or h (length h - 3 + 2) 0) → y ≡ true
    → (r ≡ true → Clear (window_at line_placed h) (length h - 3)) → r ≡ true → Clean h
clean_tests h x y r long e f g k w t =
    let last = length h - 3 in
    clean_by h long (true_yes (lines_start h) (sym e ∙ f)) (w t) (true_yes (lines_end (get_or h last 0) (get_or h (last + 1) 0) (get_or h (last + 2) 0)) (sym g ∙ k))

-- ---- line after line

-- a line of a clean header starts at a place
pub record Begins (h : List ℕ) (at : ℕ) : Type 0 where
  pub text : T (utf8 (drop at h))
  pub low : at < length h → get_or h at 0 ≡ 10 → ⊥

pub begins_all : {h : List ℕ} → Clean h → Begins h 0
begins_all {h} c = record {
  text = c.text;
  low = λ k e. absurd (omega (arith, after_lf_lem 0 (get_or h 0 0) c.first e));
}

all_make : (f : ℕ → Bool) (xs : List ℕ) → ((i : ℕ) → i < length xs → T (f (get_or xs i 0))) → T (all f xs)
all_make f [] g = tt
all_make f (x ∷ xs) g = yes_and (f x) (all f xs) (g 0 (omega arith)) (all_make f xs (λ i l. g (suc i) (omega arith)))

to_line_byte : (b : ℕ) → (b ≡ 0 → ⊥) → (b ≡ 10 → ⊥) → (b ≡ 13 → ⊥) → T (line_byte b)
unfolding line_byte
to_line_byte b x y z = rw (ne_eqb b 0 x, ne_eqb b 10 y, ne_eqb b 13 z) tt

module _ {h : List ℕ} {at : ℕ} (clean : Clean h) (begins : Begins h at) (inside : at < length h) (e : ℕ) (cr : e ≡ at + cr_run (drop at h)) where
  abbrev size : ℕ
  size = run not_cr (drop at h)

  within_header : at + size ≤ length h
  within_header = omega (arith, run_le not_cr (drop at h), length-drop at h)

  byte_is : (i : ℕ) → i < size → get_or (take size (drop at h)) i 0 ≡ get_or h (at + i) 0
  byte_is i l = get_or-take size (drop at h) i 0 l ∙ get_or-drop at h i 0

  part_size : length (take size (drop at h)) ≡ size
  part_size = length-take-le size (drop at h) (run_le not_cr (drop at h))

  no_cr_lem : (i : ℕ) → i < size → get_or h (at + i) 0 ≡ 13 → ⊥
  no_cr_lem i l x =
      let t : T (not_cr (get_or h (at + i) 0)) = rw (byte_is i l) at (all_at_lem not_cr (take size (drop at h)) i 0 (run_all not_cr (drop at h)) (omega (arith, part_size))) in
      rw x at t

  -- the byte before is no CR, so there is no LF
  no_lf : (i : ℕ) → i ≤ size → at + i < length h → get_or h (at + i) 0 ≡ 10 → ⊥
  no_lf zero l k x = begins.low inside (rw add-zero at x)
  no_lf (suc i) l k x =
      let j : at + i + 1 ≡ at + suc i = omega arith in
      let t : T (line_after (get_or h (at + i) 0) (get_or h (at + suc i) 0)) = rw j at (clean.bytes (at + i) (omega arith)) in
      no_cr_lem i (omega arith) (after_lf_lem (get_or h (at + i) 0) (get_or h (at + suc i) 0) t x)

  no_nul : (k : ℕ) → k < length h → get_or h k 0 ≡ 0 → ⊥
  no_nul zero l x = after_nul 0 (get_or h 0 0) clean.first x
  no_nul (suc k) l x =
      let t : T (line_after (get_or h k 0) (get_or h (suc k) 0)) = rw add-one at (clean.bytes k (omega arith)) in
      after_nul (get_or h k 0) (get_or h (suc k) 0) t x

  line_bytes : T (all line_byte (take size (drop at h)))
  line_bytes =
      all_make line_byte (take size (drop at h))
      (λ i l.
      let k : i < size = omega (arith, part_size) in
      let m : at + i < length h = omega (arith, within_header) in
      rw (byte_is i k) (to_line_byte (get_or h (at + i) 0) (no_nul (at + i) m) (no_lf i (omega arith) m) (no_cr_lem i k)))

  -- there is a CR
  cr_inside : e < length h
  cr_inside =
      by_test (ltb e (length h)) (λ t. ltb_yes t)
      (λ t.
      let past : length h ≤ e = ltb_no t in
      let i = length h - 1 - at in
      let there : at + i + 1 ≡ length h = omega arith in
      absurd (no_lf i (omega arith) (omega arith) (clean.last (at + i) there)))

  cr_is : get_or h e 0 ≡ 13
  cr_is = cr_there h at e cr cr_inside

  lf_inside : e + 1 < length h
  lf_inside =
      by_test (ltb (e + 1) (length h)) (λ t. ltb_yes t)
      (λ t.
      let past : length h ≤ e + 1 = ltb_no {a = e + 1} {b = length h} t in
      let more = cr_inside in
      absurd (omega (arith, cr_is, clean.last e (omega arith))))

  lf_is : get_or h (e + 1) 0 ≡ 10
  lf_is = after_cr_lem (get_or h e 0) (get_or h (e + 1) 0) (clean.bytes e lf_inside) cr_is

  pub clean_crlf : crlf (drop e h) ≡ true
  clean_crlf = crlf_at_lem h e ∙ rw (cr_is, lf_is)

  cut : T (utf8 (take size (drop at h))) × T (utf8 (13 ∷ drop (suc e) h))
  cut =
      let rest : drop e h ≡ 13 ∷ drop (suc e) h = drop-cons h e 0 cr_inside ∙ ap (λ (b : ℕ). b ∷ drop (suc e) h) cr_is in
      let parts : take size (drop at h) ++ (13 ∷ drop (suc e) h) ≡ drop at h =
      rw (← rest, cr, ← drop-drop size at h) (take-append-drop size (drop at h)) in
      utf8_cut (take size (drop at h)) 13 (drop (suc e) h) (omega arith) (rw parts begins.text)

  pub clean_text : TextEnd h at e
  clean_text =
      text_end_lem (rw (← cr) at (passed_part h at size within_header line_bytes cut.0))
      (record { ok = crlf_text (drop e h) clean_crlf ∙ sym clean_crlf })

  pub clean_next : Begins h (e + 2)
  clean_next =
      let j : e + 2 ≡ suc (suc e) = omega arith in
      let one : e + 1 ≡ suc e = omega arith in
      let lf : get_or h (suc e) 0 ≡ 10 = rw one at lf_is in
      let rest : drop (suc e) h ≡ 10 ∷ drop (suc (suc e)) h = drop-cons h (suc e) 0 (omega (arith, lf_inside)) ∙ ap (λ (b : ℕ). b ∷ drop (suc (suc e)) h) lf in
      record {
        text = rw j (rw (utf8_right (13 ∷ 10 ∷ []) (drop (suc (suc e)) h) (utf8_ascii (13 ∷ 10 ∷ []) tt)) at (rw rest at cut.1));
        low = λ k x.
            let next : e + 1 + 1 ≡ e + 2 = omega arith in
            let t : T (line_after (get_or h (e + 1) 0) (get_or h (e + 2) 0)) = rw next at (clean.bytes (e + 1) (omega arith)) in
            absurd (omega (arith, lf_is, after_lf_lem (get_or h (e + 1) 0) (get_or h (e + 2) 0) t x));
      }

-- what is left to check at `at`, where line n starts, if the next CR is searched from i on
pub record Lines (h : List ℕ) (n at i : ℕ) : Type 0 where
  pub left : Left h n at
  pub begins : Begins h at
  pub same : at + cr_run (drop at h) ≡ i + cr_run (drop i h)

pub lines_all : {h : List ℕ} → Clean h → Lines h 0 0 0
lines_all {h} c = record { left = left_all h; begins = begins_all c; same = refl }

module _ {h : List ℕ} {n at i end next : ℕ} {found : Bool} (clean : Clean h) (inside : at < length h) (l : Lines h n at i) (s : CrStep h i found end next) where
  pub lines_skip : found ≡ false → Lines h n at next
  lines_skip f = record { left = l.left; begins = l.begins; same = l.same ∙ s.skip f }

  cr_here : found ≡ true → end ≡ at + cr_run (drop at h)
  cr_here f = s.cr f ∙ sym l.same

  pub line_inside : found ≡ true → (at ≤ end) × (end + 2 ≤ length h)
  line_inside f =
      let e = cr_here f in
      (omega (arith, e), omega (arith, lf_inside clean l.begins inside end e))

  lined : found ≡ true → shaped_to 76 (eqb n 0) (take (end - at) (drop at h)) ≡ true → GoodLine 76 h at (eqb n 0) (end + 2)
  lined f k = lined_good 76 (eqb n 0) (clean_text clean l.begins inside end (cr_here f)) (clean_crlf clean l.begins inside end (cr_here f)) k

  pub lines_bad : found ≡ true → shaped_to 76 (eqb n 0) (take (end - at) (drop at h)) ≡ false → bad_line n at ≡ checked_lines h
  lines_bad f k =
      left_bad l.left inside (lined_shape 76 (eqb n 0) (clean_text clean l.begins inside end (cr_here f)) (clean_crlf clean l.begins inside end (cr_here f)) k)

  pub lines_next : found ≡ true → shaped_to 76 (eqb n 0) (take (end - at) (drop at h)) ≡ true → Lines h (n + 1) (end + 2) next
  lines_next f k =
      let e = cr_here f in
      let lf : get_or h (end + 1) 0 ≡ 10 = lf_is clean l.begins inside end e in
      let two : end + 1 + 1 ≡ end + 2 = omega arith in
      let past : end + 1 + cr_run (drop (end + 1) h) ≡ end + 2 + cr_run (drop (end + 2) h) =
      rw two at (run_step not_cr h (end + 1) (lf_inside clean l.begins inside end e) (rw lf)) in
      record {
        left = left_next l.left inside (lined f k);
        begins = clean_next clean l.begins inside end e;
        same = sym past ∙ s.after f (cr_inside clean l.begins inside end e);
      }
