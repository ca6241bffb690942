-- A value with its folds: what it is without its CR and LF, and which parts of it are such values again.
use Rattle.std.specs.Prelude.{◌≡◌, Bool, false, not, ◌&&◌, ◌||◌, ℕ, zero, suc, ◌+◌, ◌-◌, ◌≤◌, ◌<◌, eqb, leb, drop, get_or}
use Rattle.std.proofs.Math.Path.{refl, ap, sym}
use Rattle.std.proofs.Common.{◌∙◌, not-suc-le-zero, add-zero, arith, eqb→eq, take-append-drop, drop_of_length-le, drop_at, get_or-take, get_or-drop, length-take-le}
use Rattle.std.proofs.Math.Bool.{true, and-false}
use mathlib.Core.List.{List, [], ◌∷◌, ◌++◌}
use Rattle.std.proofs.Math.Dec.{T}
use Rattle.std.proofs.Math.ListN.{length, take, length-append, length-drop, get_or-eq_default}
use Rattle.std.proofs.Math.Seq.{take_at, take-append-le}
use Rattle.std.proofs.Math.Facts.{and_yes, yes_and, leb_yes, leb_no}
use Rattle.lists.specs.Lists.{all}
use Rattle.lists.specs.ListsLaws.{by_test, cond_has, yes_true, no_false}
use Rattle.lists.specs.Byte.{within}
use Rattle.lists.specs.Run.{run}
use Rattle.lists.specs.RunLaws.{run_all, run_after, run_past}
use Rattle.utf8.specs.Utf8.{utf8}
use Rattle.line.specs.Line.{blank, crlf, line_len}
use Rattle.line.specs.LineLaws.{line_le}
use Rattle.header_line.specs.Lines.{line_byte, name_byte, name_len, named_to, continuation, line_ok_to, lines_of}
use Rattle.header.specs.Fields.{fold, value_of, unfolded_after, trimmed, text_of}
use Rattle.header.specs.FieldShape.{without_breaks}
use Rattle.downgraded_field.specs.Shown.{continues, lines_formed, is_formed, spacing, solid}
use Rattle.downgraded_field.specs.FormedLaws.{lines_nil, formed_front, Folds, formed_folds}

-- ---- bytes

line_not_break : (b : ℕ) → T (line_byte b) → eqb b 13 || eqb b 10 ≡ false
unfolding line_byte
line_not_break b t =
    by_test (eqb b 13) (λ u. absurd (rw (eqb→eq b 13 u) at t))
    (λ u. by_test (eqb b 10) (λ v. absurd (rw (eqb→eq b 10 v) at t)) (λ v. rw (no_false (eqb b 13) u, no_false (eqb b 10) v)))

no_break_lem : (a b : Bool) → a || b ≡ false → (a ≡ false) × (b ≡ false)
no_break_lem true b e = (e, absurd (let z : ◌≡◌ {A = ℕ} 0 1 = cc in omega arith))
no_break_lem false b e = (refl, e)

cr_no_line : (b : ℕ) → b ≡ 13 → T (line_byte b) → ⊥
unfolding line_byte
cr_no_line b e t = rw e at t

cr_no_blank : (b : ℕ) → b ≡ 13 → T (blank b) → ⊥
unfolding blank
cr_no_blank b e t = rw e at t

solid_not_break : (b : ℕ) → T (solid b) → eqb b 13 || eqb b 10 ≡ false
unfolding spacing blank
solid_not_break b t =
    by_test (eqb b 13) (λ u. absurd (rw (eqb→eq b 13 u) at t))
    (λ u. by_test (eqb b 10) (λ v. absurd (rw (eqb→eq b 10 v) at t)) (λ v. rw (no_false (eqb b 13) u, no_false (eqb b 10) v)))

pub solid_not_blank : (b : ℕ) → T (solid b) → T (not (blank b))
unfolding spacing
solid_not_blank b t = by_test (blank b) (λ u. absurd (rw (yes_true (blank b) u) at t)) (λ u. u)

blank_not_break : (b : ℕ) → T (blank b) → eqb b 13 || eqb b 10 ≡ false
unfolding blank
blank_not_break b t =
    by_test (eqb b 13) (λ u. absurd (rw (eqb→eq b 13 u) at t))
    (λ u. by_test (eqb b 10) (λ v. absurd (rw (eqb→eq b 10 v) at t)) (λ v. rw (no_false (eqb b 13) u, no_false (eqb b 10) v)))

spacing_kept : (b : ℕ) → T (spacing b) → eqb b 13 || eqb b 10 ≡ false → T (blank b)
unfolding spacing
spacing_kept b t e = let n = no_break_lem (eqb b 13) (eqb b 10) e in by_test (blank b) (λ u. u) (λ u. absurd (rw (no_false (blank b) u, n.0, n.1) at t))

-- ---- without breaks

pub breaks_append : (a b : List ℕ) → without_breaks (a ++ b) ≡ without_breaks a ++ without_breaks b
unfolding without_breaks
breaks_append [] b = refl
breaks_append (x ∷ a) b =
    by_test (eqb x 13 || eqb x 10)
    (λ t. rw (yes_true (eqb x 13 || eqb x 10) t, breaks_append a b) refl)
    (λ t. rw (no_false (eqb x 13 || eqb x 10) t, breaks_append a b) refl)

kept_all : (f : ℕ → Bool) → ((b : ℕ) → T (f b) → eqb b 13 || eqb b 10 ≡ false) → (a : List ℕ) → T (all f a) → without_breaks a ≡ a
unfolding without_breaks
kept_all f each [] t = refl
kept_all f each (x ∷ a) t =
    let both = and_yes (f x) (all f a) t in
    rw (each x both.0, kept_all f each a both.1) refl

pub solid_breaks : (a : List ℕ) → T (all solid a) → without_breaks a ≡ a
solid_breaks a t = kept_all solid solid_not_break a t

pub blank_breaks : (a : List ℕ) → T (all blank a) → without_breaks a ≡ a
blank_breaks a t = kept_all blank blank_not_break a t

pub gap_blank : (a : List ℕ) → T (all spacing a) → T (all blank (without_breaks a))
unfolding without_breaks
gap_blank [] t = tt
gap_blank (x ∷ a) t =
    let both = and_yes (spacing x) (all spacing a) t in
    by_test (eqb x 13 || eqb x 10)
    (λ u. rw (yes_true (eqb x 13 || eqb x 10) u) (gap_blank a both.1))
    (λ u. let e = no_false (eqb x 13 || eqb x 10) u in rw e (yes_and (blank x) (all blank (without_breaks a)) (spacing_kept x both.0 e) (gap_blank a both.1)))

nil_run : run blank (without_breaks []) ≡ 0
unfolding run without_breaks
nil_run = refl

-- a text that begins with no white space
pub solid_front : (x : List ℕ) → 0 < length x → spacing (get_or x 0 0) ≡ false → run blank (without_breaks x) ≡ 0
unfolding run without_breaks
solid_front [] k e = absurd (not-suc-le-zero k)
solid_front (b ∷ x) k e =
    let t : T (solid b) = rw e tt in
    rw (solid_not_break b t, no_false (blank b) (solid_not_blank b t)) refl

-- a text that has no CR and no LF
abbrev pub no_break : ℕ → Bool
no_break b = not (eqb b 13 || eqb b 10)

pub breaks_none : (a : List ℕ) → T (all no_break (without_breaks a))
unfolding without_breaks
breaks_none [] = tt
breaks_none (x ∷ a) =
    by_test (eqb x 13 || eqb x 10)
    (λ t. rw (yes_true (eqb x 13 || eqb x 10) t) (breaks_none a))
    (λ t. rw (no_false (eqb x 13 || eqb x 10) t) (yes_and (no_break x) (all no_break (without_breaks a)) t (breaks_none a)))

-- ---- values with folds: bytes of lines, CRLF before a continuation

pub data Folded : List ℕ → Type 0 where
  none : Folded []
  byte : {b : ℕ} {s : List ℕ} → T (line_byte b) → Folded s → Folded (b ∷ s)
  folding : {b : ℕ} {s : List ℕ} → T (blank b) → Folded (b ∷ s) → Folded (13 ∷ 10 ∷ b ∷ s)

heads : {x y : ℕ} {a b : List ℕ} → x ∷ a ≡ y ∷ b → x ≡ y
heads e = cc

tails : {x y : ℕ} {a b : List ℕ} → x ∷ a ≡ y ∷ b → a ≡ b
tails e = cc

-- lines without the CRLF that ends the last
folded_of : {n : ℕ} {f : List ℕ} → Folds n f → (x : List ℕ) → f ≡ x ++ (13 ∷ 10 ∷ []) → Folded x
folded_of Folds.end [] e = Folded.none
folded_of Folds.end (c ∷ x) e = absurd (omega (arith, ap length e, length-append x (13 ∷ 10 ∷ [])))
folded_of (Folds.byte {b} h k f) [] e = absurd (cr_no_line b (heads e) h)
folded_of (Folds.byte {b} h k f) (c ∷ x) e = Folded.byte (rw (heads e) at h) (folded_of f x (tails e))
folded_of (Folds.fold h f) [] e = absurd (omega (arith, ap length e))
folded_of (Folds.fold h f) (c ∷ []) e = absurd (let z : ◌≡◌ {A = ℕ} 10 13 = heads (tails e) in omega arith)
folded_of (Folds.fold {b} h f) (c ∷ d ∷ []) e = absurd (cr_no_blank b (heads (tails (tails e))) h)
folded_of (Folds.fold {b} h f) (c ∷ d ∷ g ∷ x) e =
    rw (sym (heads e), sym (heads (tails e))) (Folded.folding (rw (heads (tails (tails e))) at h) (folded_of f (g ∷ x) (tails (tails e))))

folds_end : {n : ℕ} {f : List ℕ} → Folds n f → (y : List ℕ) × (f ≡ y ++ (13 ∷ 10 ∷ []))
folds_end Folds.end = ([], refl)
folds_end (Folds.byte {b} h k f) = let r = folds_end f in (b ∷ r.0, ap (λ (l : List ℕ). b ∷ l) r.1)
folds_end (Folds.fold h f) = let r = folds_end f in (13 ∷ 10 ∷ r.0, ap (λ (l : List ℕ). 13 ∷ 10 ∷ l) r.1)

-- the first line's bytes
folds_front : {n : ℕ} {f : List ℕ} → Folds n f → (k : ℕ) → k ≤ n → T (all line_byte (take k f))
folds_front f zero h = tt
folds_front Folds.end (suc k) h = absurd (not-suc-le-zero h)
folds_front (Folds.byte {b} {n} {s} t l f) (suc k) h = yes_and (line_byte b) (all line_byte (take k s)) t (folds_front f k (omega arith))
folds_front (Folds.fold t f) (suc k) h = absurd (not-suc-le-zero h)

folded_past : {x : List ℕ} → Folded x → (a s : List ℕ) → x ≡ a ++ s → T (all line_byte a) → Folded s
folded_past f [] s e t = rw e at f
folded_past Folded.none (c ∷ a) s e t = absurd (omega (arith, ap length e))
folded_past (Folded.byte h f) (c ∷ a) s e t = folded_past f a s (tails e) (and_yes (line_byte c) (all line_byte a) t).1
folded_past (Folded.folding h f) (c ∷ a) s e t = absurd (cr_no_line c (sym (heads e)) (and_yes (line_byte c) (all line_byte a) t).0)

-- after a run
pub folded_run : {x : List ℕ} → Folded x → (a s : List ℕ) → x ≡ a ++ s → T (all solid a) → Folded s
folded_run f [] s e t = rw e at f
folded_run Folded.none (c ∷ a) s e t = absurd (omega (arith, ap length e))
folded_run (Folded.byte h f) (c ∷ a) s e t = folded_run f a s (tails e) (and_yes (solid c) (all solid a) t).1
folded_run (Folded.folding h f) (c ∷ a) s e t = absurd (not_cr_lem c (sym (heads e)) (and_yes (solid c) (all solid a) t).0)
  where
    not_cr_lem : (c : ℕ) → c ≡ 13 → T (solid c) → ⊥
    not_cr_lem c e t = let z = (no_break_lem (eqb c 13) (eqb c 10) (solid_not_break c t)).0 in let y : true ≡ false = rw e at z in absurd (let w : ◌≡◌ {A = ℕ} 0 1 = cc in omega arith)

-- at any byte but an LF
folded_drop : {x : List ℕ} → Folded x → (i : ℕ) → (get_or (drop i x) 0 0 ≡ 10 → ⊥) → Folded (drop i x)
folded_drop f zero n = f
folded_drop Folded.none (suc i) n = Folded.none
folded_drop (Folded.byte h f) (suc i) n = folded_drop f i n
folded_drop (Folded.folding h f) (suc zero) n = absurd (n refl)
folded_drop (Folded.folding h f) (suc (suc i)) n = folded_drop f i n

-- what follows a run, without breaks: nothing, or white space
kept_front : (b : ℕ) (s : List ℕ) → T (blank b) → T (all blank (take 1 (without_breaks (b ∷ s))))
unfolding without_breaks
kept_front b s t = rw (blank_not_break b t) (yes_and (blank b) true t tt)

unfold_fold : (rest : List ℕ) → blank (get_or rest 0 0) ≡ true → unfolded_after 0 (13 ∷ 10 ∷ rest) ≡ unfolded_after 0 rest
unfolding unfolded_after fold crlf
unfold_fold rest e = rw e refl

breaks_fold : (rest : List ℕ) → without_breaks (13 ∷ 10 ∷ rest) ≡ without_breaks rest
unfolding without_breaks
breaks_fold rest = refl

pub folded_follows : {x : List ℕ} → Folded x → T (all spacing (take 1 x)) → T (all blank (take 1 (without_breaks x)))
unfolding without_breaks
folded_follows Folded.none t = tt
folded_follows (Folded.byte {b} {s} h f) t = kept_front b s (spacing_kept b (and_yes (spacing b) true t).0 (line_not_break b h))
folded_follows (Folded.folding {b} {s} h f) t = kept_front b s h

-- ---- unfolded

byte_unfolds : (b : ℕ) (s : List ℕ) → T (line_byte b) → unfolded_after 0 s ≡ without_breaks s → unfolded_after 0 (b ∷ s) ≡ without_breaks (b ∷ s)
unfolding unfolded_after without_breaks fold crlf
byte_unfolds b s h e = let n = no_break_lem (eqb b 13) (eqb b 10) (line_not_break b h) in rw (n.0, n.1, e) refl

unfolds : {v : List ℕ} → Folded v → unfolded_after 0 v ≡ without_breaks v
unfolding unfolded_after without_breaks
unfolds Folded.none = refl
unfolds (Folded.byte {b} {s} h f) = byte_unfolds b s h (unfolds f)
unfolds (Folded.folding {b} {s} h f) = unfold_fold (b ∷ s) (yes_true (blank b) h) ∙ unfolds f ∙ sym (breaks_fold (b ∷ s))

-- ---- the value of a well-formed field

run_within : (f : ℕ → Bool) (xs : List ℕ) (m : ℕ) → m < length xs → f (get_or xs m 0) ≡ false → run f xs ≤ m
unfolding run
run_within f [] m k e = absurd (not-suc-le-zero k)
run_within f (x ∷ xs) zero k e = rw e (omega arith)
run_within f (x ∷ xs) (suc m) k e = let r = run_within f xs m (omega arith) e in cond_has (λ n. n ≤ suc m) (f x) (suc (run f xs)) 0 (λ t. omega arith) (λ t. omega arith)

colon : name_byte 58 ≡ false
unfolding name_byte
colon = refl

-- a name stands in the first line, with its colon
line_named : (line : List ℕ) → T (continuation true line || named_to 87 line) → (name_len line < length line) × (get_or line (name_len line) 0 ≡ 58)
unfolding continuation
line_named line t =
    let m = name_len line in
    let named : T (named_to 87 line) = rw and-false at t in
    let there : get_or line m 0 ≡ 58 = eqb→eq (get_or line m 0) 58 (and_yes (within 1 87 m) (eqb (get_or line m 0) 58) named).1 in
    (by_test (leb (length line) m) (λ u. absurd (omega (arith, sym (get_or-eq_default line 0 {n = m} (leb_yes u)) ∙ there))) (λ u. leb_no {a = length line} {b = m} u), there)

line_start_lem : (s : List ℕ) → T (line_ok_to 87 true s) → T (continuation true (take (line_len s) s) || named_to 87 (take (line_len s) s))
unfolding line_ok_to
line_start_lem s t =
    let line = take (line_len s) s in
    let a = and_yes (crlf (drop (line_len s) s)) (within 1 998 (length line) && all line_byte line && utf8 line && (continuation true line || named_to 87 line)) t in
    (and_yes (within 1 998 (length line) && all line_byte line && utf8 line) (continuation true line || named_to 87 line) a.1).1

name_inside : (field : List ℕ) → T (is_formed field) → name_len field + 1 ≤ line_len field
unfolding name_len is_formed lines_formed
name_inside [] t = absurd (rw lines_nil at t)
name_inside (b ∷ s) t =
    let x : List ℕ = b ∷ s in
    let n = line_len x in
    let line = take n x in
    let ok = (and_yes (line_ok_to 87 true x) (all continues (lines_of (drop (n + 2) x))) (rw (formed_front x (omega arith)) at t)).0 in
    let p = line_named line (line_start_lem x ok) in
    let size : length line ≡ n = length-take-le n x (line_le x) in
    let m = run name_byte line in
    let there : get_or x m 0 ≡ 58 = sym (get_or-take n x m 0 (omega (arith, p.0, size))) ∙ p.1 in
    let few : run name_byte x ≤ m = run_within name_byte x m (omega (arith, p.0, size, line_le x)) (rw there colon) in
    omega (arith, few, p.0, size)

folds_size : {n : ℕ} {f : List ℕ} → Folds n f → n + 2 ≤ length f
folds_size Folds.end = omega arith
folds_size (Folds.byte h k f) = omega (arith, folds_size f)
folds_size (Folds.fold h f) = omega arith

module _ (field : List ℕ) (t : T (is_formed field)) where
  pub value_folded : Folded (value_of field)
  unfolding value_of
  value_folded =
      let f = formed_folds field t in
      let y = folds_end f in
      let k = name_len field + 1 in
      let size : length field - 2 ≡ length y.0 = omega (arith, ap length y.1, length-append y.0 (13 ∷ 10 ∷ [])) in
      let cut : take (length field - 2) field ≡ y.0 = rw size (ap (take (length y.0)) y.1 ∙ take_at y.0 (13 ∷ 10 ∷ []) (length y.0) refl) in
      let few : k ≤ length y.0 = omega (arith, name_inside field t, folds_size f, size) in
      let same : take k field ≡ take k y.0 = ap (take k) y.1 ∙ take-append-le k y.0 (13 ∷ 10 ∷ []) few in
      let front : T (all line_byte (take k y.0)) = rw same at (folds_front f k (name_inside field t)) in
      rw cut (folded_past (folded_of f y.0 y.1) (take k y.0) (drop k y.0) (sym (take-append-drop k y.0)) front)

-- without its leading white space
lf_spacing : spacing 10 ≡ true
unfolding spacing blank
lf_spacing = refl

module _ (v : List ℕ) where
  pub after_gap : run spacing v < length v → spacing (get_or (drop (run spacing v) v) 0 0) ≡ false
  after_gap k = rw (get_or-drop (run spacing v) v 0 0, add-zero) (run_after spacing v k)

  pub folded_start : Folded v → Folded (drop (run spacing v) v)
  folded_start f =
      folded_drop f (run spacing v)
      (λ e. by_test (leb (length v) (run spacing v))
      (λ t. absurd (omega (arith, rw (drop_of_length-le v {i = run spacing v} (leb_yes t)) at e)))
      (λ t. let z : true ≡ false = sym lf_spacing ∙ rw e at (after_gap (leb_no {a = length v} {b = run spacing v} t)) in absurd (let w : ◌≡◌ {A = ℕ} 0 1 = cc in omega arith)))

  trim : trimmed (without_breaks v) ≡ without_breaks (drop (run spacing v) v)
  unfolding trimmed
  trim =
      let n = run spacing v in
      let g = without_breaks (take n v) in
      let r = without_breaks (drop n v) in
      let whole : without_breaks v ≡ g ++ r = ap without_breaks (sym (take-append-drop n v)) ∙ breaks_append (take n v) (drop n v) in
      let size : run blank (g ++ r) ≡ length g = run_past blank g r (gap_blank (take n v) (run_all spacing v)) ∙ omega (arith, rest_none) in
      rw (whole, size) (drop_at g r (length g) refl)
    where
      rest_none : run blank (without_breaks (drop (run spacing v) v)) ≡ 0
      rest_none =
          by_test (leb (length v) (run spacing v))
          (λ t. rw (drop_of_length-le v {i = run spacing v} (leb_yes t)) nil_run)
          (λ t. let k : run spacing v < length v = leb_no t in solid_front (drop (run spacing v) v) (rw length-drop (omega arith)) (after_gap k))

pub text_is : (field : List ℕ) → T (is_formed field) → text_of field ≡ without_breaks (drop (run spacing (value_of field)) (value_of field))
unfolding text_of
text_is field t = rw (unfolds (value_folded field t)) (trim (value_of field))
