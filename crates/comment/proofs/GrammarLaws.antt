-- `comment_len` takes exactly what the grammar makes.
use Rattle.std.proofs.Common.{eqb-true, sym, ◌∙◌, append_assoc, arith, length-append}
use Rattle.std.specs.Prelude.{◌≡◌, refl, Bool, true, false, not, ◌&&◌, ◌||◌, List, [], ◌∷◌, ◌++◌, ℕ, zero, suc, ◌+◌, ◌<◌, eqb, length, take}
use Rattle.std.proofs.Math.Bool.{and-false}
use Rattle.unquote.specs.Unquote.{escapes}
use Rattle.comment.specs.Comment.{is_paren, past, closing, comment_len}
use Rattle.comment.proofs.CommentLaws.{past_some, past_none, past_past, past_zero, Turn, opens, closes, keeps, turn, step_open, step_close, step_last, step_keep}
use Rattle.comment.specs.Grammar.{is_plain, Inside, nothing, plain, escaped, nested, Comment, comment}

-- ---- every comment is taken

plain_keeps : (b : ℕ) → is_plain b ≡ true → is_paren b && true ≡ false
plain_keeps b = go (is_paren b) (eqb b 92)
  where
    go : (x y : Bool) → not (x || y) ≡ true → x && true ≡ false
    go true y h = sym h
    go false y h = refl

plain_escapes : (b : ℕ) → is_plain b ≡ true → escapes false b ≡ false
plain_escapes b = go (is_paren b) (eqb b 92)
  where
    go : (x y : Bool) → not (x || y) ≡ true → y ≡ false
    go true y h = absurd (let z : ◌≡◌ {A = ℕ} 0 1 = cc in omega arith)
    go false true h = sym h
    go false false h = refl

-- the inside of a comment leaves as many parentheses open as there were
inside_passed : {c : List ℕ} → Inside c → (d : ℕ) (u : List ℕ) → closing (suc d) false (c ++ u) ≡ past (length c) (closing (suc d) false u)
inside_passed nothing d u = sym (past_zero (closing (suc d) false u))
inside_passed (plain {b} {s} h i) d u =
    let n : 1 + length s ≡ suc (length s) = omega arith in
    rw (step_keep d (s ++ u) false b (plain_keeps b h), plain_escapes b h, inside_passed i d u, past_past 1 (length s), n)
inside_passed (escaped {b} {s} i) d u =
    let n : 1 + (1 + length s) ≡ suc (suc (length s)) = omega arith in
    rw (step_keep d (b ∷ s ++ u) false 92 refl, step_keep d (s ++ u) true b (and-false (is_paren b)), inside_passed i d u, past_past 1 (length s), past_past 1 (1 + length s), n)
inside_passed (nested {c} {s} i j) d u =
    let n : 1 + (length c + (1 + length s)) ≡ suc (length (c ++ (41 ∷ s))) = omega (arith, length-append c (41 ∷ s)) in
    rw (append_assoc c (41 ∷ s) u, step_open (suc d), inside_passed i (suc d) (41 ∷ s ++ u), step_close d (s ++ u), inside_passed j d u, past_past 1 (length s), past_past (length c) (1 + length s), past_past 1 (length c + (1 + length s)), n)

-- the comment at the front of a text is taken, whatever follows
pub comment_taken : {c : List ℕ} → Comment c → (t : List ℕ) → comment_len (c ++ t) ≡ length c
unfolding comment_len
comment_taken (comment {c} i) t =
    rw (append_assoc c (41 ∷ []) t, step_open 0, inside_passed i 0 (41 ∷ t), step_last 0 t, past_past 1 (length c))
    (past_some (1 + length c) 1 (omega arith) ∙ omega (arith, length-append c (41 ∷ [])))

-- ---- all that is taken is a comment

-- a text that closes one more than d parentheses, the last one at its end
data Closes : ℕ → List ℕ → Type 0 where
  last : {c : List ℕ} → Inside c → Closes 0 (c ++ (41 ∷ []))
  more : {c r : List ℕ} {d : ℕ} → Inside c → Closes d r → Closes (suc d) (c ++ (41 ∷ r))

-- the same, or after a backslash
data After : Bool → ℕ → List ℕ → Type 0 where
  here : {d : ℕ} {s : List ℕ} → Closes d s → After false d s
  skip : {d b : ℕ} {s : List ℕ} → Closes d s → After true d (b ∷ s)

put_plain : {d b : ℕ} {s : List ℕ} → is_plain b ≡ true → Closes d s → Closes d (b ∷ s)
put_plain h (last i) = last (plain h i)
put_plain h (more i r) = more (plain h i) r

put_escaped : {d b : ℕ} {s : List ℕ} → Closes d s → Closes d (92 ∷ b ∷ s)
put_escaped (last i) = last (escaped i)
put_escaped (more i r) = more (escaped i) r

put_open : {d : ℕ} {s : List ℕ} → Closes (suc d) s → Closes d (40 ∷ s)
put_open (more {c = c} i (last {c = e} j)) = rw (← append_assoc c (41 ∷ e) (41 ∷ [])) (last (nested i j))
put_open (more {c = c} i (more {c = e} {r = r} j k)) = rw (← append_assoc c (41 ∷ e) (41 ∷ r)) (more (nested i j) k)

-- a length past one byte more
past_one : (m n : ℕ) → n ≡ past 1 m → 0 < n → (0 < m) × (n ≡ suc m)
past_one zero n h k = absurd (omega (arith, past_none 1))
past_one (suc m) n h k = (omega arith, omega (arith, past_some 1 (suc m) (omega arith)))

abbrev Sound : List ℕ → Bool → Type 0
Sound s e = (d n : ℕ) → n ≡ closing (suc d) e s → 0 < n → After e d (take n s)

unescaped : {d : ℕ} {s : List ℕ} → After false d s → Closes d s
unescaped (here c) = c

after_backslash : {d : ℕ} {s : List ℕ} → After true d s → Closes d (92 ∷ s)
after_backslash (skip c) = put_escaped c

to_plain : (b : ℕ) → is_paren b && true ≡ false → eqb b 92 ≡ false → is_plain b ≡ true
to_plain b h k = go (is_paren b) (eqb b 92) h k
  where
    go : (x y : Bool) → x && true ≡ false → y ≡ false → not (x || y) ≡ true
    go true y h k = sym h
    go false y h k = rw k

module _ (s : List ℕ) (ih : (e : Bool) → Sound s e) where
  -- a byte that is not escaped and no parenthesis
  sound_keep : (b : ℕ) (x : Bool) → is_paren b && true ≡ false → eqb b 92 ≡ x → Sound (b ∷ s) false
  sound_keep b true q e d n h k =
      let m = closing (suc d) true s in
      let p = past_one m n (rw e at (h ∙ step_keep d s false b q)) k in
      rw (p.1, eqb-true b 92 e) (here (after_backslash (ih true d m refl p.0)))
  sound_keep b false q e d n h k =
      let m = closing (suc d) false s in
      let p = past_one m n (rw e at (h ∙ step_keep d s false b q)) k in
      rw p.1 (here (put_plain (to_plain b q e) (unescaped (ih false d m refl p.0))))

  sound_step : (e : Bool) (b : ℕ) → Turn e b → Sound (b ∷ s) e
  sound_step e b opens d n h k =
      let m = closing (suc (suc d)) false s in
      let p = past_one m n (h ∙ step_open (suc d) s) k in
      rw p.1 (here (put_open (unescaped (ih false (suc d) m refl p.0))))
  sound_step e b closes zero n h k = rw (h ∙ step_last 0 s) (here (last nothing))
  sound_step e b closes (suc d) n h k =
      let m = closing (suc d) false s in
      let p = past_one m n (h ∙ step_close d s) k in
      rw p.1 (here (more nothing (unescaped (ih false d m refl p.0))))
  sound_step true b (keeps q) d n h k =
      let m = closing (suc d) false s in
      let p = past_one m n (h ∙ step_keep d s true b q) k in
      rw p.1 (skip (unescaped (ih false d m refl p.0)))
  sound_step false b (keeps q) d n h k = sound_keep b (eqb b 92) q refl d n h k

sound : (s : List ℕ) (e : Bool) → Sound s e
unfolding closing
sound [] e d n h k = absurd (omega arith)
sound (b ∷ s) e d n h k = sound_step s (sound s) e b (turn e b) d n h k

to_comment : {s : List ℕ} → Closes 0 s → Comment (40 ∷ s)
to_comment (last i) = comment i

first_opens : (b : ℕ) (s : List ℕ) → 0 < comment_len (b ∷ s) → b ≡ 40
unfolding comment_len
first_opens b s h = go (eqb b 40) refl
  where
    go : (x : Bool) → eqb b 40 ≡ x → b ≡ 40
    go true e = eqb-true b 40 e
    go false e = let z : 0 < 0 = rw e at h in absurd (omega arith)

none_empty : comment_len [] ≡ 0
unfolding comment_len
none_empty = refl

opened : (s : List ℕ) → comment_len (40 ∷ s) ≡ past 1 (closing 1 false s)
unfolding comment_len
opened s = step_open 0 s

-- what is taken is a comment
pub taken_comment : (s : List ℕ) → 0 < comment_len s → Comment (take (comment_len s) s)
taken_comment [] h = let z : 0 < 0 = rw none_empty at h in absurd (omega arith)
taken_comment (b ∷ s) h =
    let e = first_opens b s h in
    let m = closing 1 false s in
    let p = past_one m (comment_len (40 ∷ s)) (opened s) (rw e at h) in
    rw (e, p.1) (to_comment (unescaped (sound s false 0 m refl p.0)))
