-- Laws of comments and runs: by position in a text, as code goes through it.
use borrow.Author.Tests.{ne_eqb, eqb-true}
use Rattle.std.specs.Prelude.{◌≡◌, Bool, ◌&&◌, ◌||◌, ℕ, zero, suc, ◌+◌, ◌-◌, ◌≤◌, ◌<◌, eqb, take, drop, Option, Some, None}
use Rattle.std.proofs.Math.Path.{refl}
use Rattle.std.proofs.Common.{sym, ◌∙◌, ap, le_of_suc-le-suc, drop_of_length-le}
use Rattle.std.proofs.Math.Bool.{true, false, not, cond, or-false}
use mathlib.Core.List.{List, [], ◌∷◌}
use Rattle.std.proofs.Math.Numerals.{add-one}
use native.Mathlib.Omega.{arith}
use Rattle.std.proofs.Math.ListN.{length, get_or, length-drop}
use Rattle.std.proofs.Math.Seq.{drop-cons, drop-drop, get_or-drop}
use Rattle.std.proofs.Math.Facts.{and_yes}
use Rattle.lists.specs.Lists.{nonzero}
use Rattle.lists.specs.ListsLaws.{cond_has, yes_true}
use Rattle.unquote.specs.Unquote.{escapes}
use Rattle.comment.specs.Comment.{is_paren, past, depth_after, closing, comment_len, end_of, run_to, run_len}
use Rattle.comment.specs.CommentLaws.{close_at}

-- ---- past

pub past_some : (k n : ℕ) → 0 < n → past k n ≡ k + n
unfolding past
past_some k zero h = absurd (omega arith)
past_some k (suc n) h = refl

pub past_none : (k : ℕ) → past k 0 ≡ 0
unfolding past
past_none k = refl

pub past_past : (j k n : ℕ) → past j (past k n) ≡ past (j + k) n
past_past j k zero = rw (past_none k, past_none j, past_none (j + k))
past_past j k (suc n) =
    rw (past_some k (suc n) (omega arith), past_some j (k + suc n) (omega arith), past_some (j + k) (suc n) (omega arith))
    (omega arith)

-- a first part of n bytes, and what follows it; 0 where there is no first part
unfoldable pub and_then : ℕ → (List ℕ → ℕ) → List ℕ → ℕ
and_then zero f s = 0
and_then (suc n) f s = past (suc n) (f (drop (suc n) s))

and_then_later : (n : ℕ) (f : List ℕ → ℕ) (b : ℕ) (s : List ℕ) → and_then (past 1 n) f (b ∷ s) ≡ past 1 (and_then n f s)
unfolding and_then past
and_then_later zero f b s = refl
and_then_later (suc n) f b s =
    let e : past 1 (suc n) ≡ suc (suc n) = past_some 1 (suc n) (omega arith) ∙ omega arith in
    let k : 1 + suc n ≡ suc (suc n) = omega arith in
    rw (e, past_past 1 (suc n), k)

and_then_one : (f : List ℕ → ℕ) (b : ℕ) (s : List ℕ) → and_then 1 f (b ∷ s) ≡ past 1 (f s)
unfolding and_then
and_then_one f b s = refl

-- ---- one byte

-- what a byte does: it opens a parenthesis, closes one, or neither
pub data Turn : Bool → ℕ → Type 0 where
  opens : Turn false 40
  closes : Turn false 41
  keeps : {e : Bool} {b : ℕ} → is_paren b && not e ≡ false → Turn e b

pub turn : (e : Bool) (b : ℕ) → Turn e b
turn true b = keeps (go (is_paren b))
  where
    go : (x : Bool) → x && false ≡ false
    go true = refl
    go false = refl
turn false b = go (eqb b 40) (eqb b 41) refl refl
  where
    go : (x y : Bool) → eqb b 40 ≡ x → eqb b 41 ≡ y → Turn false b
    go true y p q = rw (eqb-true b 40 p) opens
    go false true p q = rw (eqb-true b 41 q) closes
    go false false p q = keeps {e = false} {b = b} (rw (p, q))

depth_close : (d : ℕ) → depth_after false (suc d) 41 ≡ d
unfolding depth_after
depth_close d = omega arith

depth_keep : (e : Bool) (d b : ℕ) → is_paren b && not e ≡ false → depth_after e d b ≡ d
unfolding depth_after
depth_keep true d b h = refl
depth_keep false d b h = go (eqb b 40) (eqb b 41) h
  where
    go : (x y : Bool) → (x || y) && true ≡ false → cond x (suc d) (cond y (d - 1) d) ≡ d
    go true y h = absurd (let z : ◌≡◌ {A = ℕ} 0 1 = cc in omega arith)
    go false true h = absurd (let z : ◌≡◌ {A = ℕ} 0 1 = cc in omega arith)
    go false false h = refl

-- a byte after which a parenthesis is open
step : (e : Bool) (d k b : ℕ) (s : List ℕ) → depth_after e d b ≡ suc k → closing d e (b ∷ s) ≡ past 1 (closing (suc k) (escapes e b) s)
unfolding closing
step e d k b s h = rw (h, ne_eqb (suc k) 0 (λ z. omega arith))

module _ (d : ℕ) (s : List ℕ) where
  pub step_open : closing d false (40 ∷ s) ≡ past 1 (closing (suc d) false s)
  unfolding depth_after
  step_open = step false d d 40 s refl

  pub step_close : closing (suc (suc d)) false (41 ∷ s) ≡ past 1 (closing (suc d) false s)
  step_close = step false (suc (suc d)) d 41 s (depth_close (suc d))

  pub step_last : closing 1 false (41 ∷ s) ≡ 1
  unfolding closing
  step_last = rw (depth_close 0)

  pub step_keep : (e : Bool) (b : ℕ) → is_paren b && not e ≡ false → closing (suc d) e (b ∷ s) ≡ past 1 (closing (suc d) (escapes e b) s)
  step_keep e b h = step e (suc d) d b s (depth_keep e (suc d) b h)

-- ---- a comment inside a comment: it is closed first, and then what is around it

abbrev Nested : List ℕ → Bool → Type 0
Nested s e = (k d m : ℕ) → m ≡ k + suc d → closing (suc m) e s ≡ and_then (closing (suc k) e s) (closing (suc d) false) s

nested_step : (s : List ℕ) (e : Bool) (b : ℕ) → Turn e b → ((e : Bool) → Nested s e) → Nested (b ∷ s) e
nested_step s e b opens ih k d m h =
    rw (step_open (suc m) s, step_open (suc k) s, and_then_later, ih false (suc k) d (suc m) (omega arith))
nested_step s e b closes ih zero d m h =
    let n : m ≡ suc d = omega arith in
    rw (n, step_close d s, step_last 0 s, and_then_one)
nested_step s e b closes ih (suc k) d m h =
    let n : m ≡ suc (k + suc d) = omega arith in
    rw (n, step_close (k + suc d) s, step_close k s, and_then_later, ih false k d (k + suc d) refl)
nested_step s e b (keeps h) ih k d m q =
    rw (step_keep m s e b h, step_keep k s e b h, and_then_later, ih (escapes e b) k d m q)

pub nested : (s : List ℕ) (e : Bool) → Nested s e
unfolding closing and_then
nested [] e k d m h = refl
nested (b ∷ s) e k d m h = nested_step s e b (turn e b) (nested s) k d m h

-- ---- runs

module _ (f : ℕ → Bool) where
  run_step : (e : Bool) (b : ℕ) (s : List ℕ) → f b && not e ≡ false → run_to f e (b ∷ s) ≡ suc (run_to f (escapes e b) s)
  unfolding run_to
  run_step e b s h = rw h

  run_none : (e : Bool) (b : ℕ) (s : List ℕ) → f b && not e ≡ true → run_to f e (b ∷ s) ≡ 0
  unfolding run_to
  run_none e b s h = rw h

  pub run_within : (s : List ℕ) (e : Bool) → run_to f e s ≤ length s
  unfolding run_to
  run_within [] e = omega arith
  run_within (b ∷ s) e = go (f b && not e) (run_to f (escapes e b) s) (run_within s (escapes e b))
    where
      go : (x : Bool) (n : ℕ) → n ≤ length s → cond x 0 (suc n) ≤ length (b ∷ s)
      go true n h = omega arith
      go false n h = omega arith

  -- what stops a run passes the test
  pub stops : (s : List ℕ) (e : Bool) → run_to f e s < length s → f (get_or s (run_to f e s) 0) ≡ true
  unfolding run_to
  stops [] e = λ h. absurd (omega arith)
  stops (b ∷ s) e =
      let more = stops s (escapes e b) in
      cond_has (λ n. n < length (b ∷ s) → f (get_or (b ∷ s) n 0) ≡ true) (f b && not e) 0 (suc (run_to f (escapes e b) s))
      (λ t h. yes_true (f b) (and_yes (f b) (not e) t).0)
      (λ t h. more (le_of_suc-le-suc h))

  -- by position
  module _ (s : List ℕ) (i : ℕ) (e : Bool) where
    module _ (h : i < length s) where
      pub run_more : f (get_or s i 0) && not e ≡ false → i + run_to f e (drop i s) ≡ i + 1 + run_to f (escapes e (get_or s i 0)) (drop (i + 1) s)
      run_more t = rw (add-one i, drop-cons s i 0 h, run_step e (get_or s i 0) (drop (suc i) s) t) (omega arith)

      pub run_stop : f (get_or s i 0) && not e ≡ true → i + run_to f e (drop i s) ≡ i
      run_stop t = rw (drop-cons s i 0 h, run_none e (get_or s i 0) (drop (suc i) s) t) (omega arith)

    pub run_over : length s ≤ i → i + run_to f e (drop i s) ≡ i
    unfolding run_to
    run_over h = rw (drop_of_length-le s {i = i} h) (omega arith)

-- a run is passed over
abbrev Passed : List ℕ → Bool → Type 0
Passed s e = (d : ℕ) → closing (suc d) e s ≡ past (run_to is_paren e s) (closing (suc d) false (drop (run_to is_paren e s) s))

pub past_zero : (n : ℕ) → past 0 n ≡ n
unfolding past
past_zero zero = refl
past_zero (suc n) = omega arith

passed_step : (s : List ℕ) (e : Bool) (b : ℕ) → Turn e b → ((e : Bool) → Passed s e) → Passed (b ∷ s) e
passed_step s e b opens ih d = rw (run_none is_paren false 40 s refl, past_zero)
passed_step s e b closes ih d = rw (run_none is_paren false 41 s refl, past_zero)
passed_step s e b (keeps h) ih d =
    let n = run_to is_paren (escapes e b) s in
    let k : 1 + n ≡ suc n = omega arith in
    rw (run_step is_paren e b s h, step_keep d s e b h, ih (escapes e b) d, past_past 1 n, k)

pub passed : (s : List ℕ) (e : Bool) → Passed s e
unfolding closing run_to past
passed [] e d = refl
passed (b ∷ s) e d = passed_step s e b (turn e b) (passed s) d

-- in a run no parenthesis opens or closes: it is the run of its own bytes
abbrev Whole : List ℕ → Bool → Type 0
Whole s e = run_to is_paren e (take (run_to is_paren e s) s) ≡ run_to is_paren e s

whole_step : (s : List ℕ) (e : Bool) (b : ℕ) → Turn e b → ((e : Bool) → Whole s e) → Whole (b ∷ s) e
unfolding run_to
whole_step s e b opens ih = refl
whole_step s e b closes ih = refl
whole_step s e b (keeps h) ih = rw (h, h, ih (escapes e b))

pub run_whole : (s : List ℕ) (e : Bool) → Whole s e
unfolding run_to
run_whole [] e = refl
run_whole (b ∷ s) e = whole_step s e b (turn e b) (run_whole s)

module _ (s : List ℕ) (d i : ℕ) where
  pub close_end : length s ≤ i → close_at d s i ≡ 0
  unfolding close_at closing
  close_end h = rw (drop_of_length-le s {i = i} h) (past_none i)

  module _ (h : i < length s) where
    open_at : get_or s i 0 ≡ 40 → close_at d s i ≡ close_at (suc d) s (i + 1)
    unfolding close_at
    open_at e = rw (add-one i, drop-cons s i 0 h, e, step_open, past_past i 1, add-one i)

    close_at_lem : get_or s i 0 ≡ 41 → close_at (suc d) s i ≡ close_at d s (i + 1)
    unfolding close_at
    close_at_lem e = rw (add-one i, drop-cons s i 0 h, e, step_close, past_past i 1, add-one i)

    last_at : get_or s i 0 ≡ 41 → close_at 0 s i ≡ i + 1
    unfolding close_at
    last_at e = rw (drop-cons s i 0 h, e, step_last d) (past_some i 1 (omega arith))

-- the run from i ends at p
module _ (s : List ℕ) (d i p : ℕ) (r : p ≡ i + run_len (drop i s)) where
  run_to_lem : close_at d s i ≡ close_at d s p
  unfolding close_at run_len
  run_to_lem = rw (passed (drop i s) false d, past_past i, drop-drop, ← r)

  pub run_unclosed : length s ≤ p → close_at d s i ≡ 0
  run_unclosed h = run_to_lem ∙ close_end s d p h

  module _ (h : p < length s) where
    -- a parenthesis is there, which opens where it does not close
    opens_else : (get_or s p 0 ≡ 41 → ⊥) → get_or s p 0 ≡ 40
    unfolding run_len
    opens_else k =
        let n = run_to is_paren false (drop i s) in
        let here : get_or (drop i s) n 0 ≡ get_or s p 0 = get_or-drop i s n 0 ∙ rw (← r) in
        let paren : is_paren (get_or s p 0) ≡ true = rw (← here) (stops is_paren (drop i s) false (omega (arith, length-drop i s))) in
        eqb-true (get_or s p 0) 40 (rw (ne_eqb (get_or s p 0) 41 k, or-false (eqb (get_or s p 0) 40)) at paren)

    pub run_opens : (get_or s p 0 ≡ 41 → ⊥) → close_at d s i ≡ close_at (d + 1) s (p + 1)
    run_opens n = run_to_lem ∙ rw (add-one d) (open_at s d p h (opens_else n))

    pub run_closes : get_or s p 0 ≡ 41 → (d ≡ 0 → ⊥) → close_at d s i ≡ close_at (d - 1) s (p + 1)
    run_closes e n = let k : d ≡ suc (d - 1) = omega arith in run_to_lem ∙ (ap (λ d. close_at d s p) k ∙ close_at_lem s (d - 1) p h e)

    pub run_closes_last : get_or s p 0 ≡ 41 → d ≡ 0 → close_at d s i ≡ p + 1
    run_closes_last e z = run_to_lem ∙ (ap (λ d. close_at d s p) z ∙ last_at s d p h e)

then_none : (i n : ℕ) (f : List ℕ → ℕ) (s : List ℕ) → past i n ≡ 0 → past i (and_then n f s) ≡ 0
unfolding past and_then
then_none i zero f s h = refl
then_none i (suc n) f s h = absurd (omega arith)

then_some : (i e n : ℕ) (f : List ℕ → ℕ) (s : List ℕ) → e ≡ past i n → (e ≡ 0 → ⊥) → past i (and_then n f (drop i s)) ≡ past e (f (drop e s))
unfolding and_then
then_some i e zero f s h k = absurd (k (h ∙ past_none i))
then_some i e (suc n) f s h k = let q : e ≡ i + suc n = h ∙ past_some i (suc n) (omega arith) in rw (past_past i (suc n), drop-drop, q)

past_beyond : (i e n : ℕ) → e ≡ past i n → (e ≡ 0 → ⊥) → i < e
past_beyond i e zero h k = absurd (k (h ∙ past_none i))
past_beyond i e (suc n) h k = omega (arith, past_some i (suc n) (omega arith))

-- e is past the comment whose inside starts at i, in a comment
module _ (s : List ℕ) (i e : ℕ) (r : e ≡ close_at 0 s i) where
  pub nested_none : e ≡ 0 → close_at 1 s i ≡ 0
  unfolding close_at
  nested_none z = rw (nested (drop i s) false 0 0 1 refl) (then_none i (closing 1 false (drop i s)) (closing 1 false) (drop i s) (sym r ∙ z))

  module _ (n : e ≡ 0 → ⊥) where
    pub nested_some : close_at 1 s i ≡ close_at 0 s e
    unfolding close_at
    nested_some = rw (nested (drop i s) false 0 0 1 refl) (then_some i e (closing 1 false (drop i s)) (closing 1 false) s r n)

    pub nested_beyond : i < e
    unfolding close_at
    nested_beyond = past_beyond i e (closing 1 false (drop i s)) r n

-- ---- a whole comment

after_none : (i n : ℕ) → past (i + 1) n ≡ 0 → i + past 1 n ≡ i
after_none i zero h = rw (past_none 1) (omega arith)
after_none i (suc n) h = absurd (omega (arith, past_some (i + 1) (suc n) (omega arith)))

after_some : (i e n : ℕ) → e ≡ past (i + 1) n → (e ≡ 0 → ⊥) → i + past 1 n ≡ e
after_some i e zero h k = absurd (k (h ∙ past_none (i + 1)))
after_some i e (suc n) h k = omega (arith, past_some (i + 1) (suc n) (omega arith), past_some 1 (suc n) (omega arith))

-- the end of a comment of n bytes, by where the comment inside it is closed
end_after : (i n m : ℕ) → (m ≡ 0 → i + n ≡ i) → ((m ≡ 0 → ⊥) → i + n ≡ m) → ((m ≡ 0 → ⊥) → i + 1 < m) → nonzero m ≡ end_of i n
end_after i zero zero none some beyond = refl
end_after i (suc n) zero none some beyond = absurd (omega (arith, none refl))
end_after i zero (suc m) none some beyond = absurd (omega (arith, some (λ z. omega arith), beyond (λ z. omega arith)))
end_after i (suc n) (suc m) none some beyond = let k : suc m ≡ i + suc n = sym (some (λ z. omega arith)) in rw k

no_end : (at n : ℕ) → None ≡ end_of at n → n ≡ 0
no_end at zero e = refl
no_end at (suc n) e = absurd (let z : ◌≡◌ {A = ℕ} 0 1 = cc in omega arith)

an_end : (at n e : ℕ) → Some e ≡ end_of at n → (e ≡ at + n) × (0 < n)
an_end at zero e q = absurd (let z : ◌≡◌ {A = ℕ} 0 1 = cc in omega arith)
an_end at (suc n) e q = (cc, omega arith)

-- what is found is the end of a comment of n bytes
module _ {o : Option ℕ} (at n : ℕ) (r : o ≡ end_of at n) where
  pub not_ended : o ≡ None → n ≡ 0
  not_ended e = no_end at n (sym e ∙ r)

  pub ended_at : {e : ℕ} → o ≡ Some e → e ≡ at + n
  ended_at {e} q = (an_end at n e (sym q ∙ r)).0

  pub ended_some : {e : ℕ} → o ≡ Some e → 0 < n
  ended_some {e} q = (an_end at n e (sym q ∙ r)).1

module _ (s : List ℕ) (i : ℕ) where
  pub comment_over : length s ≤ i → None ≡ end_of i (comment_len (drop i s))
  unfolding comment_len
  comment_over h = rw (drop_of_length-le s {i = i} h)

  module _ (h : i < length s) where
    pub comment_other : (get_or s i 0 ≡ 40 → ⊥) → None ≡ end_of i (comment_len (drop i s))
    unfolding comment_len
    comment_other n = rw (drop-cons s i 0 h, ne_eqb (get_or s i 0) 40 n)

    module _ (t : get_or s i 0 ≡ 40) where
      starts : comment_len (drop i s) ≡ past 1 (closing 1 false (drop (i + 1) s))
      unfolding comment_len
      starts = rw (add-one i, drop-cons s i 0 h, t, step_open)

      -- the inside of the comment starts at i + 1
      pub comment_ends : nonzero (close_at 0 s (i + 1)) ≡ end_of i (comment_len (drop i s))
      unfolding close_at
      comment_ends =
          let inner : ℕ = closing 1 false (drop (i + 1) s) in
          rw starts (end_after i (past 1 inner) (past (i + 1) inner) (after_none i inner) (after_some i (past (i + 1) inner) inner refl) (past_beyond (i + 1) (past (i + 1) inner) inner refl))

-- a comment lies in the text
closing_within : (s : List ℕ) (d : ℕ) (e : Bool) → closing d e s ≤ length s
unfolding closing
closing_within [] d e = omega arith
closing_within (b ∷ s) d e = go (eqb (depth_after e d b) 0) (closing (depth_after e d b) (escapes e b) s) (closing_within s (depth_after e d b) (escapes e b))
  where
    go : (x : Bool) (n : ℕ) → n ≤ length s → cond x 1 (past 1 n) ≤ length (b ∷ s)
    go true n h = omega arith
    go false zero h = rw (past_none 1) (omega arith)
    go false (suc n) h = rw (past_some 1 (suc n) (omega arith)) (omega arith)

pub comment_within : (s : List ℕ) → comment_len s ≤ length s
unfolding comment_len
comment_within s = go (eqb (get_or s 0 0) 40)
  where
    go : (x : Bool) → cond x (closing 0 false s) 0 ≤ length s
    go true = closing_within s 0 false
    go false = omega arith
