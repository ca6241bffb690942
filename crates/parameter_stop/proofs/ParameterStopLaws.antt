-- Laws of the tail of an envelope line by one byte at a time.
use Rattle.std.specs.Prelude.{◌≡◌, refl, Bool, true, false, not, cond, ◌&&◌, ◌||◌, List, [], ◌∷◌, ℕ, suc, ◌+◌, ◌≤◌, ◌<◌, T, leb, ltb, eqb, length, take, drop, get_or}
use Rattle.std.proofs.Common.{sym, ◌∙◌, add-one, arith, eqb→eq, le-leb, lt-ltb, ne_eqb}
use Rattle.std.proofs.Math.Bool.{and-true, and-false, and_assoc}
use Rattle.std.proofs.Math.Dec.{leb-suc-suc}
use Rattle.std.proofs.lemmas.Bool.{lt-leb}
use Rattle.lists.specs.Lists.{all, nonempty}
use Rattle.lists.specs.ListsLaws.{by_test, cond_has, yes_true, no_false}
use Rattle.lists.specs.Run.{run}
use Rattle.letter_case.specs.LetterCase.{bytes, lower}
use Rattle.parameter.specs.Parameter.{not_space, params, spaced, is_keyword_byte, keyword_len, keyword, has_value, value, is_orcpt, is_alt, is_value_byte, is_param, alts, alts_ok}
use Rattle.parameter.specs.ParameterLaws.{param_at, param_end, params_at, params_end}
use Rattle.line_stop.proofs.ProductLaws.{Tells, Completes}
use Rattle.line_stop.specs.Word.{is_next, matched}
use Rattle.line_stop.proofs.WordLaws.{names, names_none, names_end, names_step}
use Rattle.parameter_stop.specs.declared.Tail.{Tail}
use Rattle.parameter_stop.specs.declared.Tail.TheVariants.{Start, Due, Key, Equals, Value, Off}
use Rattle.parameter_stop.specs.ParameterStop.{key_more, start_step, due_step, key_end, key_step, equals_step, value_step, tail_step, tail_done, tail_live, tail_need, tail}

-- ---- parameters one after another, where an ALT-ADDRESS has come or not

unfoldable pub row_ok : Bool → List (List ℕ) → Bool
row_ok seen [] = true
row_ok seen (p ∷ ps) = (is_param p && (not (is_alt p) || (not seen && has_value p))) && row_ok (is_alt p || seen) ps

abbrev none : List (List ℕ) → Bool
none [] = true
none (p ∷ ps) = false

row_seen : (ps : List (List ℕ)) → row_ok true ps ≡ all is_param ps && none (alts ps)
unfolding row_ok alts
row_seen [] = refl
row_seen (p ∷ ps) =
    by_test (is_alt p)
    (λ t. rw (yes_true (is_alt p) t, and-false (is_param p), and-false (is_param p && all is_param ps)))
    (λ t. rw (no_false (is_alt p) t, and-true (is_param p), row_seen ps) (sym (and_assoc (is_param p) (all is_param ps) (none (alts ps)))))

only : (p : List ℕ) (ps : List (List ℕ)) → alts_ok (p ∷ ps) ≡ has_value p && none ps
unfolding alts_ok
only p [] = sym (and-true (has_value p))
only p (q ∷ ps) = sym (and-false (has_value p))

shuffle : (a b c d : Bool) → (a && b) && (c && d) ≡ (a && c) && (b && d)
shuffle true true c d = refl
shuffle true false c d = sym (and-false c)
shuffle false b c d = refl

row_is : (ps : List (List ℕ)) → row_ok false ps ≡ all is_param ps && alts_ok (alts ps)
unfolding row_ok alts alts_ok
row_is [] = refl
row_is (p ∷ ps) =
    by_test (is_alt p)
    (λ t. rw (yes_true (is_alt p) t, row_seen ps, only p (alts ps)) (shuffle (is_param p) (has_value p) (all is_param ps) (none (alts ps))))
    (λ t. rw (no_false (is_alt p) t, and-true (is_param p), row_is ps) (sym (and_assoc (is_param p) (all is_param ps) (alts_ok (alts ps)))))

params_cons : (b : ℕ) (l : List ℕ) → params (b ∷ l) ≡ take (run not_space l) l ∷ params (drop (run not_space l) l)
unfolding param_at param_end
params_cons b l =
    let e : 0 + 1 + run not_space l ≡ suc (run not_space l) = omega arith in
    params_at (b ∷ l) 0 (omega arith) ∙ rw e

-- ---- what completes a tail

-- a keyword of which bytes have come, by how many of the two words they are; t is what is left up to the next space
unfoldable pub key_rest : ℕ → ℕ → Bool → List ℕ → List (List ℕ) → Bool
key_rest a o seen t ps =
    let k = run is_keyword_byte t in
    let alt = names (bytes "ALT-ADDRESS") a (take k t) in
    let v = drop (suc k) t in
    cond (ltb k (length t))
    (((eqb (get_or t k 0) 61 && nonempty v) && all (is_value_byte (names (bytes "ORCPT") o (take k t))) v) && (not (alt && seen) && row_ok (alt || seen) ps))
    (not alt && row_ok seen ps)

unfoldable pub tail_rest : Tail → List ℕ → Bool
tail_rest Start l = (spaced l && all is_param (params l)) && alts_ok (alts (params l))
tail_rest (Due seen) l = row_ok seen (params (32 ∷ l))
tail_rest (Key a o seen) l = key_rest a o seen (take (run not_space l) l) (params (drop (run not_space l) l))
tail_rest (Equals o seen) l = let t = take (run not_space l) l in (nonempty t && all (is_value_byte o) t) && row_ok seen (params (drop (run not_space l) l))
tail_rest (Value o seen) l = all (is_value_byte o) (take (run not_space l) l) && row_ok seen (params (drop (run not_space l) l))
tail_rest Off l = false

pub tail_is : (l : List ℕ) → tail_rest Start l ≡ (spaced l && all is_param (params l)) && alts_ok (alts (params l))
unfolding tail_rest
tail_is l = refl

-- ---- bytes

key_space : (b : ℕ) → T (is_keyword_byte b) → eqb b 32 ≡ false
unfolding is_keyword_byte
key_space b t = by_test (eqb b 32) (λ u. absurd (rw (eqb→eq b 32 u) at t)) (λ u. no_false (eqb b 32) u)

value_space : (o : Bool) (b : ℕ) → T (is_value_byte o b) → eqb b 32 ≡ false
unfolding is_value_byte
value_space true b t = by_test (eqb b 32) (λ u. absurd (rw (eqb→eq b 32 u) at t)) (λ u. no_false (eqb b 32) u)
value_space false b t = by_test (eqb b 32) (λ u. absurd (rw (eqb→eq b 32 u) at t)) (λ u. no_false (eqb b 32) u)

-- ---- each byte leads to what is left of the text

value_step_lem : (o seen : Bool) (b : ℕ) (l : List ℕ) → tail_rest (Value o seen) (b ∷ l) ≡ tail_rest (value_step o seen b) l
unfolding tail_rest value_step run
value_step_lem o seen b l =
    by_test (is_value_byte o b)
    (λ t. rw (value_space o b t, yes_true (is_value_byte o b) t))
    (λ t.
    by_test (eqb b 32)
    (λ u. let e : b ≡ 32 = eqb→eq b 32 u in rw (no_false (is_value_byte o b) t, yes_true (eqb b 32) u, e))
    (λ u. rw (no_false (is_value_byte o b) t, no_false (eqb b 32) u, no_false (is_value_byte o b) t)))

equals_step_lem : (o seen : Bool) (b : ℕ) (l : List ℕ) → tail_rest (Equals o seen) (b ∷ l) ≡ tail_rest (equals_step o seen b) l
unfolding tail_rest equals_step run
equals_step_lem o seen b l =
    by_test (is_value_byte o b)
    (λ t. rw (value_space o b t, yes_true (is_value_byte o b) t))
    (λ t.
    by_test (eqb b 32)
    (λ u. rw (no_false (is_value_byte o b) t, yes_true (eqb b 32) u))
    (λ u. rw (no_false (is_value_byte o b) t, no_false (eqb b 32) u, no_false (is_value_byte o b) t)))

key_more_lem : (a o : ℕ) (seen : Bool) (b : ℕ) (t : List ℕ) (ps : List (List ℕ)) → T (is_keyword_byte b)
    → key_rest a o seen (b ∷ t) ps ≡ key_rest (matched (bytes "ALT-ADDRESS") a b) (matched (bytes "ORCPT") o b) seen t ps
unfolding key_rest run
key_more_lem a o seen b t ps u =
    let k = run is_keyword_byte t in
    rw (yes_true (is_keyword_byte b) u, leb-suc-suc (suc k) (length t), names_step (bytes "ALT-ADDRESS") a b (take k t), names_step (bytes "ORCPT") o b (take k t))

key_other : (a o : ℕ) (seen : Bool) (b : ℕ) (t : List ℕ) (ps : List (List ℕ)) → T (not (is_keyword_byte b)) → key_rest a o seen (b ∷ t) ps
    ≡ ((eqb b 61 && nonempty t) && all (is_value_byte (eqb o 5)) t) && (not (eqb a 11 && seen) && row_ok (eqb a 11 || seen) ps)
unfolding key_rest run bytes
key_other a o seen b t ps u =
    rw (no_false (is_keyword_byte b) u, lt-ltb 0 (suc (length t)) (omega arith), names_end (bytes "ALT-ADDRESS") a, names_end (bytes "ORCPT") o)

key_stop : (a o : ℕ) (seen : Bool) (ps : List (List ℕ)) → key_rest a o seen [] ps ≡ not (eqb a 11) && row_ok seen ps
unfolding key_rest run bytes
key_stop a o seen ps = rw (names_end (bytes "ALT-ADDRESS") a)

key_step_lem : (a o : ℕ) (seen : Bool) (b : ℕ) (l : List ℕ) → tail_rest (Key a o seen) (b ∷ l) ≡ tail_rest (key_step a o seen b) l
unfolding tail_rest key_step key_end run
key_step_lem a o seen b l =
    by_test (is_keyword_byte b)
    (λ t. rw (key_space b t, yes_true (is_keyword_byte b) t) (key_more_lem a o seen b (take n l) ps t))
    (λ t.
    by_test (eqb b 32)
    (λ u. let e : b ≡ 32 = eqb→eq b 32 u in rw (no_false (is_keyword_byte b) t, e, key_stop a o seen (params (32 ∷ l))) (bare (eqb a 11)))
    (λ u. rw (no_false (is_keyword_byte b) t, no_false (eqb b 32) u, key_other a o seen b (take n l) ps t) (equals (eqb b 61) (eqb a 11) seen)))
  where
    n : ℕ
    n = run not_space l

    ps : List (List ℕ)
    ps = params (drop n l)

    bare : (alt : Bool) → not alt && row_ok seen (params (32 ∷ l)) ≡ tail_rest (cond (not alt) (Due seen) Off) l
    bare true = refl
    bare false = refl

    equals : (eq alt seen : Bool) → ((eq && nonempty (take n l)) && all (is_value_byte (eqb o 5)) (take n l)) && (not (alt && seen) && row_ok (alt || seen) ps)
        ≡ tail_rest (cond (eq && not (alt && seen)) (Equals (eqb o 5) (alt || seen)) Off) l
    equals false alt seen = refl
    equals true false seen = refl
    equals true true false = refl
    equals true true true = and-false (nonempty (take n l) && all (is_value_byte (eqb o 5)) (take n l))

-- a parameter is a keyword, not begun by a hyphen, and what may follow it
due_is : (seen : Bool) (t : List ℕ) (ps : List (List ℕ)) → row_ok seen (t ∷ ps) ≡ (nonempty (keyword t) && not (eqb (get_or t 0 0) 45)) && key_rest 0 0 seen t ps
unfolding row_ok is_param is_alt is_orcpt has_value value key_rest keyword keyword_len
due_is seen t ps =
    let k = run is_keyword_byte t in
    rw (add-one k, names_none (bytes "ALT-ADDRESS") (take k t), names_none (bytes "ORCPT") (take k t))
    (go (nonempty (take k t) && not (eqb (get_or t 0 0) 45)) (ltb k (length t)) _ (is_alt t) seen)
  where
    go : (first has v alt seen : Bool) → ((first && (not has || v)) && (not alt || (not seen && has))) && row_ok (alt || seen) ps
        ≡ first && cond has (v && (not (alt && seen) && row_ok (alt || seen) ps)) (not alt && row_ok seen ps)
    go false has v alt seen = refl
    go true true true true true = refl
    go true true true true false = refl
    go true true true false seen = refl
    go true true false alt seen = refl
    go true false v true true = refl
    go true false v true false = refl
    go true false v false seen = refl

module _ (seen : Bool) (b : ℕ) (l : List ℕ) where
  -- what `due_is` asks of the first parameter of a text from b on
  abbrev due_rest : Bool
  due_rest =
      let t = take (run not_space (b ∷ l)) (b ∷ l) in
      (nonempty (keyword t) && not (eqb (get_or t 0 0) 45)) && key_rest 0 0 seen t (params (drop (run not_space (b ∷ l)) (b ∷ l)))

  due_word : T (is_keyword_byte b) → T (not (eqb b 45)) → due_rest ≡ tail_rest (key_more 0 0 seen b) l
  unfolding tail_rest keyword keyword_len run
  due_word t u =
      rw (key_space b t, yes_true (is_keyword_byte b) t, no_false (eqb b 45) u)
      (key_more_lem 0 0 seen b (take (run not_space l) l) (params (drop (run not_space l) l)) t)

  due_hyphen : T (is_keyword_byte b) → T (eqb b 45) → due_rest ≡ false
  unfolding keyword keyword_len run
  due_hyphen t u = rw (key_space b t, yes_true (is_keyword_byte b) t, yes_true (eqb b 45) u)

  due_other : T (not (is_keyword_byte b)) → due_rest ≡ false
  unfolding keyword keyword_len run
  due_other t =
      by_test (eqb b 32)
      (λ u. rw (yes_true (eqb b 32) u))
      (λ u. rw (no_false (eqb b 32) u, no_false (is_keyword_byte b) t))

  due_step_lem : tail_rest (Due seen) (b ∷ l) ≡ tail_rest (due_step seen b) l
  unfolding tail_rest due_step
  due_step_lem =
      params_then
      ∙ by_test (is_keyword_byte b)
      (λ t.
      by_test (eqb b 45)
      (λ u. rw (yes_true (is_keyword_byte b) t, yes_true (eqb b 45) u) (due_hyphen t u))
      (λ u. rw (yes_true (is_keyword_byte b) t, no_false (eqb b 45) u) (due_word t u)))
      (λ t. rw (no_false (is_keyword_byte b) t) (due_other t))
    where
      params_then : row_ok seen (params (32 ∷ b ∷ l)) ≡ due_rest
      params_then = rw (params_cons 32 (b ∷ l)) (due_is seen (take (run not_space (b ∷ l)) (b ∷ l)) (params (drop (run not_space (b ∷ l)) (b ∷ l))))

start_step_lem : (b : ℕ) (l : List ℕ) → tail_rest Start (b ∷ l) ≡ tail_rest (start_step b) l
unfolding tail_rest start_step spaced
start_step_lem b l =
    by_test (eqb b 32)
    (λ t. let e : b ≡ 32 = eqb→eq b 32 t in rw (yes_true (eqb b 32) t, e) (sym (row_is (params (32 ∷ l)))))
    (λ t. rw (no_false (eqb b 32) t))

tail_step_lem : (q : Tail) (b : ℕ) (l : List ℕ) → tail_rest q (b ∷ l) ≡ tail_rest (tail_step q b) l
unfolding tail_rest
tail_step_lem Start b l = start_step_lem b l
tail_step_lem (Due seen) b l = due_step_lem seen b l
tail_step_lem (Key a o seen) b l = key_step_lem a o seen b l
tail_step_lem (Equals o seen) b l = equals_step_lem o seen b l
tail_step_lem (Value o seen) b l = value_step_lem o seen b l
tail_step_lem Off b l = refl

params_nil : params [] ≡ []
params_nil = params_end [] 0 (omega arith)

tail_end : (q : Tail) → tail_rest q [] ≡ tail_done q
unfolding tail_rest run row_ok spaced alts alts_ok keyword keyword_len
tail_end Start = rw params_nil
tail_end (Due seen) = rw (params_cons 32 []) (due_is seen [] (params []))
tail_end (Key a o seen) = key_stop a o seen (params []) ∙ rw (params_nil, and-true (not (eqb a 11)))
tail_end (Equals o seen) = refl
tail_end (Value o seen) = rw params_nil
tail_end Off = refl

-- ---- as few bytes complete a tail as are told

at_end_lem : (q : Tail) → T (tail_done q) → T (tail_live q) × (tail_need q ≡ 0)
at_end_lem Start t = (tt, refl)
at_end_lem (Due seen) t = absurd t
at_end_lem (Key a o seen) t = (tt, rw (no_false (eqb a 11) t))
at_end_lem (Equals o seen) t = absurd t
at_end_lem (Value o seen) t = (tt, refl)
at_end_lem Off t = absurd t

may_end : (q : Tail) → T (tail_live q) → tail_need q ≡ 0 → T (tail_done q)
may_end Start t e = tt
may_end (Due seen) t e = absurd (omega arith)
may_end (Key a o seen) t e =
    by_test (eqb a 11) (λ u. absurd (let f = rw (yes_true (eqb a 11) u) at e in omega arith)) (λ u. rw (no_false (eqb a 11) u) tt)
may_end (Equals o seen) t e = absurd (omega arith)
may_end (Value o seen) t e = tt
may_end Off t e = absurd t

one : (a : ℕ) → cond (eqb a 11) 1 0 ≤ 1
one a = cond_has (λ n. n ≤ 1) (eqb a 11) 1 0 (λ t. omega arith) (λ t. omega arith)

most : (q : Tail) (b : ℕ) → T (tail_live (tail_step q b)) → T (tail_live q) × (tail_need q ≤ suc (tail_need (tail_step q b)))
most Start b t = (tt, omega arith)
most (Due seen) b t = (tt, omega arith)
most (Key a o seen) b t = (tt, omega (arith, one a))
most (Equals o seen) b t = (tt, omega arith)
most (Value o seen) b t = (tt, omega arith)
most Off b t = absurd t

-- `A` (65)
next : (q : Tail) (k : ℕ) → T (tail_live q) → tail_need q ≡ suc k → (b : ℕ) × (b < 128) × T (tail_live (tail_step q b)) × (tail_need (tail_step q b) ≡ k)
unfolding due_step key_step equals_step is_keyword_byte is_value_byte matched is_next bytes lower
next Start k t e = absurd (omega arith)
next (Due seen) k t e = (65, omega arith, tt, omega arith)
next (Key a o seen) k t e =
    by_test (eqb a 11)
    (λ u.
    let f = rw (yes_true (eqb a 11) u) at e in
    let g : a ≡ 11 = eqb→eq a 11 u in
    (65, omega arith, tt, rw g (omega arith)))
    (λ u. absurd (let f = rw (no_false (eqb a 11) u) at e in omega arith))
next (Equals o seen) k t e = (65, omega arith, tt, omega arith)
next (Value o seen) k t e = absurd (omega arith)
next Off k t e = absurd t

no_cr_lem : (q : Tail) → T (not (tail_live (tail_step q 13)))
unfolding start_step due_step key_step key_end equals_step value_step is_keyword_byte is_value_byte
no_cr_lem Start = tt
no_cr_lem (Due seen) = tt
no_cr_lem (Key a o seen) = tt
no_cr_lem (Equals true seen) = tt
no_cr_lem (Equals false seen) = tt
no_cr_lem (Value true seen) = tt
no_cr_lem (Value false seen) = tt
no_cr_lem Off = tt

-- ---- past ASCII only an ORCPT's value goes on, and stays

high_key : (b : ℕ) → 128 ≤ b → is_keyword_byte b ≡ false
unfolding is_keyword_byte
high_key b h =
    rw (lt-leb b 90 (omega arith), lt-leb b 122 (omega arith), lt-leb b 57 (omega arith), and-false (leb 65 b), and-false (leb 97 b), and-false (leb 48 b), ne_eqb b 45 (λ e. omega arith))

high_value : (o : Bool) (b : ℕ) → 128 ≤ b → is_value_byte o b ≡ o
unfolding is_value_byte
high_value o b h = rw (lt-leb b 126 (omega arith), and-false (leb 33 b), le-leb 128 b h) (and-true o)

high_stays : (q : Tail) (b c : ℕ) → T (tail_live (tail_step q b)) → 128 ≤ b → 128 ≤ c → tail_step (tail_step q b) c ≡ tail_step q b
unfolding start_step due_step key_step key_end equals_step value_step
high_stays q b c t h k = go q t
  where
    Stays : Tail → Type 0
    Stays r = T (tail_live r) → tail_step r c ≡ r

    space : eqb b 32 ≡ false
    space = ne_eqb b 32 (λ e. omega arith)

    go : (q : Tail) → Stays (tail_step q b)
    go Start = rw space (λ u. absurd u)
    go (Due seen) = rw (high_key b h) (λ u. absurd u)
    go (Key a o seen) = rw (high_key b h, space, ne_eqb b 61 (λ e. omega arith)) (λ u. absurd u)
    go (Equals true seen) = rw (high_value true b h) (λ u. rw (high_value true c k))
    go (Equals false seen) = rw (high_value false b h) (λ u. absurd u)
    go (Value true seen) = rw (high_value true b h) (λ u. rw (high_value true c k))
    go (Value false seen) = rw (high_value false b h, space) (λ u. absurd u)
    go Off = λ u. absurd u

pub tail_tells : Tells tail
tail_tells = record { at_end_lem = at_end_lem; may_end = may_end; most = most; next = next; no_cr_lem = no_cr_lem; steady = high_stays }

pub tail_completes : Completes tail tail_rest
tail_completes = record { end = tail_end; step = tail_step_lem }
