-- UTF-8 beside an automaton that tells its need: the two are exact, and so the scan finds the byte that is asked for.
use Rattle.std.specs.Prelude.{◌≡◌, refl, Bool, true, not, ◌&&◌, List, [], ◌∷◌, ◌++◌, ℕ, zero, suc, ◌-◌, ◌≤◌, ◌<◌, T, leb, ltb, eqb, length}
use Rattle.std.proofs.Common.{ap, ◌∙◌, arith, eqb→eq, le-leb}
use Rattle.std.proofs.Math.Bool.{and-false}
use Rattle.std.proofs.Math.Facts.{and_yes, yes_and, leb_yes, yes_leb, ltb_yes, ltb_no, eqb_no}
use Rattle.lists.specs.ListsLaws.{by_test, yes_true, no_false}
use Rattle.lists.specs.Byte.{within}
use Rattle.utf8.specs.Utf8.{utf8}
use Rattle.line_stop.specs.declared.Begun.{Begun}
use Rattle.line_stop.specs.FirstBad.{FirstBad, WithCrlf}
use Rattle.line_stop.specs.Scanner.{Scanner, stop_from}
use Rattle.line_stop.proofs.Scanner.{after}
use Rattle.line_stop.proofs.ScannerLaws.{Exact, scan_stops, scan_inside, scan_alone}
use Rattle.line_stop.specs.CharScan.{begun, between, step_by, char_step, is_zero, char_live}
use Rattle.line_stop.proofs.CharScanLaws.{tails, char_rest, char_step_lem, char_end_lem, char_low, char_most, char_ascii, live_none, live_some, step_tail}
use Rattle.line_stop.specs.Product.{both}

-- `need` is right at every state, told of one byte at a time; the byte that is needed next is ASCII, and bytes past ASCII leave the
-- automaton where the first of them brought it
pub record Tells {F : Type 0} (a : Scanner F) : Type 0 where
  pub at_end_lem : (f : F) → T (a.done f) → T (a.live f) × (a.need f ≡ 0)
  pub may_end : (f : F) → T (a.live f) → a.need f ≡ 0 → T (a.done f)
  pub most : (f : F) (b : ℕ) → T (a.live (a.step f b)) → T (a.live f) × (a.need f ≤ suc (a.need (a.step f b)))
  pub next : (f : F) (k : ℕ) → T (a.live f) → a.need f ≡ suc k → (b : ℕ) × (b < 128) × T (a.live (a.step f b)) × (a.need (a.step f b) ≡ k)
  pub no_cr_lem : (f : F) → T (not (a.live (a.step f 13)))
  pub steady : (f : F) (b c : ℕ) → T (a.live (a.step f b)) → 128 ≤ b → 128 ≤ c → a.step (a.step f b) c ≡ a.step f b

zero_is : (k : ℕ) → T (is_zero k) → k ≡ 0
zero_is zero t = refl
zero_is (suc k) t = absurd t

is_zero_lem : (k : ℕ) → k ≡ 0 → T (is_zero k)
is_zero_lem k e = rw e tt

zero_live : (u : Begun) → u.lack ≡ 0 → T (char_live u)
zero_live u e = rw (← live_none u e) tt

tail_live_lem : (k : ℕ) → T (char_live (begun k 128 191))
unfolding char_live
tail_live_lem zero = tt
tail_live_lem (suc k) = tt

ascii_lack : (u : Begun) (b : ℕ) → b < 128 → u.lack ≡ 0 → (char_step u b).lack ≡ 0
unfolding step_by
ascii_lack u b h = go u.lack
  where
    go : (k : ℕ) → k ≡ 0 → (step_by k u.low u.high b).lack ≡ 0
    go zero e = rw (char_ascii b h)
    go (suc k) e = absurd (omega arith)

module _ {F : Type 0} (a : Scanner F) (x : Tells a) where
  -- in a character the automaton stays where it is
  record Good (s : Begun × F) : Type 0 where
    low : 128 ≤ s.0.low
    held : T (char_live s.0) → (s.0.lack ≡ 0 → ⊥) → T (a.live s.1) → (c : ℕ) → 128 ≤ c → a.step s.1 c ≡ s.1

  stays : (s : Begun × F) (b : ℕ) → Good s → Good ((both a).step s b)
  stays s b g = record {
    low = char_low s.0 b;
    held = λ t z l c h.
        by_test (ltb b 128)
        (λ u. absurd (z (ascii_lack s.0 b (ltb_yes u) ((char_most s.0 b g.low t).ascii (ltb_yes u)))))
        (λ u. x.steady s.1 b c l (ltb_no {a = b} {b = 128} u) h);
  }

  at_end_lem : (s : Begun × F) → Good s → T ((both a).done s) → T ((both a).live s) × ((both a).need s ≡ 0)
  at_end_lem s g t =
      let d = and_yes (is_zero s.0.lack) (a.done s.1) t in
      let z = zero_is s.0.lack d.0 in
      let e = x.at_end_lem s.1 d.1 in
      (yes_and (char_live s.0) (a.live s.1) (zero_live s.0 z) e.0, omega (arith, e.1))

  may_end : (s : Begun × F) → Good s → T ((both a).live s) → (both a).need s ≡ 0 → T ((both a).done s)
  may_end s g t e =
      let l = and_yes (char_live s.0) (a.live s.1) t in
      yes_and (is_zero s.0.lack) (a.done s.1) (is_zero_lem s.0.lack (omega arith)) (x.may_end s.1 l.1 (omega arith))

  most : (s : Begun × F) (b : ℕ) → Good s → T ((both a).live ((both a).step s b)) → T ((both a).live s) × ((both a).need s ≤ suc ((both a).need ((both a).step s b)))
  most s b g t =
      let l = and_yes (char_live (char_step s.0 b)) (a.live (a.step s.1 b)) t in
      let m = char_most s.0 b g.low l.0 in
      let f = x.most s.1 b l.1 in (
        yes_and (char_live s.0) (a.live s.1) m.live f.0,
        by_test (eqb s.0.lack 0)
            (λ u. let z : s.0.lack ≡ 0 = eqb→eq s.0.lack 0 u in omega (arith, f.1))
            (λ u.
            let z : s.0.lack ≡ 0 → ⊥ = eqb_no {a = s.0.lack} {b = 0} u in
            by_test (ltb b 128)
            (λ v. absurd (z (m.ascii (ltb_yes v))))
            (λ v. let same = ap a.need (g.held m.live z f.0 b (ltb_no {a = b} {b = 128} v)) in omega (arith, m.most, same))),
      )

  next : (s : Begun × F) (k : ℕ) → Good s → T ((both a).live s) → (both a).need s ≡ suc k
      → (b : ℕ) × T ((both a).live ((both a).step s b)) × ((both a).need ((both a).step s b) ≡ k)
  next s k g t e =
      let l = and_yes (char_live s.0) (a.live s.1) t in
      by_test (eqb s.0.lack 0)
      (λ u.
      let z : s.0.lack ≡ 0 = eqb→eq s.0.lack 0 u in
      let n = x.next s.1 k l.1 (omega arith) in
      let z' = ascii_lack s.0 n.0 n.1 z in
      (n.0, yes_and (char_live (char_step s.0 n.0)) (a.live (a.step s.1 n.0)) (zero_live (char_step s.0 n.0) z') n.2, omega (arith, n.3)))
      (λ u.
      let z : s.0.lack ≡ 0 → ⊥ = eqb_no {a = s.0.lack} {b = 0} u in
      let lo = s.0.low in
      let wide : leb lo s.0.high ≡ true = live_some s.0 z ∙ yes_true (char_live s.0) l.0 in
      let inside : within lo s.0.high lo ≡ true = rw (le-leb lo lo (omega arith), wide) in
      let char = step_tail lo s.0 z inside in
      let form = g.held l.0 z l.1 lo g.low in (
        lo,
        yes_and (char_live (char_step s.0 lo)) (a.live (a.step s.1 lo)) (rw (← char) (tail_live_lem (s.0.lack - 1))) (rw form l.1),
        omega (arith, ap (λ (v : Begun). v.lack) char, ap a.need form),
      ))

  no_cr_lem : (s : Begun × F) → T (not ((both a).live ((both a).step s 13)))
  no_cr_lem s = rw (no_false (a.live (a.step s.1 13)) (x.no_cr_lem s.1), and-false (char_live (char_step s.0 13))) tt

  exact : Exact (both a)
  exact = record { Valid = Good; stays = stays; at_end_lem = at_end_lem; may_end = may_end; most = most; next = next; no_cr_lem = no_cr_lem }

  start : (f : F) → exact.Valid (between, f)
  unfolding exact
  start f = record { low = omega arith; held = λ t z. absurd (z refl) }

-- what completes each state, where the line may end and by one byte at a time
pub record Completes {F : Type 0} (a : Scanner F) (rest : F → List ℕ → Bool) : Type 0 where
  pub end : (f : F) → rest f [] ≡ a.done f
  pub step : (f : F) (b : ℕ) (l : List ℕ) → rest f (b ∷ l) ≡ rest (a.step f b) l

-- the two together take what is UTF-8 and completes the automaton's state
takes : {F : Type 0} {a : Scanner F} {rest : F → List ℕ → Bool} → Completes a rest → (f : F) (l : List ℕ) → (both a).done (after (both a) (between, f) l) ≡ utf8 l && rest f l
unfolding tails
takes {F} {a} {rest} c f l = go (between, f) l
  where
    go : (s : Begun × F) (l : List ℕ) → (both a).done (after (both a) s l) ≡ char_rest s.0 l && rest s.1 l
    go s [] = rw (char_end_lem s.0, c.end s.1)
    go s (b ∷ l) = rw (char_step_lem s.0 b l, c.step s.1 b l) (go ((both a).step s b) l)

-- lines of at most `limit` bytes of UTF-8 that complete the state f, each with its CRLF
module _ {F : Type 0} {a : Scanner F} {rest : F → List ℕ → Bool} (x : Tells a) (c : Completes a rest) (limit : ℕ) (f : F) (formed : List ℕ → Bool)
    (is : (l : List ℕ) → formed l ≡ (leb (length l) limit && utf8 l) && rest f l) where
  there : (l : List ℕ) → T (formed l) → (length l ≤ limit) × T ((both a).done (after (both a) (between, f) l))
  there l t =
      let short = leb (length l) limit in
      let p = and_yes (short && utf8 l) (rest f l) (rw (is l) at t) in
      let q = and_yes short (utf8 l) p.0 in
      (leb_yes q.0, rw (takes c f l) (yes_and (utf8 l) (rest f l) q.1 p.1))

  back : (l : List ℕ) → length l ≤ limit → T ((both a).done (after (both a) (between, f) l)) → T (formed l)
  back l h t =
      let short = leb (length l) limit in
      let p = and_yes (utf8 l) (rest f l) (rw (takes c f l) at t) in
      rw (is l) (yes_and (short && utf8 l) (rest f l) (yes_and short (utf8 l) (yes_leb {a = length l} {b = limit} h) p.0) p.1)

  -- the scan finds the first byte at which what has come is no beginning of any
  pub line_stops : (s : List ℕ) → FirstBad (WithCrlf (λ t. T (formed t))) s (stop_from (both a) limit 0 (between, f) s)
  line_stops s = scan_stops (both a) (exact a x) limit formed (between, f) (start a x f) there back s

  module _ (text more : List ℕ) (t : T (not (formed text))) where
    -- a malformed line has that byte in itself, its CRLF with it
    pub line_inside : stop_from (both a) limit 0 (between, f) (text ++ (13 ∷ 10 ∷ more)) < suc (suc (length text))
    line_inside = scan_inside (both a) (exact a x) limit formed (between, f) (start a x f) there back text more t

    -- whatever follows
    pub line_alone : stop_from (both a) limit 0 (between, f) (text ++ (13 ∷ 10 ∷ more)) ≡ stop_from (both a) limit 0 (between, f) (text ++ (13 ∷ 10 ∷ []))
    line_alone = scan_alone (both a) (exact a x) limit formed (between, f) (start a x f) there back text more t

-- two states, each equal to another
pub both_same : {F : Type 0} {u v : Begun} {f g : F} → v ≡ u → g ≡ f → ◌≡◌ {A = Begun × F} (v, g) (u, f)
both_same p q = rw (p, q)
