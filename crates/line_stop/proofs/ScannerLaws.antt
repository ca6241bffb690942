-- What the scan finds: where `need` is right, told of one byte at a time, the scan stops at the first byte at which what has come is no
-- beginning of any line, for any limit.
use Rattle.std.specs.Prelude.{◌≡◌, Bool, not, cond, ℕ, zero, suc, ◌+◌, ◌≤◌, ◌<◌, leb, eqb}
use Rattle.std.proofs.Math.Path.{refl, ap}
use mathlib.Core.List.{List, [], ◌∷◌, ◌++◌, append_assoc}
use native.Mathlib.Omega.{arith}
use Rattle.std.proofs.Math.Dec.{T, eqb→eq}
use Rattle.std.proofs.Common.{T_not, length-append}
use Rattle.std.proofs.Math.ListN.{length}
use Rattle.std.proofs.Math.Facts.{and_yes, yes_and, leb_yes, yes_leb, eqb_no}
use Rattle.lists.specs.Lists.{all}
use Rattle.lists.specs.ListsLaws.{by_test, cond_has}
use Rattle.line_stop.specs.FirstBad.{Beginning, FirstBad, WithCrlf}
use Rattle.line_stop.proofs.FirstBadLaws.{first_end, first_here, first_later, first_same, first_front, first_once, stop_inside}
use Rattle.line_stop.specs.Scanner.{Scanner, stop_lf, alive, stop_from}
use Rattle.line_stop.proofs.Scanner.{after}

-- `need` is right at the states of a set that no byte leads out of, told of one byte at a time
pub record Exact {S : Type 0} (a : Scanner S) : Type 1 where
  pub Valid : S → Type 0
  pub stays : (s : S) (b : ℕ) → Valid s → Valid (a.step s b)
  pub at_end_lem : (s : S) → Valid s → T (a.done s) → T (a.live s) × (a.need s ≡ 0)
  pub may_end : (s : S) → Valid s → T (a.live s) → a.need s ≡ 0 → T (a.done s)
  -- a byte takes away one at the most
  pub most : (s : S) (b : ℕ) → Valid s → T (a.live (a.step s b)) → T (a.live s) × (a.need s ≤ suc (a.need (a.step s b)))
  -- and there is one that does
  pub next : (s : S) (k : ℕ) → Valid s → T (a.live s) → a.need s ≡ suc k → (b : ℕ) × T (a.live (a.step s b)) × (a.need (a.step s b) ≡ k)
  -- no CR stands before the CRLF
  pub no_cr_lem : (s : S) → T (not (a.live (a.step s 13)))

abbrev not_cr : ℕ → Bool
not_cr b = not (eqb b 13)

-- ---- the LF of a line

same_head : {a b : ℕ} {l m : List ℕ} → ◌≡◌ {A = List ℕ} (a ∷ l) (b ∷ m) → a ≡ b
same_head e = cc

same_tail : {a b : ℕ} {l m : List ℕ} → ◌≡◌ {A = List ℕ} (a ∷ l) (b ∷ m) → l ≡ m
same_tail e = cc

no_more : {a : ℕ} {l : List ℕ} → ◌≡◌ {A = List ℕ} (a ∷ l) [] → ⊥
no_more e = omega (arith, ap length e)

stop_lf_lem : (L : List ℕ → Type 0) → L (10 ∷ []) → ((l : List ℕ) → L l → l ≡ 10 ∷ []) → (l : List ℕ) → FirstBad L l (stop_lf l)
unfolding stop_lf
stop_lf_lem L lf only [] = first_end
stop_lf_lem L lf only (b ∷ l) =
    cond_has (λ n. FirstBad L (b ∷ l) n) (eqb b 10) 1 0
    (λ t. let e : b ≡ 10 = eqb→eq b 10 t in rw e (first_later ([], lf) (end l)))
    (λ t. first_here (λ p. eqb_no {a = b} {b = 10} t (same_head (only (b ∷ p.0) p.1))))
  where
    end : (l : List ℕ) → FirstBad (λ m. L (10 ∷ m)) l 0
    end [] = first_end
    end (c ∷ l) = first_here (λ p. no_more (same_tail (only (10 ∷ c ∷ p.0) p.1)))

-- ---- the bytes before the CRLF

module _ {S : Type 0} (a : Scanner S) (limit : ℕ) where
  -- what completes a line of which n bytes stand, with its CRLF
  unfoldable pub Ends : ℕ → S → List ℕ → Type 0
  Ends n s l = (text : List ℕ) × (l ≡ text ++ (13 ∷ 10 ∷ [])) × (n + length text ≤ limit) × T (a.done (after a s text))

module _ {S : Type 0} (a : Scanner S) (x : Exact a) where
  -- (a) a live state has a completion of just as many bytes
  pub completes : (k : ℕ) (s : S) → x.Valid s → T (a.live s) → a.need s ≡ k → (text : List ℕ) × (length text ≡ k) × T (a.done (after a s text))
  completes zero s v h e = ([], refl, x.may_end s v h e)
  completes (suc k) s v h e =
      let n = x.next s k v h e in
      let more = completes k (a.step s n.0) (x.stays s n.0 v) n.1 n.2 in
      (n.0 ∷ more.0, ap suc more.1, more.2)

  -- (b) and none that is shorter
  pub no_shorter : (text : List ℕ) (s : S) → x.Valid s → T (a.done (after a s text)) → T (a.live s) × (a.need s ≤ length text)
  no_shorter [] s v h = let e = x.at_end_lem s v h in (e.0, omega (arith, e.1))
  no_shorter (b ∷ text) s v h =
      let more = no_shorter text (a.step s b) (x.stays s b v) h in
      let m = x.most s b v more.0 in
      (m.0, omega (arith, m.1, more.1))

  -- no CR stands in it
  taken_no_cr : (text : List ℕ) (s : S) → x.Valid s → T (a.done (after a s text)) → T (all not_cr text)
  taken_no_cr [] s v h = tt
  taken_no_cr (b ∷ text) s v h =
      let live = (no_shorter text (a.step s b) (x.stays s b v) h).0 in
      let other : T (not_cr b) =
      by_test (eqb b 13) (λ t. absurd (T_not (a.live (a.step s 13)) (x.no_cr_lem s) (rw (eqb→eq b 13 t) at live))) (λ t. t) in
      yes_and (not_cr b) (all not_cr text) other (taken_no_cr text (a.step s b) (x.stays s b v) h)

  module _ (limit : ℕ) where
    ends_alive : (n : ℕ) (s : S) (l : List ℕ) → x.Valid s → Ends a limit n s l → T (alive a limit n s)
    unfolding Ends alive
    ends_alive n s l v e =
        let m = no_shorter e.0 s v e.3 in
        yes_and (a.live s) (leb (n + a.need s) limit) m.0 (yes_leb {a = n + a.need s} {b = limit} (omega (arith, m.1, e.2)))

    alive_ends : (n : ℕ) (s : S) → x.Valid s → T (alive a limit n s) → Beginning (Ends a limit n s) []
    unfolding Ends alive
    alive_ends n s v t =
        let both = and_yes (a.live s) (leb (n + a.need s) limit) t in
        let m = completes (a.need s) s v both.0 refl in
        (m.0 ++ (13 ∷ 10 ∷ []), (m.0, refl, omega (arith, m.1, leb_yes {a = n + a.need s} {b = limit} both.1), m.2))

    -- a byte that is no CR is one of the line's
    into : (n b : ℕ) (s : S) (l : List ℕ) → Ends a limit (suc n) (a.step s b) l → Ends a limit n s (b ∷ l)
    unfolding Ends
    into n b s l e = (b ∷ e.0, ap (λ (m : List ℕ). b ∷ m) e.1, omega (arith, e.2), e.3)

    from : (n b : ℕ) (s : S) (l : List ℕ) → (b ≡ 13 → ⊥) → Ends a limit n s (b ∷ l) → Ends a limit (suc n) (a.step s b) l
    unfolding Ends
    from n b s l ne e = go e.0 e.1 e.2 e.3
      where
        go : (text : List ℕ) → b ∷ l ≡ text ++ (13 ∷ 10 ∷ []) → n + length text ≤ limit → T (a.done (after a s text)) → Ends a limit (suc n) (a.step s b) l
        go [] q h t = absurd (ne (same_head q))
        go (c ∷ text) q h t = (text, same_tail q, omega arith, rw (same_head q) t)

    -- a CR is the line's end
    at_cr : (n : ℕ) (s : S) (l : List ℕ) → x.Valid s → Ends a limit n s (13 ∷ l) → (l ≡ 10 ∷ []) × T (a.done s)
    unfolding Ends
    at_cr n s l v e = go e.0 e.1 e.3
      where
        go : (text : List ℕ) → 13 ∷ l ≡ text ++ (13 ∷ 10 ∷ []) → T (a.done (after a s text)) → (l ≡ 10 ∷ []) × T (a.done s)
        go [] q t = (same_tail q, t)
        go (c ∷ text) q t =
            let u : T (a.done (after a (a.step s 13) text)) = rw (same_head q) t in
            absurd (T_not (a.live (a.step s 13)) (x.no_cr_lem s) (no_shorter text (a.step s 13) (x.stays s 13 v) u).0)

    room : (n : ℕ) (s : S) → T (alive a limit n s) → n ≤ limit
    unfolding alive
    room n s u = omega (arith, leb_yes {a = n + a.need s} {b = limit} (and_yes (a.live s) (leb (n + a.need s) limit) u).1)

    crlf : (n : ℕ) (s : S) → n ≤ limit → T (a.done s) → Ends a limit n s (13 ∷ 10 ∷ [])
    unfolding Ends
    crlf n s h t = ([], refl, omega arith, t)

    cr : (l : List ℕ) (n : ℕ) (s : S) → x.Valid s → n ≤ limit → FirstBad (Ends a limit n s) (13 ∷ l) (cond (a.done s) (suc (stop_lf l)) 0)
    cr l n s v h =
        cond_has (λ m. FirstBad (Ends a limit n s) (13 ∷ l) m) (a.done s) _ _
        (λ t.
        let end = crlf n s h t in
        first_later (10 ∷ [], end) (stop_lf_lem (λ m. Ends a limit n s (13 ∷ m)) end (λ m e. (at_cr n s m v e).0) l))
        (λ t. first_here (λ p. T_not (a.done s) t (at_cr n s p.0 v p.1).1))

    byte : (l : List ℕ) (n b : ℕ) (s : S) (m : ℕ) → x.Valid (a.step s b) → (b ≡ 13 → ⊥) → (suc n ≤ limit → FirstBad (Ends a limit (suc n) (a.step s b)) l m)
        → FirstBad (Ends a limit n s) (b ∷ l) (cond (alive a limit (suc n) (a.step s b)) (suc m) 0)
    byte l n b s m v ne later =
        let t = a.step s b in
        cond_has (λ k. FirstBad (Ends a limit n s) (b ∷ l) k) (alive a limit (suc n) t) (suc m) 0
        (λ u.
        let some = alive_ends (suc n) t v u in
        first_later (some.0, into n b s some.0 some.1) (first_same (λ k. from n b s k ne) (into n b s) (later (room (suc n) t u))))
        (λ u. first_here (λ p. T_not (alive a limit (suc n) t) u (ends_alive (suc n) t p.0 v (from n b s p.0 ne p.1))))

    -- the scan finds the first byte at which what has come is no beginning
    pub stops : (l : List ℕ) (n : ℕ) (s : S) → x.Valid s → n ≤ limit → FirstBad (Ends a limit n s) l (stop_from a limit n s l)
    unfolding stop_from
    stops [] n s v h = first_end
    stops (b ∷ l) n s v h =
        let w = x.stays s b v in
        let later = stops l (suc n) (a.step s b) w in
        cond_has (λ m. FirstBad (Ends a limit n s) (b ∷ l) m) (eqb b 13) _ _
        (λ t. let e : b ≡ 13 = eqb→eq b 13 t in rw e (cr l n s v h))
        (λ t. byte l n b s _ w (eqb_no {a = b} {b = 13} t) later)

    -- and so of lines whose texts are just those that the scanner takes within the limit
    module _ (formed : List ℕ → Bool) (s : S) (v : x.Valid s) (there : (l : List ℕ) → T (formed l) → (length l ≤ limit) × T (a.done (after a s l)))
        (back : (l : List ℕ) → length l ≤ limit → T (a.done (after a s l)) → T (formed l)) where
      pub scan_stops : (l : List ℕ) → FirstBad (WithCrlf (λ t. T (formed t))) l (stop_from a limit 0 s l)
      unfolding Ends
      scan_stops l =
          first_same
          (λ m e. let d = there e.text e.formed in (e.text, e.ends, omega (arith, d.0), d.1))
          (λ m e. record { text = e.0; ends = e.1; formed = back e.0 (omega (arith, e.2)) e.3 })
          (stops l 0 s v (omega arith))

      -- a malformed line has the byte in itself, its CRLF with it, whatever follows it
      pub scan_inside : (text more : List ℕ) → T (not (formed text)) → stop_from a limit 0 s (text ++ (13 ∷ 10 ∷ more)) < suc (suc (length text))
      scan_inside text more t =
          let line = text ++ (13 ∷ 10 ∷ more) in
          stop_inside formed not_cr (λ u. u) (λ l u. taken_no_cr l s v (there l u).1) text more (stop_from a limit 0 s line) t (scan_stops line)

      -- and is found in it alone
      pub scan_alone : (text more : List ℕ) → T (not (formed text)) → stop_from a limit 0 s (text ++ (13 ∷ 10 ∷ more)) ≡ stop_from a limit 0 s (text ++ (13 ∷ 10 ∷ []))
      scan_alone text more t =
          let line = text ++ (13 ∷ 10 ∷ []) in
          let whole : line ++ more ≡ text ++ (13 ∷ 10 ∷ more) = append_assoc text (13 ∷ 10 ∷ []) more in
          let n = stop_from a limit 0 s (text ++ (13 ∷ 10 ∷ more)) in
          let found : FirstBad (WithCrlf (λ t. T (formed t))) (line ++ more) n = rw whole (scan_stops (text ++ (13 ∷ 10 ∷ more))) in
          first_once (first_front line more n (omega (arith, scan_inside text more t, length-append text (13 ∷ 10 ∷ []))) found) (scan_stops line)
