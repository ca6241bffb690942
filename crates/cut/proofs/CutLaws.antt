-- Of cutting: nothing is lost, each line fits, and no cutting whose lines fit has fewer lines. The last is proved for every
-- test of what fits a line, as long as a part of what fits fits too.
use Rattle.std.specs.Prelude.{◌≡◌, Bool, not, ℕ, suc, ◌≤◌, length, T}
use Rattle.std.proofs.Math.Path.{refl}
use Rattle.std.proofs.Common.{sym, ◌∙◌, suc-le-suc, T_not}
use Rattle.std.proofs.Math.Bool.{true}
use mathlib.Core.List.{List, [], ◌∷◌, ◌++◌, append_assoc, append-nil, nil≢cons}
use native.Mathlib.Omega.{arith}
use Rattle.std.proofs.Math.Facts.{and_yes, yes_and}
use Rattle.lists.specs.Lists.{all, nonempty, joined}
use Rattle.lists.specs.ListsLaws.{by_test, cond_yes, cond_no}
use Rattle.cut.specs.Cut.{cut}

module _ {A : Type 0} where
  -- each line holds its run, the lines counted from k
  abbrev pub AllFit : (ℕ → List A → Bool) → ℕ → List (List A) → Type 0
  AllFit fits k [] = Unit {0}
  AllFit fits k (run ∷ runs) = T (fits k run) × AllFit fits (suc k) runs

  some_snoc : (run : List A) (c : A) → T (nonempty (run ++ (c ∷ [])))
  some_snoc [] c = tt
  some_snoc (x ∷ run) c = tt

  module _ (fits : ℕ → List A → Bool) where
    pub cut_more : (k : ℕ) (run : List A) (c : A) (cs : List A) → T (fits k (run ++ (c ∷ [])))
        → cut fits k run (c ∷ cs) ≡ cut fits k (run ++ (c ∷ [])) cs
    unfolding cut
    cut_more k run c cs t = cond_yes (fits k (run ++ (c ∷ []))) _ _ t

    pub cut_next : (k : ℕ) (run : List A) (c : A) (cs : List A) → T (not (fits k (run ++ (c ∷ []))))
        → cut fits k run (c ∷ cs) ≡ run ∷ cut fits (suc k) (c ∷ []) cs
    unfolding cut
    cut_next k run c cs t = cond_no (fits k (run ++ (c ∷ []))) _ _ t

    -- nothing is lost
    pub cut_joined : (k : ℕ) (run cs : List A) → joined (cut fits k run cs) ≡ run ++ cs
    unfolding cut
    cut_joined k run [] = refl
    cut_joined k run (c ∷ cs) =
        by_test (fits k (run ++ (c ∷ [])))
        (λ t. rw (cut_more k run c cs t, cut_joined k (run ++ (c ∷ [])) cs, append_assoc) refl)
        (λ t. rw (cut_next k run c cs t, cut_joined (suc k) (c ∷ []) cs) refl)

    -- each line fits, if the first does as far as it is filled, and each thing by itself fits every later line
    pub cut_fits : (good : A → Bool) → ((k : ℕ) (c : A) → T (good c) → T (fits (suc k) (c ∷ [])))
        → (k : ℕ) (run cs : List A) → T (fits k run) → T (all good cs) → AllFit fits k (cut fits k run cs)
    unfolding cut
    cut_fits good one k run [] t h = (t, tt)
    cut_fits good one k run (c ∷ cs) t h =
        let both = and_yes (good c) (all good cs) h in
        by_test (fits k (run ++ (c ∷ [])))
        (λ u. rw (cut_more k run c cs u) (cut_fits good one k (run ++ (c ∷ [])) cs u both.1))
        (λ u. rw (cut_next k run c cs u) (t, cut_fits good one (suc k) (c ∷ []) cs (one k c both.0) both.1))

    -- there is a first line
    pub cut_first : (k : ℕ) (run cs : List A) → T (nonempty (cut fits k run cs))
    unfolding cut
    cut_first k run [] = tt
    cut_first k run (c ∷ cs) =
        by_test (fits k (run ++ (c ∷ [])))
        (λ u. rw (cut_more k run c cs u) (cut_first k (run ++ (c ∷ [])) cs))
        (λ u. rw (cut_next k run c cs u) tt)

    -- each line has something, if the first does
    pub cut_some : (k : ℕ) (run cs : List A) → T (nonempty run) → T (all nonempty (cut fits k run cs))
    unfolding cut
    cut_some k run [] h = yes_and (nonempty run) true h tt
    cut_some k run (c ∷ cs) h =
        by_test (fits k (run ++ (c ∷ [])))
        (λ u. rw (cut_more k run c cs u) (cut_some k (run ++ (c ∷ [])) cs (some_snoc run c)))
        (λ u. rw (cut_next k run c cs u) (yes_and (nonempty run) (all nonempty (cut fits (suc k) (c ∷ []) cs)) h (cut_some (suc k) (c ∷ []) cs tt)))

    -- ---- line by line

    -- a line takes together all that fits it
    pub cut_run : ((k : ℕ) (d m e : List A) → T (fits k (d ++ (m ++ e))) → T (fits k m)) → (k : ℕ) (a b cs : List A) → T (fits k (a ++ b))
        → cut fits k a (b ++ cs) ≡ cut fits k (a ++ b) cs
    cut_run part k a [] cs t = rw append-nil refl
    cut_run part k a (c ∷ b) cs t =
        let same : (a ++ (c ∷ [])) ++ b ≡ a ++ (c ∷ b) = append_assoc a (c ∷ []) b in
        let all : T (fits k ((a ++ (c ∷ [])) ++ b)) = rw same t in
        cut_more k a c (b ++ cs) (part k [] (a ++ (c ∷ [])) b all) ∙ cut_run part k (a ++ (c ∷ [])) b cs all ∙ rw same refl

    -- the lines after line k, of what is left
    unfoldable pub lines_below : ℕ → List A → List (List A)
    lines_below k [] = []
    lines_below k (c ∷ cs) = cut fits (suc k) (c ∷ []) cs

    -- line k is full: it does not hold the next thing too
    abbrev pub Full : ℕ → List A → List A → Type 0
    Full k run rest = (c : A) (cs : List A) → rest ≡ c ∷ cs → T (not (fits k (run ++ (c ∷ []))))

    pub cut_full : (k : ℕ) (run rest : List A) → Full k run rest → cut fits k run rest ≡ run ∷ lines_below k rest
    unfolding cut lines_below
    cut_full k run [] full = refl
    cut_full k run (c ∷ cs) full = cut_next k run c cs (full c cs refl)

  -- two ways to part one list in two
  data Parted (a b h t : List A) : Type 0 where
    short : (e : List A) → a ≡ h ++ e → t ≡ e ++ b → Parted a b h t
    long : (c : A) (e : List A) → h ≡ a ++ (c ∷ e) → b ≡ c ∷ (e ++ t) → Parted a b h t

  parted : (a b h t : List A) → h ++ t ≡ a ++ b → Parted a b h t
  parted [] b [] t e = short [] refl e
  parted [] b (x ∷ h) t e = long x h refl (sym e)
  parted (x ∷ a) b [] t e = short (x ∷ a) refl e
  parted (x ∷ a) b (y ∷ h) t e =
      let p : x ≡ y = cc in
      let q : h ++ t ≡ a ++ b = cc in
      go (parted a b h t q) p
    where
      go : Parted a b h t → x ≡ y → Parted (x ∷ a) b (y ∷ h) t
      go (short e p q) r = short e (cc) q
      go (long c e p q) r = long c e (cc) q

  module _ (fits : ℕ → List A → Bool) (part : (k : ℕ) (d m e : List A) → T (fits k (d ++ (m ++ e))) → T (fits k m)) where
    -- the other cutting's line `h` cannot reach past `c`, so what it leaves behind, `e`, is on our lines already
    onward : (k : ℕ) (d run cs h : List A) (c : A) (hs : List (List A)) → T (not (fits k (run ++ (c ∷ []))))
        → AllFit fits k (h ∷ hs) → Parted (d ++ run) (c ∷ cs) h (joined hs)
        → ((d h : List A) (hs : List (List A)) → AllFit fits (suc k) (h ∷ hs) → h ++ joined hs ≡ (d ++ (c ∷ [])) ++ cs
        → length (cut fits (suc k) (c ∷ []) cs) ≤ suc (length hs))
        → length (cut fits (suc k) (c ∷ []) cs) ≤ length hs
    onward k d run cs h c [] t f (short e p q) ih = absurd (no_room e q)
      where
        no_room : (e : List A) → [] ≡ e ++ (c ∷ cs) → ⊥
        no_room [] q = nil≢cons q
        no_room (x ∷ e) q = nil≢cons q
    onward k d run cs h c (g ∷ gs) t f (short e p q) ih = ih e g gs f.1 (q ∙ rw append_assoc)
    onward k d run cs h c hs t f (long x e p q) ih =
        let same : x ≡ c = cc in
        let all : h ≡ d ++ ((run ++ (c ∷ [])) ++ e) = p ∙ rw same (simp append_assoc) in
        absurd (T_not (fits k (run ++ (c ∷ []))) t (part k d (run ++ (c ∷ [])) e (rw all at f.0)))

    -- No cutting has fewer lines. `d` is what the other cutting has on its lines from k on, and ours has on the lines before.
    pub fewest : (k : ℕ) (d run cs h : List A) (hs : List (List A)) → AllFit fits k (h ∷ hs) → h ++ joined hs ≡ (d ++ run) ++ cs
        → length (cut fits k run cs) ≤ suc (length hs)
    unfolding cut
    fewest k d run [] h hs f e = omega arith
    fewest k d run (c ∷ cs) h hs f e =
        by_test (fits k (run ++ (c ∷ [])))
        (λ t. rw (cut_more fits k run c cs t) (fewest k d (run ++ (c ∷ [])) cs h hs f (e ∙ simp append_assoc)))
        (λ t. rw (cut_next fits k run c cs t) (suc-le-suc
        (onward k d run cs h c hs t f (parted (d ++ run) (c ∷ cs) h (joined hs) e)
        (λ d' h' hs' f' e'. fewest (suc k) d' (c ∷ []) cs h' hs' f' e'))))
