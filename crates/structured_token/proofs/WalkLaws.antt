-- A grammar makes exactly what a walk takes, where its rules make exactly what stands at the front.
use Rattle.std.specs.Prelude.{◌≡◌, true, ◌&&◌, T, length, take, drop}
use Rattle.std.proofs.Math.Path.{refl, sym, ap}
use Rattle.std.proofs.Common.{◌∙◌, not-suc-le-zero, arith, length-append, length-drop, length-take, take-append-drop, drop_of_length-le, drop-drop}
use mathlib.Core.List.{List, [], ◌∷◌, ◌++◌, map}
use Prim.Native.Nat.{ℕ, zero, suc, pred, ◌+◌, ◌≤◌, ◌<◌}
use Rattle.std.proofs.Math.Facts.{and_yes}
use Rattle.std.proofs.Math.Seq.{drop-append_seam}
use Rattle.lists.specs.Lists.{all, joined}
use Rattle.structured_token.specs.Walk.{Front, walk_after, walk, clear_of, becomes_of, clear_all, becoming, Value}

module _ {S A : Type 0} (front : S → List ℕ → Front S A) where
  pub walk_nil : (state : S) → walk front state [] ≡ []
  unfolding walk walk_after
  walk_nil state = refl

  walk_skip : (state : S) (k : ℕ) (s : List ℕ) → walk_after front state k s ≡ walk front state (drop k s)
  unfolding walk walk_after
  walk_skip state zero s = refl
  walk_skip state (suc k) [] = refl
  walk_skip state (suc k) (b ∷ s) = walk_skip state k s

  walk_cons : (state : S) (b : ℕ) (s : List ℕ) (n : ℕ) → n ≡ (front state (b ∷ s)).size → 0 < n
      → walk front state (b ∷ s) ≡ front state (b ∷ s) ∷ walk front (front state (b ∷ s)).next (drop n (b ∷ s))
  unfolding walk walk_after
  walk_cons state b s zero e h = absurd (not-suc-le-zero h)
  walk_cons state b s (suc n) e h =
      let f = front state (b ∷ s) in
      let more : pred f.size ≡ n = sym (ap pred e) in
      ap (λ (fs : List (Front S A)). f ∷ fs) (ap (λ k. walk_after front f.next k s) more ∙ walk_skip f.next n s)

  pub walk_front : (state : S) (s : List ℕ) → 0 < length s → 0 < (front state s).size
      → walk front state s ≡ front state s ∷ walk front (front state s).next (drop (front state s).size s)
  walk_front state [] k h = absurd (not-suc-le-zero k)
  walk_front state (b ∷ s) k h = walk_cons state b s (front state (b ∷ s)).size refl h

  -- ---- by position

  pub clear_over : (state : S) (s : List ℕ) (i : ℕ) → length s ≤ i → clear_all front state (drop i s) ≡ true
  unfolding clear_all
  clear_over state s i h = rw (drop_of_length-le s {i = i} h, walk_nil state)

  pub becoming_over : (state : S) (s : List ℕ) (i : ℕ) → length s ≤ i → becoming front state (drop i s) ≡ []
  unfolding becoming
  becoming_over state s i h = rw (drop_of_length-le s {i = i} h, walk_nil state)

  -- the part at a place, and where it ends
  pub record At (state : S) (s : List ℕ) (i e : ℕ) (f : Front S A) : Type 0 where
    pub is : front state (drop i s) ≡ f
    pub end : e ≡ i + f.size
    pub some : i < length s → 0 < f.size

  module _ {state : S} {s : List ℕ} {i e : ℕ} {f : Front S A} (h : i < length s) (a : At state s i e f) where
    walk_at : walk front state (drop i s) ≡ f ∷ walk front f.next (drop e s)
    walk_at =
        let same = a.is in
        let later : drop f.size (drop i s) ≡ drop e s = drop-drop f.size i s ∙ ap (λ n. drop n s) (sym a.end) in
        walk_front state (drop i s) (omega (arith, length-drop i s)) (rw same (a.some h)) ∙ rw (same, later)

    pub clear_at : clear_all front state (drop i s) ≡ f.clear && clear_all front f.next (drop e s)
    unfolding clear_all
    clear_at = rw walk_at

    pub becoming_at : becoming front state (drop i s) ≡ f.becomes ++ becoming front f.next (drop e s)
    unfolding becoming
    becoming_at = rw walk_at

  -- every part may stand where it does, and what becomes of them
  pub record Reads (state : S) (text : List ℕ) (p : List A) : Type 0 where
    pub clear : T (all clear_of (walk front state text))
    pub is : p ≡ joined (map becomes_of (walk front state text))

  -- the part at the front
  pub record Taken (state : S) (part more : List ℕ) (p : List A) (after : S) : Type 0 where
    pub is : front state (part ++ more) ≡ record { size = length part; clear = true; becomes = p; next = after }
    pub some : 0 < length part

  module _ {state after : S} {part more : List ℕ} {p : List A} (t : Taken state part more p after) where
    pub walk_next : walk front state (part ++ more) ≡ front state (part ++ more) ∷ walk front after more
    walk_next =
        let size : (front state (part ++ more)).size ≡ length part = ap (λ (f : Front S A). f.size) t.is in
        let next : (front state (part ++ more)).next ≡ after = ap (λ (f : Front S A). f.next) t.is in
        walk_front state (part ++ more) (omega (arith, length-append part more, t.some)) (omega (arith, t.some)) ∙ rw (size, next, drop-append_seam part more)

    reads_next : {q : List A} → Reads after more q → Reads state (part ++ more) (p ++ q)
    reads_next {q} r = record {
      clear = rw (walk_next, t.is) r.clear;
      is = rw (walk_next, t.is, r.is);
    }

  module _ (Rule : S → List ℕ → List ℕ → List A → S → Type 0) where
    -- the rules make exactly what stands at the front
    pub record Exact : Type 0 where
      pub taken : {state after : S} {part more : List ℕ} {p : List A} → Rule state part more p after → Taken state part more p after
      pub made : (state : S) (b : ℕ) (s : List ℕ) → T (front state (b ∷ s)).clear
          → Rule state (take (front state (b ∷ s)).size (b ∷ s)) (drop (front state (b ∷ s)).size (b ∷ s)) (front state (b ∷ s)).becomes (front state (b ∷ s)).next

    -- what the grammar makes reads so
    pub made_reads : Exact → {state : S} {text : List ℕ} {p : List A} → Value Rule state text p → Reads state text p
    made_reads x (Value.end {state}) = record { clear = rw (walk_nil state) tt; is = rw (walk_nil state) }
    made_reads x (Value.next r v) = reads_next (x.taken r) (made_reads x v)

    record Made (state : S) (text : List ℕ) : Type 0 where
      p : List A
      is : Value Rule state text p

    abbrev Shorter : List ℕ → Type 0
    Shorter text = (state : S) (more : List ℕ) → length more < length text → T (all clear_of (walk front state more)) → Made state more

    module _ (x : Exact) where
      made_step : (state : S) (b : ℕ) (s : List ℕ) → Shorter (b ∷ s) → T (all clear_of (walk front state (b ∷ s))) → T (front state (b ∷ s)).clear → Made state (b ∷ s)
      made_step state b s ih h c =
          let f = front state (b ∷ s) in
          let r = x.made state b s c in
          let whole : take f.size (b ∷ s) ++ drop f.size (b ∷ s) ≡ b ∷ s = take-append-drop f.size (b ∷ s) in
          let t = x.taken r in
          let parted : walk front state (b ∷ s) ≡ f ∷ walk front f.next (drop f.size (b ∷ s)) = rw whole at (walk_next t) in
          let rest = (and_yes f.clear (all clear_of (walk front f.next (drop f.size (b ∷ s)))) (rw parted at h)).1 in
          let m = ih f.next (drop f.size (b ∷ s)) (omega (arith, t.some, length-take f.size (b ∷ s), length-drop f.size (b ∷ s))) rest in
          record { p = f.becomes ++ m.p; is = rw whole at (Value.next {q = m.p} r m.is) }

      first_clear : (state : S) (b : ℕ) (s : List ℕ) → T (all clear_of (walk front state (b ∷ s))) → T (front state (b ∷ s)).clear
      unfolding walk walk_after
      first_clear state b s h =
          let f = front state (b ∷ s) in
          (and_yes f.clear (all clear_of (walk_after front f.next (pred f.size) s)) h).0

      made_text : (state : S) (text : List ℕ) → Shorter text → T (all clear_of (walk front state text)) → Made state text
      made_text state [] ih h = record { p = []; is = Value.end }
      made_text state (b ∷ s) ih h = made_step state b s ih h (first_clear state b s h)

      made_by : (n : ℕ) (state : S) (text : List ℕ) → length text ≤ n → T (all clear_of (walk front state text)) → Made state text
      made_by zero state text l h = made_text state text (λ d more k. absurd (not-suc-le-zero {n = 0} (omega arith))) h
      made_by (suc n) state text l h = made_text state text (λ d more k. made_by n d more (omega arith)) h

      -- and the grammar makes every text that reads so
      pub reads_made : {state : S} {text : List ℕ} {p : List A} → Reads state text p → Value Rule state text p
      reads_made {state} {text} {p} r =
          let m = made_by (length text) state text (omega arith) r.clear in
          let same : p ≡ m.p = r.is ∙ sym (made_reads x m.is).is in
          rw same m.is

-- a value made by rules is made by others that make as much
pub value_by : {S A : Type 0} {Rule More : S → List ℕ → List ℕ → List A → S → Type 0}
    → ((state after : S) (part more : List ℕ) (p : List A) → Rule state part more p after → More state part more p after)
    → {state : S} {text : List ℕ} {p : List A} → Value Rule state text p → Value More state text p
value_by f Value.end = Value.end
value_by f (Value.next {state} {after} {part} {more} {p} r v) = Value.next (f state after part more p r) (value_by f v)
