-- The words of our rows are those of the sentence: each is in the encoding that holds more whole characters of what is left in its room, Q
-- when equal, and takes all that this encoding holds.
use Rattle.std.proofs.Math.Path.{◌≡◌, refl, sym, ap}
use Rattle.std.proofs.Common.{◌∙◌, arith, T_not, lt→ltb, le→leb}
use Rattle.std.specs.Prelude.{Bool, not, ◌||◌, ℕ, ◌-◌, ◌≤◌, ◌<◌, ltb}
use Rattle.std.proofs.Math.Bool.{true, false, cond}
use mathlib.Core.List.{List, [], ◌∷◌, ◌++◌, append_assoc, append-nil}
use Rattle.std.proofs.Math.Dec.{T}
use Rattle.std.proofs.Math.ListN.{length, length-append}
use Rattle.std.proofs.Math.Facts.{no_ltb}
use Rattle.lists.specs.Lists.{nonempty, joined}
use Rattle.lists.specs.ListsLaws.{by_test, cond_yes, cond_no, joined_append}
use Rattle.cut.proofs.CutLaws.{Full}
use Rattle.row.specs.declared.Encoding.{Encoding}
use Rattle.row.specs.declared.Encoding.TheVariants.{Q, B}
use Rattle.row.specs.Word.{spell_in}
use Rattle.row.specs.Row.{encodings, holds, fits_room, runs, chosen, runs_after}
use Rattle.row.specs.Choice.{front, held, holds_more, taken}
use Rattle.row.proofs.FitsLaws.{spell_in_nil, holds_part, none_fits}
use Rattle.row.proofs.WordEndLaws.{runs_step, runs_after_step}

-- ---- the longest front that passes a test

module _ (test : List (List ℕ) → Bool) where
  -- it cannot be made longer
  abbrev Filled : List (List ℕ) → List (List ℕ) → Type 0
  Filled run rest = (c : List ℕ) (cs : List (List ℕ)) → rest ≡ c ∷ cs → T (not (test (run ++ (c ∷ []))))

  front_more : (a : List (List ℕ)) (c : List ℕ) (cs : List (List ℕ)) → T (test (a ++ (c ∷ []))) → front test a (c ∷ cs) ≡ front test (a ++ (c ∷ [])) cs
  unfolding front
  front_more a c cs t = cond_yes (test (a ++ (c ∷ []))) _ _ t

  front_stop : (a : List (List ℕ)) (c : List ℕ) (cs : List (List ℕ)) → T (not (test (a ++ (c ∷ [])))) → front test a (c ∷ cs) ≡ (a, c ∷ cs)
  unfolding front
  front_stop a c cs t = cond_no (test (a ++ (c ∷ []))) _ _ t

  snoc : (a : List (List ℕ)) (c : List ℕ) (b : List (List ℕ)) → (a ++ (c ∷ [])) ++ b ≡ a ++ (c ∷ b)
  snoc a c b = append_assoc a (c ∷ []) b

  -- it passes, it is a front, and it cannot be made longer
  record Front (a cs : List (List ℕ)) : Type 0 where
    joins : a ++ cs ≡ (front test a cs).0 ++ (front test a cs).1
    passes : T (test (front test a cs).0)
    filled : Filled (front test a cs).0 (front test a cs).1

  front_of_lem : (a cs : List (List ℕ)) → T (test a) → Front a cs
  unfolding front
  front_of_lem a [] t = record { joins = refl; passes = t; filled = λ c cs e. let z : ◌≡◌ {A = ℕ} 0 1 = cc in absurd (omega arith) }
  front_of_lem a (c ∷ cs) t =
      by_test (test (a ++ (c ∷ [])))
      (λ u.
      let same = front_more a c cs u in
      let f = front_of_lem (a ++ (c ∷ [])) cs u in
      record { joins = rw same (sym (snoc a c cs) ∙ f.joins); passes = rw same f.passes; filled = rw same f.filled })
      (λ u.
      let same = front_stop a c cs u in
      record { joins = rw same refl; passes = rw same t; filled = rw same (λ d ds e. let k : c ≡ d = cc in rw k at u) })

  -- no front that passes is longer than one that cannot be made longer
  front_le : (a run rest : List (List ℕ)) → Filled (a ++ run) rest → length (front test a (run ++ rest)).0 ≤ length (a ++ run)
  unfolding front
  front_le a [] [] full = omega (arith, length-append a [])
  front_le a [] (c ∷ rest) full =
      omega (arith, ap (λ p. length p.0) (front_stop a c rest (rw append-nil at (full c rest refl))), length-append a [])
  front_le a (c ∷ run) rest full =
      by_test (test (a ++ (c ∷ [])))
      (λ u. omega (arith, ap (λ p. length p.0) (front_more a c (run ++ rest) u), front_le (a ++ (c ∷ [])) run rest (rw (snoc a c run) full), ap length (snoc a c run)))
      (λ u. omega (arith, ap (λ p. length p.0) (front_stop a c (run ++ rest) u), length-append a (c ∷ run)))

  -- and it is shorter than one that does not pass
  front_lt : (a run rest : List (List ℕ)) → T (test a) → T (not (test (a ++ run))) → Filled (a ++ run) rest
      → length (front test a (run ++ rest)).0 < length (a ++ run)
  front_lt a [] rest t n full = absurd (T_not (test a) (rw append-nil at n) t)
  front_lt a (c ∷ run) rest t n full =
      by_test (test (a ++ (c ∷ [])))
      (λ u. omega (arith, ap (λ p. length p.0) (front_more a c (run ++ rest) u), front_lt (a ++ (c ∷ [])) run rest u (rw (snoc a c run) n) (rw (snoc a c run) full), ap length (snoc a c run)))
      (λ u. omega (arith, ap (λ p. length p.0) (front_stop a c (run ++ rest) u), length-append a (c ∷ run)))

  -- one that passes and cannot be made longer is the longest, where each front of what passes does
  front_is : ((m e : List (List ℕ)) → T (test (m ++ e)) → T (test m)) → (a run rest : List (List ℕ)) → T (test (a ++ run)) → Filled (a ++ run) rest
      → front test a (run ++ rest) ≡ (a ++ run, rest)
  unfolding front
  front_is part a [] [] t full = rw append-nil refl
  front_is part a [] (c ∷ rest) t full = front_stop a c rest (rw append-nil at (full c rest refl)) ∙ rw append-nil refl
  front_is part a (c ∷ run) rest t full =
      let all : T (test ((a ++ (c ∷ [])) ++ run)) = rw (snoc a c run) t in
      front_more a c (run ++ rest) (part (a ++ (c ∷ [])) run all)
      ∙ front_is part (a ++ (c ∷ [])) run rest all (rw (snoc a c run) full) ∙ rw (snoc a c run) refl

-- ---- Q or B

neither : (a b : Bool) → T (not (a || (b || false))) → T (not a) × T (not b)
neither true b t = absurd t
neither false true t = absurd t
neither false false t = (tt, tt)

-- a front of what one encoding holds
by_one : (e : Encoding) (room : ℕ) (m d : List (List ℕ)) → T (holds room (joined (m ++ d)) e) → T (holds room (joined m) e)
by_one e room m d t = holds_part e room [] (joined m) (joined d) (rw (joined_append m d) at t)

-- the word by the sentence
pub record Taken (room : ℕ) (cs run rest : List (List ℕ)) : Type 0 where
  pub is : taken room cs ≡ (run, rest)
  pub kind : chosen encodings room (joined run) ≡ holds_more room cs

module _ (room : ℕ) (run rest : List (List ℕ)) (t : T (fits_room encodings room 0 run)) (full : Full (fits_room encodings room) 0 run rest) where
  full_q : Filled (λ run. holds room (joined run) Q) run rest
  full_q c cs e = (neither (holds room (joined (run ++ (c ∷ []))) Q) (holds room (joined (run ++ (c ∷ []))) B) (full c cs e)).0

  full_b : Filled (λ run. holds room (joined run) B) run rest
  full_b c cs e = (neither (holds room (joined (run ++ (c ∷ []))) Q) (holds room (joined (run ++ (c ∷ []))) B) (full c cs e)).1

  by_q : T (holds room (joined run) Q) → Taken room (run ++ rest) run rest
  unfolding chosen
  by_q h =
      let q : held room Q (run ++ rest) ≡ (run, rest) = front_is (λ run. holds room (joined run) Q) (by_one Q room) [] run rest h full_q in
      let le = front_le (λ run. holds room (joined run) B) [] run rest full_b in
      let kind : holds_more room (run ++ rest) ≡ Q =
      cond_no (ltb (length (held room Q (run ++ rest)).0) (length (held room B (run ++ rest)).0)) B Q
      (no_ltb {a = length (held room Q (run ++ rest)).0} {b = length (held room B (run ++ rest)).0} (omega (arith, ap (λ p. length p.0) q, le))) in
      record { is = rw kind q; kind = cond_yes (holds room (joined run) Q) Q _ h ∙ sym kind }

  by_b : T (not (holds room (joined run) Q)) → Taken room (run ++ rest) run rest
  unfolding chosen
  by_b h =
      let hb : T (holds room (joined run) B) = other (holds room (joined run) Q) (holds room (joined run) B) t h in
      let b : held room B (run ++ rest) ≡ (run, rest) = front_is (λ run. holds room (joined run) B) (by_one B room) [] run rest hb full_b in
      let lt = front_lt (λ run. holds room (joined run) Q) [] run rest none_q h full_q in
      let kind : holds_more room (run ++ rest) ≡ B =
      cond_yes (ltb (length (held room Q (run ++ rest)).0) (length (held room B (run ++ rest)).0)) B Q
      (lt→ltb (length (held room Q (run ++ rest)).0) (length (held room B (run ++ rest)).0) (omega (arith, ap (λ p. length p.0) b, lt))) in
      record { is = rw kind b; kind = cond_no (holds room (joined run) Q) Q _ h ∙ cond_yes (holds room (joined run) B) B _ hb ∙ sym kind }
    where
      other : (a b : Bool) → T (a || (b || false)) → T (not a) → T b
      other true b t u = absurd u
      other false true t u = tt
      other false false t u = t

      none_q : T (holds room [] Q)
      none_q = le→leb (length (spell_in Q [])) room (omega (arith, spell_in_nil Q))

  -- a run that fits, and is full, is the word of the sentence
  pub run_taken : Taken room (run ++ rest) run rest
  run_taken = by_test (holds room (joined run) Q) by_q by_b

-- what fits, as far as it goes
module _ (room : ℕ) (cs : List (List ℕ)) where
  longest : Front (λ run. fits_room encodings room 0 run) [] cs
  longest = front_of_lem (λ run. fits_room encodings room 0 run) [] cs (none_fits encodings tt room 0)

  its_run : List (List ℕ)
  its_run = (front (λ run. fits_room encodings room 0 run) [] cs).0

  its_rest : List (List ℕ)
  its_rest = (front (λ run. fits_room encodings room 0 run) [] cs).1

  its_taken : Taken room cs its_run its_rest
  unfolding its_run its_rest
  its_taken = rw (← longest.joins) at (run_taken room its_run its_rest longest.passes longest.filled)

  -- where B holds more, it holds what Q does not
  pub more_in_b : holds_more room cs ≡ B → (cs ≡ (held room B cs).0 ++ (held room B cs).1) × T (holds room (joined (held room B cs).0) B) × T (not (holds room (joined (held room B cs).0) Q))
  unfolding its_run its_rest chosen
  more_in_b e =
      let k = its_taken in
      let is : held room B cs ≡ (its_run, its_rest) = rw e at k.is in
      let kind : chosen encodings room (joined its_run) ≡ B = k.kind ∙ e in
      let p = of_b (holds room (joined its_run) Q) (holds room (joined its_run) B) kind in
      rw is (longest.joins, p.0, p.1)
    where
      of_b : (q b : Bool) → cond q Q (cond b B Q) ≡ B → T b × T (not q)
      of_b true b e = let z : ◌≡◌ {A = ℕ} 0 1 = cc in absurd (omega arith)
      of_b false true e = (tt, tt)
      of_b false false e = let z : ◌≡◌ {A = ℕ} 0 1 = cc in absurd (omega arith)

-- Each word of a row is the one of the sentence, and the words after it are those of what is left.
pub runs_choice : (room : ℕ) (c : List ℕ) (cs : List (List ℕ)) → T (fits_room encodings room 0 (c ∷ []))
    → (runs encodings room (c ∷ cs) ≡ (taken room (c ∷ cs)).0 ∷ runs encodings room (taken room (c ∷ cs)).1)
    × (chosen encodings room (joined (taken room (c ∷ cs)).0) ≡ holds_more room (c ∷ cs))
unfolding its_run its_rest
runs_choice room c cs t =
    let f = longest room (c ∷ cs) in
    let run = its_run room (c ∷ cs) in
    let rest = its_rest room (c ∷ cs) in
    let k = its_taken room (c ∷ cs) in
    let parts : c ∷ cs ≡ run ++ rest = f.joins in
    let step = runs_step encodings room run rest (some run rest f.filled parts) f.passes f.filled in
    (rw k.is (ap (runs encodings room) parts ∙ step), rw k.is k.kind)
  where
    some : (run rest : List (List ℕ)) → Full (fits_room encodings room) 0 run rest → c ∷ cs ≡ run ++ rest → T (nonempty run)
    some [] rest full e = absurd (T_not (fits_room encodings room 0 (c ∷ [])) (full c cs (sym e)) t)
    some (x ∷ run) rest full e = tt

-- The same on the name's line, where the word of the sentence may have no character.
pub runs_after_choice : (room column : ℕ) (cs : List (List ℕ))
    → (runs_after encodings room column cs ≡ (taken (room - column) cs).0 ∷ runs encodings room (taken (room - column) cs).1)
    × (chosen encodings (room - column) (joined (taken (room - column) cs).0) ≡ holds_more (room - column) cs)
unfolding its_run its_rest
runs_after_choice room column cs =
    let f = longest (room - column) cs in
    let run = its_run (room - column) cs in
    let rest = its_rest (room - column) cs in
    let k = its_taken (room - column) cs in
    let parts : cs ≡ run ++ rest = f.joins in
    (rw k.is (ap (runs_after encodings room column) parts ∙ runs_after_step encodings room column run rest f.passes f.filled), rw k.is k.kind)
