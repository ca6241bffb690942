-- Laws of groups and turns, as code finds them part by part.
use Rattle.std.specs.Bool.{then_some}
use Rattle.std.specs.Prelude.{Option, Some, None, ◌≡◌, ◌&&◌, ◌||◌, not, ℕ, ◌+◌, ◌-◌, ◌≤◌, ◌<◌, T, take, drop}
use Rattle.std.proofs.Math.Path.{refl, ap, sym}
use Rattle.std.proofs.Common.{◌∙◌, zero-le, not-suc-le-zero, length-take, length-drop, take-add, drop-drop}
use Rattle.std.proofs.Math.Bool.{Bool, true, false, or-false, or_assoc, and-false}
use mathlib.Core.List.{List, [], ◌∷◌, ◌++◌, append_assoc, append-nil}
use native.Mathlib.Omega.{arith}
use Rattle.std.proofs.Math.Facts.{and_yes}
use Rattle.std.proofs.Math.ListN.{length}
use Rattle.lists.specs.Byte.{is_ascii}
use Rattle.lists.specs.Lists.{all}
use Rattle.lists.specs.ListsLaws.{true_yes, cond_has}
use Rattle.rules.specs.declared.Rules.{Rules}
use Rattle.address_list.specs.Parts.{Part, TookFrom, inner_end}
use Rattle.address_list.specs.PartsLaws.{parts_step, parts_end}
use Rattle.address_list.specs.declared.Front.{Front}
use Rattle.address_list.specs.declared.PartKind.{PartKind}
use Rattle.address_list.specs.declared.PartKind.TheVariants.{Blank, Comment, Comma, Colon, Semicolon, Phrase, Address, Angled, Alternative, Stray}
use Rattle.group.specs.Group.{is_colon, is_semicolon, is_lost, inside, any_lost, text_of, semicolon_of, Turn, turns_from, parts_at, GroupAt, LostAt, no_turn, next_of, NextAt}
use Rattle.group.specs.declared.Group.{Group}
use Rattle.group.specs.declared.Next.{Next}
use Rattle.group.specs.declared.TurnKind.TheVariants.{OnePart, LostGroup}

pub lost_angled : (t : List ℕ) (start size : ℕ) → not (all is_ascii (take (start + size - start) (drop start t))) ≡ is_lost (Angled start size) t
unfolding is_lost
lost_angled t start size = let n : start + size - start ≡ size = omega arith in rw n

-- ---- what holds of every part

abbrev pub Each : (Part → Type 0) → List Part → Type 0
Each P [] = Unit
Each P (p ∷ ps) = P p × Each P ps

pub each_inside : (P : Part → Type 0) (ps : List Part) → Each P ps → Each P (inside ps)
unfolding inside
each_inside P [] e = tt
each_inside P (p ∷ ps) e = cond_has (Each P) (is_semicolon p.kind) [] (p ∷ inside ps) (λ _. tt) (λ _. (e.0, each_inside P ps e.1))

-- ---- what holds of turns

-- W holds of a row of parts with its turns, G of a row of parts with the turns after a group that is passed over
pub record TurnCases (W G : List Part → List Turn → Type 0) : Type 0 where
  pub none : W [] []
  pub over : G [] []
  pub group : (p : Part) (ps : List Part) (ts : List Turn) → T (is_colon p.kind) → T (any_lost (inside ps)) → G ps ts → W (p ∷ ps) (Turn.lost_group (text_of (inside ps)) ∷ ts)
  pub part : (p : Part) (ps : List Part) (ts : List Turn) → T (not (is_colon p.kind && any_lost (inside ps))) → W ps ts → W (p ∷ ps) (Turn.part p.kind p.text ∷ ts)
  pub end : (p : Part) (ps : List Part) (ts : List Turn) → is_semicolon p.kind ≡ true → W ps ts → G (p ∷ ps) ts
  pub passed : (p : Part) (ps : List Part) (ts : List Turn) → is_semicolon p.kind ≡ false → G ps ts → G (p ∷ ps) ts

module _ (W G : List Part → List Turn → Type 0) (c : TurnCases W G) where
  pub turns_have : (ps : List Part) → W ps (turns_from false ps) × G ps (turns_from true ps)
  unfolding turns_from
  turns_have [] = (c.none, c.over)
  turns_have (p ∷ ps) =
      let more = turns_have ps in
      let colon : Bool = is_colon p.kind in
      let lost : Bool = any_lost (inside ps) in (
        cond_has (W (p ∷ ps)) (colon && lost) (Turn.lost_group (text_of (inside ps)) ∷ turns_from true ps) (Turn.part p.kind p.text ∷ turns_from false ps)
            (λ y. let both = and_yes colon lost y in c.group p ps (turns_from true ps) both.0 both.1 more.1)
            (λ n. c.part p ps (turns_from false ps) n more.0),
        either p ps (is_semicolon p.kind) refl more.0 more.1,
      )
    where
      either : (p : Part) (ps : List Part) (m : Bool) → is_semicolon p.kind ≡ m → W ps (turns_from false ps) → G ps (turns_from true ps) → G (p ∷ ps) (turns_from (not m) ps)
      either p ps true e w g = c.end p ps (turns_from false ps) e w
      either p ps false e w g = c.passed p ps (turns_from true ps) e g

-- ---- the parts of a group, one after another

-- what is known where those before i are passed
pub record Passing (rules : Rules) (s : List ℕ) (at : ℕ) (lost : Bool) (i : ℕ) : Type 0 where
  pub any : any_lost (inside (parts_at rules s at)) ≡ (lost || any_lost (inside (parts_at rules s i)))
  pub text : text_of (inside (parts_at rules s at)) ≡ take (i - at) (drop at s) ++ text_of (inside (parts_at rules s i))
  pub semicolon : semicolon_of (parts_at rules s at) ≡ semicolon_of (parts_at rules s i)
  pub beyond : turns_from true (parts_at rules s at) ≡ turns_from true (parts_at rules s i)
  pub from : at ≤ i
  pub within : i ≤ length s

pub passing_start : (rules : Rules) (s : List ℕ) (at : ℕ) → at ≤ length s → Passing rules s at false at
passing_start rules s at h = record {
  any = refl;
  text = let k : at - at ≡ 0 = omega arith in rw k;
  semicolon = refl;
  beyond = refl;
  from = omega arith;
  within = h;
}

-- a group whose parts are passed, as code answers it
lost_as : {rules : Rules} {s : List ℕ} {at : ℕ} {lost : Bool} {r : Group} {o : Option Group} → o ≡ then_some lost r → any_lost (inside (parts_at rules s at)) ≡ lost
    → GroupAt rules s at r → LostAt rules s at o
lost_as {lost = true} z e g = rw z (e, g)
lost_as {lost = false} z e g = rw z e

module _ {rules : Rules} {s : List ℕ} {at i : ℕ} {lost : Bool} (g : Passing rules s at lost i) where
  module _ {f : Front} {e : ℕ} (h : i < length s) (w : TookFrom rules s i f) (q : e ≡ i + f.size) where
    size_is : e - i ≡ f.size
    size_is = omega arith

    part_size : length (take f.size (drop i s)) ≡ f.size
    part_size = rw (length-take, length-drop) (omega (arith, w.within h))

    further : take (i - at) (drop at s) ++ take f.size (drop i s) ≡ take (e - at) (drop at s)
    further =
        let n : e - at ≡ (i - at) + f.size = omega (arith, g.from) in
        let k : at + (i - at) ≡ i = omega (arith, g.from) in
        let d : drop (i - at) (drop at s) ≡ drop i s = rw (drop-drop, k) in
        rw (n, take-add, d)

    passed : (b : Bool) → is_semicolon f.kind ≡ b → turns_from true (parts_at rules s at) ≡ turns_from (not b) (parts_at rules s e)
    unfolding turns_from
    passed b k = g.beyond ∙ ap (turns_from true) (parts_step rules s i f h w) ∙ rw q (ap (λ (c : Bool). turns_from (not c) (parts_at rules s (i + f.size))) k)

    pub passing_next : {l : Bool} → is_semicolon f.kind ≡ false → l ≡ is_lost f.kind (take (e - i) (drop i s)) → Passing rules s at (lost || l) e
    unfolding inside any_lost text_of semicolon_of turns_from
    passing_next {l} k x = record {
      any = g.any ∙ rw (parts_step rules s i f h w, k, x, size_is, q) (sym (or_assoc lost (is_lost f.kind (take f.size (drop i s))) (any_lost (inside (parts_at rules s (i + f.size))))));
      text = g.text ∙ rw (← further, q, parts_step rules s i f h w, k) (sym (append_assoc (take (i - at) (drop at s)) (take f.size (drop i s)) (text_of (inside (parts_at rules s (i + f.size))))));
      semicolon = g.semicolon ∙ rw (parts_step rules s i f h w, k, q);
      beyond = passed false k;
      from = omega (arith, g.from);
      within = omega (arith, w.within h);
    }

    pub passing_end : {o : Option Group} → is_semicolon f.kind ≡ true → o ≡ then_some lost (record { end = i; next = e }) → LostAt rules s at o
    unfolding inside any_lost text_of semicolon_of turns_from
    passing_end k z = lost_as z (g.any ∙ rw (parts_step rules s i f h w, k) (or-false lost)) (record {
      text = g.text ∙ rw (parts_step rules s i f h w, k) (append-nil (take (i - at) (drop at s)));
      after = rw (g.semicolon, parts_step rules s i f h w, k, q) (omega (arith, part_size));
      beyond = passed true k;
      from = g.from;
      on = omega arith;
      within = omega (arith, w.within h);
    })

  pub passing_over : {o : Option Group} → length s ≤ i → o ≡ then_some lost (record { end = i; next = i }) → LostAt rules s at o
  unfolding inside any_lost text_of semicolon_of turns_from
  passing_over h z = lost_as z (g.any ∙ rw (parts_end rules s i h) (or-false lost)) (record {
    text = g.text ∙ rw (parts_end rules s i h) (append-nil (take (i - at) (drop at s)));
    after = rw (g.semicolon, parts_end rules s i h) (omega arith);
    beyond = g.beyond ∙ rw (parts_end rules s i h);
    from = g.from;
    on = omega arith;
    within = g.within;
  })

-- ---- a turn

module _ {rules : Rules} {s : List ℕ} {at e : ℕ} {f : Front} (h : at < length s) (w : TookFrom rules s at f) (q : e ≡ at + f.size) where
  size_of : length (take f.size (drop at s)) ≡ f.size
  size_of = rw (length-take, length-drop) (omega (arith, w.within h))

  pub next_group : {r : Group} → is_colon f.kind ≡ true → LostAt rules s e (Some r) → NextAt rules s at (record { kind = LostGroup; start = e; end = r.end; next = r.next })
  unfolding turns_from next_of
  next_group {r} k (lost, g) =
      let between : length (text_of (inside (parts_at rules s e))) ≡ r.end - e =
      ap length g.text ∙ rw (length-take, length-drop) (omega (arith, g.from, g.on, g.within)) in
      let end : at + length (take f.size (drop at s)) + length (text_of (inside (parts_at rules s e))) ≡ r.end =
      omega (arith, between, size_of, g.from) in
      record {
        equal = rw (parts_step rules s at f h w, ← q, k, lost, end, ← g.after, size_of, ← q);
        is = rw (parts_step rules s at f h w, ← q, k, lost, g.text, g.beyond);
        ordered = g.from;
        inner = zero-le;
        on = omega (arith, g.from, g.on, w.some);
        covers = g.on;
        within = g.within;
      }

  next_part : is_colon f.kind && any_lost (inside (parts_at rules s e)) ≡ false → NextAt rules s at (record { kind = OnePart f.kind; start = at; end = e; next = e })
  unfolding turns_from next_of
  next_part k =
      let n : e - at ≡ f.size = omega arith in
      record {
        equal = rw (parts_step rules s at f h w, ← q, k, size_of, ← q);
        is = rw (parts_step rules s at f h w, ← q, k, n);
        ordered = omega arith;
        inner = rw n w.inner;
        on = omega (arith, w.some);
        covers = omega arith;
        within = omega (arith, w.within h);
      }

  -- a group that loses no member
  pub next_whole : LostAt rules s e None → NextAt rules s at (record { kind = OnePart f.kind; start = at; end = e; next = e })
  next_whole l = next_part (rw l (and-false (is_colon f.kind)))

  -- a part that opens none
  pub next_other : is_colon f.kind ≡ false → NextAt rules s at (record { kind = OnePart f.kind; start = at; end = e; next = e })
  next_other k = next_part (rw k refl)

-- past the end of a text
pub next_past : {rules : Rules} {s : List ℕ} {at : ℕ} {r : Next} → length s ≤ at → at < length s → NextAt rules s at r
next_past {at = at} h k = absurd (not-suc-le-zero {n = 0} (omega arith))

pub no_turn_lem : (rules : Rules) (s : List ℕ) (at : ℕ) → length s ≤ at → no_turn at ≡ next_of at (parts_at rules s at)
unfolding next_of
no_turn_lem rules s at h = rw (parts_end rules s at h)
