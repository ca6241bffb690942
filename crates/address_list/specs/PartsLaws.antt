-- Laws of the parts of a text, as code finds them by position.
use Rattle.line.specs.LineLaws.{part_rest}
use Rattle.std.specs.Prelude.{◌≡◌, refl, true, false, cond, ◌&&◌, not, List, [], ◌∷◌, ℕ, zero, suc, pred, ◌+◌, ◌-◌, ◌≤◌, ◌<◌, ltb, eqb, length, take, drop, get_or, Option, None, Some, unwrap_or}
use Rattle.std.proofs.Common.{ap, sym, ◌∙◌, zero-le, not-suc-le-zero, arith, drop_of_length-le, length-drop, drop-drop, length-take-le}
use Rattle.std.proofs.Math.Bool.{and-false}
use borrow.Author.Tests.{lt-ltb, le-ltb, eq-eqb, ne_eqb}
use Rattle.lists.specs.Byte.{is_ascii}
use Rattle.lists.specs.Lists.{all}
use Rattle.lists.specs.Run.{run}
use Rattle.line.specs.Line.{blank}
use Rattle.address.specs.Address.{address_scan, scan_then, local_scan, dot_atom_scan, dot_atom_from}
use Rattle.comment.specs.Comment.{comment_len}
use Rattle.comment.specs.Parts.{parts, fits}
use Rattle.comment.proofs.CommentLaws.{comment_within}
use Rattle.phrase.specs.Words.{capped, address_len, word_len, phrase_len}
use Rattle.rules.specs.Rules.{allows_alternative}
use Rattle.rules.specs.declared.Rules.{Rules}
use Rattle.address_list.specs.Parts.{front, stray, alternative_at, angled_at, comment_at, named_at, part_at, inner_end, Took, TookFrom, Part, parts_from, changes}
use Rattle.address_list.specs.declared.PartKind.{PartKind}
use Rattle.address_list.specs.declared.PartKind.TheVariants.{Blank, Comment, Comma, Colon, Semicolon, Phrase, Address, Angled, Alternative}
use Rattle.address_list.specs.declared.Front.{Front}

pub took_from : {rules : Rules} {s : List ℕ} {at : ℕ} {r : Front} → at < length s → Took (part_at rules (take (length s - at) (drop at s))) (take (length s - at) (drop at s)) r → TookFrom rules s at r
took_from {rules} {s} {at} {r} h w =
    let t : Took (part_at rules (drop at s)) (drop at s) r = rw (part_rest s at) at w in
    record { is = t.is; some = t.some; within = λ k. omega (arith, t.within, length-drop at s); inner = t.inner }

pub took_past : {rules : Rules} {s : List ℕ} {at : ℕ} {r : Front} → length s ≤ at → r ≡ stray → TookFrom rules s at r
unfolding part_at named_at blank address_len capped address_scan scan_then local_scan dot_atom_scan dot_atom_from phrase_len word_len run
took_past {rules} {s} {at} {r} h q = record {
  is = q ∙ rw (drop_of_length-le s {i = at} h) past_end_lem;
  some = rw q (omega arith);
  within = λ k. absurd (not-suc-le-zero {n = 0} (omega arith));
  inner = rw q zero-le;
}
  where
    past_end_lem : stray ≡ part_at rules []
    past_end_lem = refl

-- ---- an alternative, by the tests of code

module _ (s : List ℕ) (a b inner start size : ℕ) (qi : inner ≡ b + run blank (drop b s))
    (qs : start ≡ inner + 1 + run blank (drop (inner + 1) s)) (qz : size ≡ address_len (drop start s)) where
  by_tests : alternative_at s a b ≡ cond
      (ltb b inner && not (all is_ascii (take (b - a) (drop a s))) && eqb (get_or s inner 0) 60 && ltb 0 size && eqb (get_or s (start + size) 0) 62 && eqb (get_or s (start + size + 1) 0) 62 && all is_ascii (take size (drop start s)))
      (front (Alternative start size) (start + size + 2)) stray
  unfolding alternative_at
  by_tests = rw (← qi, ← qs, ← qz)

  pub alternative_no_address : size ≡ 0 → stray ≡ alternative_at s a b
  alternative_no_address z = rw (by_tests, z) (simp and-false)

  pub alternative_open : (get_or s (start + size) 0 ≡ 62 → ⊥) → stray ≡ alternative_at s a b
  alternative_open h = rw (by_tests, ne_eqb _ _ h) (simp and-false)

  pub alternative_half_open : (get_or s (start + size + 1) 0 ≡ 62 → ⊥) → stray ≡ alternative_at s a b
  alternative_half_open h = rw (by_tests, ne_eqb _ _ h) (simp and-false)

  width : start + size - start ≡ size
  width = omega arith

  pub alternative_high : all is_ascii (take (start + size - start) (drop start s)) ≡ false → stray ≡ alternative_at s a b
  alternative_high h = rw (by_tests, rw width at h) (simp and-false)

  pub alternative_there : all is_ascii (take (b - a) (drop a s)) ≡ false → b < inner → get_or s inner 0 ≡ 60 → 0 < size
      → get_or s (start + size) 0 ≡ 62 → get_or s (start + size + 1) 0 ≡ 62 → all is_ascii (take (start + size - start) (drop start s)) ≡ true
      → front (Alternative start size) (start + size + 2) ≡ alternative_at s a b
  alternative_there f g o z c d n = rw (by_tests, f, lt-ltb _ _ g, eq-eqb _ _ o, lt-ltb 0 size z, eq-eqb _ _ c, eq-eqb _ _ d, rw width at n)

module _ (s : List ℕ) (a b inner : ℕ) (qi : inner ≡ b + run blank (drop b s)) where
  pub alternative_ascii : all is_ascii (take (b - a) (drop a s)) ≡ true → stray ≡ alternative_at s a b
  alternative_ascii h = rw (by_tests s a b inner _ _ qi refl refl, h) (simp and-false)

  pub alternative_close : inner ≡ b → stray ≡ alternative_at s a b
  alternative_close h = let k : inner ≤ b = omega arith in rw (by_tests s a b inner _ _ qi refl refl, le-ltb _ _ k)

  pub alternative_no_bracket : (get_or s inner 0 ≡ 60 → ⊥) → stray ≡ alternative_at s a b
  alternative_no_bracket h = rw (by_tests s a b inner _ _ qi refl refl, ne_eqb _ _ h) (simp and-false)

-- ---- `<address>`

module _ (rules : Rules) (s : List ℕ) (start size : ℕ) (qs : start ≡ 1 + run blank (drop 1 s)) (qz : size ≡ address_len (drop start s)) where
  pub angled_none : size ≡ 0 → stray ≡ angled_at rules s
  unfolding angled_at
  angled_none z = rw (← qs, ← qz, z)

  pub angled_there : (size ≡ 0 → ⊥) → get_or s (start + size) 0 ≡ 62 → front (Angled start size) (start + size + 1) ≡ angled_at rules s
  unfolding angled_at
  angled_there p h = rw (← qs, ← qz, ne_eqb _ _ p, eq-eqb _ _ h)

  module _ (p : size ≡ 0 → ⊥) (h : get_or s (start + size) 0 ≡ 62 → ⊥) where
    pub angled_more : allows_alternative rules ≡ true → alternative_at s start (start + size) ≡ angled_at rules s
    unfolding angled_at
    angled_more a = rw (← qs, ← qz, ne_eqb _ _ p, ne_eqb _ _ h, a)

    pub angled_refused : allows_alternative rules ≡ false → stray ≡ angled_at rules s
    unfolding angled_at
    angled_refused a = rw (← qs, ← qz, ne_eqb _ _ p, ne_eqb _ _ h, a)

-- ---- a comment

module _ (s : List ℕ) (n : ℕ) (q : n ≡ 0 + comment_len (drop 0 s)) where
  size_is : n ≡ comment_len s
  size_is = omega arith

  pub comment_length : n ≡ length (take n s)
  comment_length = sym (length-take-le n s (omega (arith, size_is, comment_within s)))

  pub comment_none : n ≡ 0 → stray ≡ comment_at s
  unfolding comment_at
  comment_none z = rw (← size_is, z)

  pub comment_long : all fits (parts (take n s)) ≡ false → stray ≡ comment_at s
  unfolding comment_at
  comment_long h = rw (← size_is, h) (simp and-false)

  pub comment_there : (n ≡ 0 → ⊥) → all fits (parts (take n s)) ≡ true → front Comment n ≡ comment_at s
  unfolding comment_at
  comment_there p h = rw (← size_is, lt-ltb 0 n (omega arith), h)

-- ---- a bare address, or a phrase

module _ (s : List ℕ) (a : ℕ) (q : a ≡ address_len (drop 0 s)) where
  pub named_address : (a ≡ 0 → ⊥) → front Address a ≡ named_at s
  unfolding named_at
  named_address p = rw (← q, lt-ltb 0 a (omega arith))

  module _ (z : a ≡ 0) (n : ℕ) (r : n ≡ phrase_len s) where
    pub named_phrase : (n ≡ 0 → ⊥) → front Phrase n ≡ named_at s
    unfolding named_at
    named_phrase p = rw (← q, z, ← r, lt-ltb 0 n (omega arith))

    pub named_none : n ≡ 0 → stray ≡ named_at s
    unfolding named_at
    named_none y = rw (← q, z, ← r, y)

-- ---- the part at the front

pub took_stray : {d : Front} {t : List ℕ} {r : Front} → r ≡ stray → stray ≡ d → 0 < length t → Took d t r
took_stray q e h = record { is = q ∙ e; some = rw q (omega arith); within = rw q h; inner = rw q zero-le }

pub took_none : {d : Front} {t : List ℕ} {o : Option Front} → o ≡ None → stray ≡ d → 0 < length t → Took d t (unwrap_or o stray)
took_none {d} {t} {o} q e h = rw q (took_stray {d = d} {t = t} {r = stray} refl e h)

pub took_as : {d e : Front} {t : List ℕ} {r : Front} → Took d t r → d ≡ e → Took e t r
took_as w q = record { is = w.is ∙ q; some = w.some; within = w.within; inner = w.inner }

pub took_mark : {d : Front} {t : List ℕ} {o : Option Front} (k : PartKind) → inner_end k ≡ 0 → o ≡ Some (front k 1) → front k 1 ≡ d → 0 < length t → Took d t (unwrap_or o stray)
took_mark {d} {t} k z q e h = let took : Took d t (front k 1) = record { is = e; some = omega arith; within = h; inner = rw z zero-le } in rw q took

module _ (rules : Rules) (t : List ℕ) where
  pub part_blank : blank (get_or t 0 0) ≡ true → front Blank 1 ≡ part_at rules t
  unfolding part_at
  part_blank h = rw h

  module _ (n0 : blank (get_or t 0 0) ≡ false) where
    pub part_comma : get_or t 0 0 ≡ 44 → front Comma 1 ≡ part_at rules t
    unfolding part_at
    part_comma h = rw (n0, eq-eqb _ _ h)

    module _ (n1 : get_or t 0 0 ≡ 44 → ⊥) where
      pub part_colon : get_or t 0 0 ≡ 58 → front Colon 1 ≡ part_at rules t
      unfolding part_at
      part_colon h = rw (n0, ne_eqb _ _ n1, eq-eqb _ _ h)

      module _ (n2 : get_or t 0 0 ≡ 58 → ⊥) where
        pub part_semicolon : get_or t 0 0 ≡ 59 → front Semicolon 1 ≡ part_at rules t
        unfolding part_at
        part_semicolon h = rw (n0, ne_eqb _ _ n1, ne_eqb _ _ n2, eq-eqb _ _ h)

        module _ (n3 : get_or t 0 0 ≡ 59 → ⊥) where
          pub part_angled : get_or t 0 0 ≡ 60 → angled_at rules t ≡ part_at rules t
          unfolding part_at
          part_angled h = rw (n0, ne_eqb _ _ n1, ne_eqb _ _ n2, ne_eqb _ _ n3, eq-eqb _ _ h)

          module _ (n4 : get_or t 0 0 ≡ 60 → ⊥) where
            pub part_comment : get_or t 0 0 ≡ 40 → comment_at t ≡ part_at rules t
            unfolding part_at
            part_comment h = rw (n0, ne_eqb _ _ n1, ne_eqb _ _ n2, ne_eqb _ _ n3, ne_eqb _ _ n4, eq-eqb _ _ h)

            pub part_named : (get_or t 0 0 ≡ 40 → ⊥) → named_at t ≡ part_at rules t
            unfolding part_at
            part_named h = rw (n0, ne_eqb _ _ n1, ne_eqb _ _ n2, ne_eqb _ _ n3, ne_eqb _ _ n4, ne_eqb _ _ h)

-- ---- the parts of a text

-- the part at the front with its bytes
abbrev pub part_in : Front → List ℕ → Part
part_in f s = record { kind = f.kind; text = take f.size s }

pub parts_skip : (rules : Rules) (k : ℕ) (s : List ℕ) → parts_from rules k s ≡ parts_from rules 0 (drop k s)
unfolding parts_from
parts_skip rules zero s = refl
parts_skip rules (suc k) [] = refl
parts_skip rules (suc k) (b ∷ s) = parts_skip rules k s

pub parts_front : (rules : Rules) (f : Front) (s : List ℕ) → f ≡ part_at rules s → 0 < f.size → 0 < length s → parts_from rules 0 s ≡ part_in f s ∷ parts_from rules 0 (drop f.size s)
unfolding parts_from
parts_front rules f [] e p h = absurd (not-suc-le-zero {n = 0} (omega arith))
parts_front rules f (b ∷ s) e p h =
    let k : suc (pred f.size) ≡ f.size = omega arith in
    rw (← e, parts_skip rules (pred f.size) s) (ap (λ (n : ℕ). part_in f (b ∷ s) ∷ parts_from rules 0 (drop n (b ∷ s))) k)

-- a turn of a walk over the parts
pub parts_step : (rules : Rules) (s : List ℕ) (i : ℕ) (f : Front) → i < length s → TookFrom rules s i f → parts_from rules 0 (drop i s) ≡ part_in f (drop i s) ∷ parts_from rules 0 (drop (i + f.size) s)
parts_step rules s i f h w = parts_front rules f (drop i s) w.is w.some (rw length-drop (omega arith)) ∙ rw drop-drop

pub parts_end : (rules : Rules) (s : List ℕ) (i : ℕ) → length s ≤ i → parts_from rules 0 (drop i s) ≡ []
unfolding parts_from
parts_end rules s i h = rw (drop_of_length-le s {i = i} h)

-- ---- the address in a part

pub changes_angled : (t : List ℕ) (start size : ℕ) → not (all is_ascii (take (start + size - start) (drop start t))) ≡ changes (Angled start size) t
unfolding changes
changes_angled t start size = let n : start + size - start ≡ size = omega arith in rw n
