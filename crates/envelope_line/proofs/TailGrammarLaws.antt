-- What follows a path is well-formed exactly if the grammar makes it.
use Rattle.std.specs.Prelude.{◌≡◌, refl, Bool, ◌&&◌, ◌||◌, ℕ, zero, suc, pred, ◌+◌, ◌≤◌, ◌<◌, T, eqb, length, take, get_or}
use Rattle.std.proofs.Common.{ap, sym, subst, ◌∙◌, zero-le, suc-le-suc, add-one, arith, eqb→eq, take-append-drop, drop-cons, eqb-true, lt-ltb, le-ltb}
use Rattle.std.proofs.Math.Bool.{true, false, not}
use mathlib.Core.List.{List, [], ◌∷◌, ◌++◌, map, append_assoc, append-nil}
use Rattle.std.proofs.Math.Option.{Option, none, some}
use Rattle.std.proofs.Math.Nat.{add-zero}
use Rattle.std.proofs.Math.ListN.{drop, length-append}
use Rattle.std.proofs.Math.Seq.{take_all, take-append_seam, drop-append_seam, drop-append-add, get_or-append_seam}
use Rattle.std.proofs.Math.Facts.{and_yes, yes_and, ltb_yes, ltb_no, no_eqb}
use Rattle.std.proofs.lemmas.Bool.{not-false}
use Rattle.lists.specs.ListsLaws.{by_test, cond_has, yes_true, no_false, all_append, all_weaken}
use Rattle.lists.specs.Lists.{all, nonempty}
use Rattle.lists.specs.Byte.{within}
use Rattle.lists.specs.Run.{run}
use Rattle.lists.specs.RunLaws.{run_all, run_after, run_past}
use Rattle.lists.specs.CutBy.{cut_by, cut_after}
use Rattle.lists.specs.CutByLaws.{cut_nil, cut_front}
use Rattle.letter_case.specs.LetterCase.{bytes, lower, same_any_case}
use Rattle.parameter.specs.Parameter.{not_space, spaced_len, params, spaced, is_keyword_byte, keyword_len, keyword, has_value, value, is_orcpt, is_alt, is_value_byte, is_param, alts, alts_ok, alt, alt_place}
use Rattle.envelope_line.specs.EnvelopeLine.{without_alt}
use Rattle.envelope_line.specs.LineGrammar.{is_other_keyword, is_value, Others, Tail, value_place, others_of}

-- ---- keywords

-- a test of each byte of a text that is the same in any case
pub same_each : (f g : ℕ → Bool) → ((y : ℕ) → T (f (lower y)) → T (g y)) → (xs ys : List ℕ) → T (same_any_case xs ys) → T (all (λ x. f (lower x)) xs) → T (all g ys)
unfolding same_any_case
same_each f g h [] [] t a = tt
same_each f g h [] (y ∷ ys) t a = absurd t
same_each f g h (x ∷ xs) [] t a = absurd t
same_each f g h (x ∷ xs) (y ∷ ys) t a =
    let p = and_yes (eqb (lower x) (lower y)) (same_any_case xs ys) t in
    let l = and_yes (f (lower x)) (all (λ x. f (lower x)) xs) a in
    yes_and (g y) (all g ys) (h y (rw (eqb→eq (lower x) (lower y) p.0) at l.0)) (same_each f g h xs ys p.1 l.1)

pub record Keyword (k : List ℕ) : Type 0 where
  pub some : T (nonempty k)
  pub each : T (all is_keyword_byte k)
  pub first : T (not (eqb (get_or k 0 0) 45))

-- a keyword other than ALT-ADDRESS
pub record OtherKeyword (k : List ℕ) : Type 0 where
  pub keyword_is : Keyword k
  pub other : T (not (same_any_case (bytes "ALT-ADDRESS") k))

pub other_keyword : (k : List ℕ) → T (is_other_keyword k) → OtherKeyword k
other_keyword k t =
    let s = nonempty k in
    let e = all is_keyword_byte k in
    let f = not (eqb (get_or k 0 0) 45) in
    let a = and_yes (s && e && f) (not (same_any_case (bytes "ALT-ADDRESS") k)) t in
    let b = and_yes (s && e) f a.0 in
    let c = and_yes s e b.0 in
    record { keyword_is = record { some = c.0; each = c.1; first = b.1 }; other = a.1 }

keyword_other : (k : List ℕ) → Keyword k → T (not (same_any_case (bytes "ALT-ADDRESS") k)) → T (is_other_keyword k)
keyword_other k w n =
    let s = nonempty k in
    let e = all is_keyword_byte k in
    let f = not (eqb (get_or k 0 0) 45) in
    yes_and (s && e && f) (not (same_any_case (bytes "ALT-ADDRESS") k)) (yes_and (s && e) f (yes_and s e w.some w.each) w.first) n

lower_keyword : (y : ℕ) → T (is_keyword_byte (lower y)) → T (is_keyword_byte y)
unfolding lower is_keyword_byte
lower_keyword y =
    cond_has (λ n. T (is_keyword_byte n) → T (is_keyword_byte y)) (within 65 90 y) (y + 32) y
    (λ t h. rw (yes_true (within 65 90 y) t) tt)
    (λ t h. h)

-- ALT-ADDRESS is a keyword
pub alt_keyword : (k : List ℕ) → T (same_any_case (bytes "ALT-ADDRESS") k) → Keyword k
unfolding same_any_case bytes lower is_keyword_byte
alt_keyword [] a = absurd a
alt_keyword (y ∷ k) a =
    let t = (and_yes (eqb 97 (lower y)) (same_any_case (bytes "LT-ADDRESS") k) a).0 in
    record {
      some = tt;
      each = same_each is_keyword_byte is_keyword_byte lower_keyword (bytes "ALT-ADDRESS") (y ∷ k) a tt;
      first = no_eqb {a = y} {b = 45} (λ e. rw e at t);
    }

-- ---- a parameter, read

first_of : (n : ℕ) (p : List ℕ) → T (nonempty (take n p)) → get_or (take n p) 0 0 ≡ get_or p 0 0
first_of zero p h = absurd h
first_of (suc n) [] h = refl
first_of (suc n) (b ∷ p) h = refl

split_keyword : (p : List ℕ) → keyword p ++ drop (keyword_len p) p ≡ p
unfolding keyword
split_keyword p = take-append-drop (keyword_len p) p

record Read (p : List ℕ) : Type 0 where
  keyword_is : Keyword (keyword p)
  rest : T (not (has_value p) || eqb (get_or p (keyword_len p) 0) 61 && nonempty (value p) && all (is_value_byte (is_orcpt p)) (value p))

read : (p : List ℕ) → T (is_param p) → Read p
unfolding is_param keyword keyword_len
read p h =
    let n = run is_keyword_byte p in
    let a = and_yes (nonempty (take n p) && not (eqb (get_or p 0 0) 45)) _ h in
    let b = and_yes (nonempty (take n p)) (not (eqb (get_or p 0 0) 45)) a.0 in
    record {
      keyword_is = record { some = b.0; each = run_all is_keyword_byte p; first = rw (first_of n p b.0) b.1 };
      rest = a.1;
    }

-- a parameter without a value is its keyword
read_bare : (p : List ℕ) → T (not (has_value p)) → keyword p ≡ p
unfolding has_value keyword
read_bare p h = take_all (keyword_len p) p (ltb_no {a = keyword_len p} {b = length p} h)

record Valued (p : List ℕ) : Type 0 where
  value_is : T (is_value (keyword p) (value p))
  is : keyword p ++ (61 ∷ value p) ≡ p

read_valued : (p : List ℕ) → T (is_param p) → T (has_value p) → Valued p
unfolding has_value value is_orcpt
read_valued p h t =
    let n = keyword_len p in
    let e = eqb (get_or p n 0) 61 in
    let s = nonempty (value p) in
    let r : T (e && s && all (is_value_byte (is_orcpt p)) (value p)) = rw (yes_true (has_value p) t) at (read p h).rest in
    let a = and_yes (e && s) (all (is_value_byte (is_orcpt p)) (value p)) r in
    let b = and_yes e s a.0 in
    let there : n < length p = ltb_yes {a = n} {b = length p} t in
    let from : drop n p ≡ 61 ∷ drop (n + 1) p = rw (add-one, drop-cons p n 0 there, eqb→eq (get_or p n 0) 61 b.0) in
    record { value_is = yes_and s (all (is_value_byte (is_orcpt p)) (value p)) b.1 a.1; is = rw (← from) (split_keyword p) }

-- a parameter with a value before a tail
valued_then : (p t : List ℕ) → Valued p → keyword p ++ (61 ∷ (value p ++ t)) ≡ p ++ t
valued_then p t v = sym (append_assoc (keyword p) (61 ∷ value p) t) ∙ ap (λ (x : List ℕ). x ++ t) v.is

read_other : (p t : List ℕ) → T (is_param p) → T (not (is_alt p)) → Others t → Others (32 ∷ (p ++ t))
unfolding is_alt
read_other p t h n o =
    let w = keyword_other (keyword p) (read p h).keyword_is n in
    by_test (has_value p)
    (λ u. let v = read_valued p h u in subst (λ (x : List ℕ). Others (32 ∷ x)) (valued_then p t v) (Others.valued (keyword p) (value p) w v.value_is o))
    (λ u. subst (λ (x : List ℕ). Others (32 ∷ (x ++ t))) (read_bare p u) (Others.bare (keyword p) w o))

read_alt : (p t : List ℕ) → T (is_param p) → T (is_alt p) → T (has_value p) → Others t → Tail (some (value p)) (32 ∷ (p ++ t))
unfolding is_alt
read_alt p t h a u o =
    let v = read_valued p h u in
    subst (λ (x : List ℕ). Tail (some (value p)) (32 ∷ x)) (valued_then p t v) (Tail.with_alt (keyword p) Others.end a v.value_is o)

-- ---- a tail, read

-- parameters, each after one space
abbrev pub after_spaces : List (List ℕ) → List ℕ
after_spaces [] = []
after_spaces (p ∷ ps) = 32 ∷ (p ++ after_spaces ps)

spaces_from : (k : ℕ) (t : List ℕ) → (k < length t → get_or t k 0 ≡ 32) → after_spaces (map (drop 1) (cut_after spaced_len k t)) ≡ drop k t
unfolding cut_after
spaces_from zero [] h = refl
spaces_from (suc k) [] h = refl
spaces_from (suc k) (b ∷ t) h = spaces_from k t (λ l. h (suc-le-suc l))
spaces_from zero (b ∷ t) h =
    let n = run not_space t in
    let m : pred (n + 1) ≡ n = rw add-one in
    let here : b ≡ 32 = h (suc-le-suc zero-le) in
    let next : n < length t → get_or t n 0 ≡ 32 = λ l. eqb-true (get_or t n 0) 32 (not-false (eqb (get_or t n 0) 32) (run_after not_space t l)) in
    rw (m, spaces_from n t next, take-append-drop n t, here)

tail_read : (t : List ℕ) → T (spaced t) → after_spaces (params t) ≡ t
unfolding spaced params cut_by cut_after
tail_read [] s = refl
tail_read (b ∷ t) s = spaces_from 0 (b ∷ t) (λ l. eqb→eq b 32 s)

-- the value of the first ALT-ADDRESS
abbrev pub alt_value : List (List ℕ) → Option (List ℕ)
alt_value [] = none
alt_value (p ∷ ps) = some (value p)

read_others : (ps : List (List ℕ)) → T (all is_param ps) → alts ps ≡ [] → Others (after_spaces ps)
unfolding alts
read_others [] h e = Others.end
read_others (p ∷ ps) h e =
    let b = and_yes (is_param p) (all is_param ps) h in
    by_test (is_alt p)
    (λ t. absurd (let q = rw (yes_true (is_alt p) t) at e in let z : ◌≡◌ {A = ℕ} 0 1 = cc in omega arith))
    (λ t. read_other p (after_spaces ps) b.0 t (read_others ps b.1 (rw (no_false (is_alt p) t) at e)))

tail_then : {t : List ℕ} {v : Option (List ℕ)} (p : List ℕ) → T (is_param p) → T (not (is_alt p)) → Tail v t → Tail v (32 ∷ (p ++ t))
tail_then {t} p h n (Tail.plain o) = Tail.plain (read_other p t h n o)
tail_then p h n (Tail.with_alt {before} {v} k o a x q) = rw append_assoc at (Tail.with_alt {v = v} k (read_other p before h n o) a x q)

-- an only ALT-ADDRESS has a value
only_alt : (p : List ℕ) (found : List (List ℕ)) → T (alts_ok (p ∷ found)) → (found ≡ []) × T (has_value p)
unfolding alts_ok
only_alt p [] h = (refl, h)
only_alt p (q ∷ found) h = absurd h

read_params : (ps : List (List ℕ)) → T (all is_param ps) → T (alts_ok (alts ps)) → Tail (alt_value (alts ps)) (after_spaces ps)
unfolding alts
read_params [] h k = Tail.plain Others.end
read_params (p ∷ ps) h k =
    let b = and_yes (is_param p) (all is_param ps) h in
    by_test (is_alt p)
    (λ t. let yes = yes_true (is_alt p) t in
    let one = only_alt p (alts ps) (rw yes at k) in
    rw yes (read_alt p (after_spaces ps) b.0 t one.1 (read_others ps b.1 one.0)))
    (λ t. let no = no_false (is_alt p) t in
    rw no (tail_then p b.0 t (read_params ps b.1 (rw no at k))))

pub read_tail : (t : List ℕ) → T (spaced t) → T (all is_param (params t)) → T (alts_ok (alts (params t))) → Tail (alt_value (alts (params t))) t
read_tail t s h k = rw (tail_read t s) at (read_params (params t) h k)

-- ---- a tail, made: how it is read

-- empty, or after a space
starts_spaced : (t : List ℕ) → T (spaced t) → run not_space t ≡ 0
unfolding spaced run
starts_spaced [] s = refl
starts_spaced (b ∷ t) s = rw (yes_true (eqb b 32) s)

-- the parameter at the front of a tail
params_cons : (p t : List ℕ) → T (all not_space p) → T (spaced t) → params (32 ∷ (p ++ t)) ≡ p ∷ params t
unfolding params
params_cons p t h s =
    let n : run not_space (p ++ t) + 1 ≡ suc (length p) = omega (arith, run_past not_space p t h, starts_spaced t s) in
    rw (cut_front spaced_len (32 ∷ (p ++ t)) (suc-le-suc zero-le) (omega (arith, n)), n, take-append_seam p t, drop-append_seam p t)

no_space : (o : Bool) → T (is_value_byte o 32) → ⊥
unfolding is_value_byte
no_space true t = t
no_space false t = t

value_byte_lem : (o : Bool) (b : ℕ) → T (is_value_byte o b) → T (not_space b)
value_byte_lem o b t = no_eqb {a = b} {b = 32} (λ e. no_space o (rw e at t))

keyword_byte : (b : ℕ) → T (is_keyword_byte b) → T (not_space b) × T (not (eqb b 61))
unfolding is_keyword_byte
keyword_byte b t = (no_eqb {a = b} {b = 32} (λ e. rw e at t), no_eqb {a = b} {b = 61} (λ e. rw e at t))

keyword_solid : (k : List ℕ) → Keyword k → T (all not_space k)
keyword_solid k w = all_weaken is_keyword_byte not_space (λ b t. (keyword_byte b t).0) k w.each

value_solid : (k v : List ℕ) → T (is_value k v) → T (all not_space v)
value_solid k v x =
    let o = same_any_case (bytes "ORCPT") k in
    all_weaken (is_value_byte o) not_space (value_byte_lem o) v (and_yes (nonempty v) (all (is_value_byte o) v) x).1

first_byte : (k x : List ℕ) → T (nonempty k) → get_or (k ++ x) 0 0 ≡ get_or k 0 0
first_byte [] x h = absurd h
first_byte (b ∷ k) x h = refl

-- what a parameter is read as
record Reads (k p : List ℕ) : Type 0 where
  keyword_of : keyword p ≡ k
  is_param_lem : T (is_param p)
  solid : T (all not_space p)

module _ {k : List ℕ} (w : Keyword k) where
  keyword_all : keyword_len k ≡ length k
  unfolding keyword_len run
  keyword_all = rw append-nil at (run_past is_keyword_byte k [] w.each) ∙ add-zero (length k)

  reads_bare : Reads k k
  unfolding keyword has_value is_param
  reads_bare =
      let of : keyword k ≡ k = rw (keyword_all, take_all (length k) k (omega arith)) in
      let no : has_value k ≡ false = rw keyword_all (le-ltb (length k) (length k) (omega arith)) in
      record {
        keyword_of = of;
        is_param_lem = rw (of, no) (yes_and (nonempty k && not (eqb (get_or k 0 0) 45)) true (yes_and (nonempty k) (not (eqb (get_or k 0 0) 45)) w.some w.first) tt);
        solid = keyword_solid k w;
      }

  module _ (v : List ℕ) (x : T (is_value k v)) where
    abbrev p : List ℕ
    p = k ++ (61 ∷ v)

    keyword_front : keyword_len p ≡ length k
    unfolding keyword_len run is_keyword_byte
    keyword_front = run_past is_keyword_byte k (61 ∷ v) w.each ∙ add-zero (length k)

    value_of : value p ≡ v
    unfolding value
    value_of = rw keyword_front (drop-append-add k (61 ∷ v) 1)

    has_value_lem : has_value p ≡ true
    unfolding has_value
    has_value_lem = rw keyword_front (lt-ltb (length k) (length p) (omega (arith, length-append k (61 ∷ v))))

    keyword_before : keyword p ≡ k
    unfolding keyword
    keyword_before = rw keyword_front (take-append_seam k (61 ∷ v))

    reads_valued : Reads k p
    unfolding is_param is_orcpt
    reads_valued =
        let o = same_any_case (bytes "ORCPT") k in
        let front = yes_and (nonempty k) (not (eqb (get_or k 0 0) 45)) w.some w.first in
        record {
          keyword_of = keyword_before;
          is_param_lem =
              rw (keyword_before, first_byte k (61 ∷ v) w.some, has_value_lem, keyword_front, get_or-append_seam k 61 v 0, value_of)
              (yes_and (nonempty k && not (eqb (get_or k 0 0) 45)) (nonempty v && all (is_value_byte o) v) front x);
          solid = all_append not_space k (61 ∷ v) (keyword_solid k w) (value_solid k v x);
        }

-- parameters other than ALT-ADDRESS before a tail
record Front (before rest : List ℕ) : Type 0 where
  is_spaced_lem : T (spaced (before ++ rest))
  each : T (all is_param (params rest)) → T (all is_param (params (before ++ rest)))
  alts_of : alts (params (before ++ rest)) ≡ alts (params rest)
  place_of_lem : alt_place (params (before ++ rest)) ≡ length before + alt_place (params rest)

front_then : {k p more rest : List ℕ} → Reads k p → T (not (same_any_case (bytes "ALT-ADDRESS") k)) → Front more rest → Front (32 ∷ (p ++ more)) rest
unfolding alts alt_place spaced is_alt
front_then {k} {p} {more} {rest} r n f =
    let e : params ((32 ∷ (p ++ more)) ++ rest) ≡ p ∷ params (more ++ rest) = rw append_assoc (params_cons p (more ++ rest) r.solid f.is_spaced_lem) in
    let no : is_alt p ≡ false = rw r.keyword_of (no_false (same_any_case (bytes "ALT-ADDRESS") k) n) in
    record {
      is_spaced_lem = tt;
      each = λ h. rw e (yes_and (is_param p) (all is_param (params (more ++ rest))) r.is_param_lem (f.each h));
      alts_of = rw (e, no) f.alts_of;
      place_of_lem = rw (e, no) (omega (arith, f.place_of_lem, length-append p more));
    }

others_front : {before : List ℕ} → Others before → (rest : List ℕ) → T (spaced rest) → Front before rest
others_front Others.end rest s = record { is_spaced_lem = s; each = λ h. h; alts_of = refl; place_of_lem = omega arith }
others_front (Others.bare k t o) rest s =
    let w = other_keyword k t in
    front_then (reads_bare w.keyword_is) w.other (others_front o rest s)
others_front (Others.valued {more} k v t x o) rest s =
    let w = other_keyword k t in
    subst (λ (l : List ℕ). Front (32 ∷ l) rest) (append_assoc k (61 ∷ v) more) (front_then (reads_valued w.keyword_is v x) w.other (others_front o rest s))

-- what a tail is read as
pub record ReadsTail (v : Option (List ℕ)) (t : List ℕ) : Type 0 where
  pub is_spaced_lem : T (spaced t)
  pub each : T (all is_param (params t))
  pub alts_ok_lem : T (alts_ok (alts (params t)))
  pub alternative : alt_value (alts (params t)) ≡ v

others_read : {t : List ℕ} → Others t → ReadsTail none t
unfolding params alts alts_ok spaced
others_read {t} o =
    let f = others_front o [] tt in
    let nothing : params [] ≡ [] = rw (cut_nil spaced_len) in
    let no : alts (params t) ≡ [] = rw append-nil at f.alts_of ∙ rw nothing in
    record {
      is_spaced_lem = rw append-nil at f.is_spaced_lem;
      each = rw append-nil at (f.each (rw nothing tt));
      alts_ok_lem = rw no tt;
      alternative = rw no;
    }

-- the only ALT-ADDRESS
module _ (k v : List ℕ) (a : T (same_any_case (bytes "ALT-ADDRESS") k)) (x : T (is_value k v)) where
  abbrev param : List ℕ
  param = k ++ (61 ∷ v)

  alt_read : Reads k param
  alt_read = reads_valued (alt_keyword k a) v x

  is_alt_lem : is_alt param ≡ true
  unfolding is_alt
  is_alt_lem = rw alt_read.keyword_of (yes_true (same_any_case (bytes "ALT-ADDRESS") k) a)

  module _ {before after : List ℕ} (o : Others before) (q : Others after) where
    abbrev rest : List ℕ
    rest = 32 ∷ (k ++ (61 ∷ (v ++ after)))

    rest_params : params rest ≡ param ∷ params after
    rest_params = rw (append_assoc k (61 ∷ v) after) at (params_cons param after alt_read.solid (others_read q).is_spaced_lem)

    front : Front before rest
    unfolding spaced
    front = others_front o rest tt

    after_none : alts (params after) ≡ []
    after_none = go (alts (params after)) (others_read q).alternative
      where
        go : (found : List (List ℕ)) → alt_value found ≡ none → found ≡ []
        go [] e = refl
        go (x ∷ found) e = absurd (let z : ◌≡◌ {A = ℕ} 0 1 = cc in omega arith)

    alts_one : alts (params (before ++ rest)) ≡ param ∷ []
    unfolding alts
    alts_one = front.alts_of ∙ rw (rest_params, is_alt_lem, after_none)

    alt_value_lem : value (alt (params (before ++ rest))) ≡ v
    unfolding alt
    alt_value_lem = rw alts_one (value_of (alt_keyword k a) v x)

    alt_reads : ReadsTail (some v) (before ++ rest)
    unfolding alts_ok
    alt_reads = record {
      is_spaced_lem = front.is_spaced_lem;
      each = front.each (rw rest_params (yes_and (is_param param) (all is_param (params after)) alt_read.is_param_lem (others_read q).each));
      alts_ok_lem = rw (alts_one, has_value_lem (alt_keyword k a) v x) tt;
      alternative = rw (alts_one, value_of (alt_keyword k a) v x);
    }

    place : alt_place (params (before ++ rest)) ≡ length before
    unfolding alt_place
    place = front.place_of_lem ∙ rw (rest_params, is_alt_lem) (add-zero (length before))

    value_start_lem : alt_place (params (before ++ rest)) + (keyword_len (alt (params (before ++ rest))) + 2) ≡ length before + (length k + 2)
    unfolding alt
    value_start_lem = rw (place, alts_one, keyword_front (alt_keyword k a) v x)

    -- "that parameter goes with the space before it"
    alt_gone : without_alt (before ++ rest) ≡ before ++ after
    unfolding without_alt alt
    alt_gone =
        let gone : drop (length param) (k ++ (61 ∷ (v ++ after))) ≡ after = rw (append_assoc k (61 ∷ v) after) at (drop-append_seam param after) in
        rw (place, alts_one, take-append_seam before rest, drop-append-add before rest (suc (length param)), gone)

pub tail_reads : {v : Option (List ℕ)} {t : List ℕ} → Tail v t → ReadsTail v t
tail_reads (Tail.plain o) = others_read o
tail_reads (Tail.with_alt {v} k o a x q) = alt_reads k v a x o q

-- a value is no longer than the tail that holds it
pub value_le : {v t : List ℕ} → Tail (some v) t → length v ≤ length t
value_le (Tail.with_alt k o a x q) = simp length-append (omega arith)

-- ---- what a tail with ALT-ADDRESS is read as

pub tail_value : {v t : List ℕ} → Tail (some v) t → value (alt (params t)) ≡ v
tail_value (Tail.with_alt {v} k o a x q) = alt_value_lem k v a x o q

pub tail_others : {v t : List ℕ} (x : Tail (some v) t) → without_alt t ≡ others_of x
unfolding others_of
tail_others (Tail.with_alt {v} k o a x q) = alt_gone k v a x o q

pub value_place_lem : {v t : List ℕ} (x : Tail (some v) t) → value_place x ≡ alt_place (params t) + (keyword_len (alt (params t)) + 2)
unfolding value_place
value_place_lem (Tail.with_alt {v} k o a x q) = sym (value_start_lem k v a x o q)

pub value_within : {v t : List ℕ} (x : Tail (some v) t) → value_place x ≤ length t
unfolding value_place
value_within (Tail.with_alt k o a x q) = simp length-append (omega arith)
