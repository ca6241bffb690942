-- The bytes of a line of the grammar: no CR stands inside; past the path only an ORCPT carries non-ASCII.
use Rattle.std.specs.Prelude.{◌≡◌, refl, Bool, true, false, not, List, [], ◌∷◌, ◌++◌, map, ℕ, ◌+◌, T, take, drop}
use Rattle.std.proofs.Math.Bool.{or-true}
use Rattle.std.proofs.Math.Option.{Option}
use Rattle.std.proofs.Common.{take-append-drop}
use Rattle.std.proofs.Math.Facts.{T_not, not_T, and_yes, yes_and, no_eqb}
use Rattle.lists.specs.ListsLaws.{by_test, yes_true, no_false, all_append, all_right, all_weaken, all_joined}
use Rattle.lists.specs.Lists.{all, nonempty}
use Rattle.lists.specs.Byte.{is_ascii}
use Rattle.lists.specs.CutBy.{cut_by}
use Rattle.lists.specs.CutByLaws.{cut_joined}
use Rattle.letter_case.specs.LetterCase.{bytes, lower, same_any_case}
use Rattle.line.specs.Line.{not_cr}
use Rattle.address.specs.Address.{is_quoted_byte}
use Rattle.address.specs.GrammarLaws.{address_visible}
use Rattle.parameter.specs.Parameter.{spaced_len, params, is_keyword_byte, is_value_byte, keyword_len, value, is_orcpt, orcpt_clean}
use Rattle.parameter.specs.AsciiLaws.{tail_ascii}
use Rattle.envelope_line.specs.EnvelopeLine.{verb, tail, orcpt_fault}
use Rattle.rules.specs.declared.Rules.{Rules}
use Rattle.envelope_line.specs.LineGrammar.{Path, is_value, Others, Tail, Line, LineRefused, Written}
use Rattle.envelope_line.proofs.LineGrammarLaws.{line_tail}
use Rattle.envelope_line.proofs.TailGrammarLaws.{same_each, Keyword, other_keyword, alt_keyword, tail_reads}

-- bytes of a class that CR is not in
class_no_cr : (f : ℕ → Bool) → f 13 ≡ false → (s : List ℕ) → T (all f s) → T (all not_cr s)
class_no_cr f n s h = all_weaken f not_cr (λ b t. no_eqb {a = b} {b = 13} (λ e. rw (e, n) at t)) s h

lower_no_cr : (y : ℕ) → T (not_cr (lower y)) → T (not_cr y)
unfolding lower
lower_no_cr y t = no_eqb {a = y} {b = 13} (λ e. rw e at t)

same_no_cr : (xs ys : List ℕ) → T (same_any_case xs ys) → T (all (λ x. not_cr (lower x)) xs) → T (all not_cr ys)
same_no_cr = same_each not_cr not_cr lower_no_cr

verb_no_cr : (mail : Bool) → T (all (λ x. not_cr (lower x)) (verb mail))
unfolding verb bytes lower
verb_no_cr true = tt
verb_no_cr false = tt

path_no_cr : {mail : Bool} {p : List ℕ} → Path mail p → T (all not_cr p)
unfolding is_quoted_byte bytes lower
path_no_cr (Path.address {path = p} a) = class_no_cr is_quoted_byte refl p (address_visible a)
path_no_cr Path.empty = tt
path_no_cr (Path.postmaster {path = p} t) = same_no_cr (bytes "Postmaster") p t tt

keyword_no_cr : {k : List ℕ} → Keyword k → T (all not_cr k)
unfolding is_keyword_byte
keyword_no_cr {k} w = class_no_cr is_keyword_byte refl k w.each

no_value : (orcpt : Bool) → is_value_byte orcpt 13 ≡ false
unfolding is_value_byte
no_value true = refl
no_value false = refl

value_no_cr : (k v : List ℕ) → T (is_value k v) → T (all not_cr v)
value_no_cr k v x =
    let o = same_any_case (bytes "ORCPT") k in
    class_no_cr (is_value_byte o) (no_value o) v (and_yes (nonempty v) (all (is_value_byte o) v) x).1

-- a parameter with a value before a tail
valued_no_cr : {k : List ℕ} → Keyword k → (v more : List ℕ) → T (is_value k v) → T (all not_cr more) → T (all not_cr (k ++ (61 ∷ (v ++ more))))
valued_no_cr {k} w v more x h = all_append not_cr k (61 ∷ (v ++ more)) (keyword_no_cr w) (all_append not_cr v more (value_no_cr k v x) h)

others_no_cr : {t : List ℕ} → Others t → T (all not_cr t)
others_no_cr Others.end = tt
others_no_cr (Others.bare {more} k t o) = all_append not_cr k more (keyword_no_cr (other_keyword k t).keyword_is) (others_no_cr o)
others_no_cr (Others.valued {more} k v t x o) = valued_no_cr (other_keyword k t).keyword_is v more x (others_no_cr o)

parts_no_cr : (mail : Bool) (front : List ℕ) {p : List ℕ} → T (same_any_case (verb mail) front) → Path mail p → (t : List ℕ) → T (all not_cr t)
    → T (all not_cr (front ++ (p ++ (62 ∷ t))))
parts_no_cr mail front {p} f q t h = all_append not_cr front (p ++ (62 ∷ t)) (same_no_cr (verb mail) front f (verb_no_cr mail)) (all_append not_cr p (62 ∷ t) (path_no_cr q) h)

tail_no_cr : {v : Option (List ℕ)} {t : List ℕ} → Tail v t → T (all not_cr t)
tail_no_cr (Tail.plain o) = others_no_cr o
tail_no_cr (Tail.with_alt {before} {v} {after} k o a x q) =
    all_append not_cr before (32 ∷ (k ++ (61 ∷ (v ++ after)))) (others_no_cr o) (valued_no_cr (alt_keyword k a) v after x (others_no_cr q))

pub line_no_cr : {mail : Bool} {p : List ℕ} {v : Option (List ℕ)} {line : List ℕ} → Line mail p v line → T (all not_cr line)
line_no_cr {mail} l = rw l.is (parts_no_cr mail l.front l.is_front l.is_path l.tail (tail_no_cr l.is_tail))

pub written_no_cr : {rules : Rules} {mail : Bool} {line t out text : List ℕ} → Written rules mail line t out text → T (all not_cr line)
written_no_cr (Written.copied l h) = line_no_cr l
written_no_cr (Written.replaced l a h k) = line_no_cr l

pub refused_no_cr : {rules : Rules} {mail : Bool} {line : List ℕ} {number byte : ℕ} → LineRefused rules mail line number byte → T (all not_cr line)
refused_no_cr (LineRefused.no_alternative l h) = line_no_cr l
refused_no_cr (LineRefused.beside_ascii l a h) = line_no_cr l
refused_no_cr (LineRefused.no_address l a h) = line_no_cr l
refused_no_cr (LineRefused.retired l n) = line_no_cr l

-- ---- ORCPT

drop_each : (parts : List (List ℕ)) → T (all (all is_ascii) parts) → T (all (all is_ascii) (map (drop 1) parts))
drop_each [] h = tt
drop_each (x ∷ parts) h =
    let p = and_yes (all is_ascii x) (all (all is_ascii) parts) h in
    yes_and (all is_ascii (drop 1 x)) (all (all is_ascii) (map (drop 1) parts)) (all_right is_ascii (take 1 x) (drop 1 x) (rw take-append-drop p.0)) (drop_each parts p.1)

params_ascii : (t : List ℕ) → T (all is_ascii t) → T (all (all is_ascii) (params t))
unfolding params
params_ascii t h = drop_each (cut_by spaced_len t) (all_joined is_ascii (cut_by spaced_len t) (rw (cut_joined spaced_len t) h))

ascii_clean : (p : List ℕ) → T (all is_ascii p) → T (orcpt_clean p)
unfolding orcpt_clean value
ascii_clean p h =
    let n = keyword_len p + 1 in
    let v = all_right is_ascii (take n p) (drop n p) (rw take-append-drop h) in
    rw (yes_true (all is_ascii (drop n p)) v, or-true (not (is_orcpt p))) tt

-- 6: "an ORCPT carries non-ASCII". Nothing else that follows a path may.
pub orcpt_exact : {mail : Bool} {p : List ℕ} {v : Option (List ℕ)} {line : List ℕ} (l : Line mail p v line) → orcpt_fault mail line ≡ not (all is_ascii l.tail)
unfolding orcpt_fault
orcpt_exact {mail} {p} {v} {line} l =
    let t = l.tail in
    let r = tail_reads l.is_tail in
    let same : tail mail line ≡ t = line_tail l in
    rw same
    (by_test (all is_ascii t)
    (λ h. rw (yes_true (all is_ascii t) h, yes_true (all orcpt_clean (params t)) (all_weaken (all is_ascii) orcpt_clean ascii_clean (params t) (params_ascii t h))))
    (λ h. rw (no_false (all is_ascii t) h, no_false (all orcpt_clean (params t)) (not_T (all orcpt_clean (params t)) (λ c. T_not (all is_ascii t) (tail_ascii t r.is_spaced_lem r.each c) h)))))

pub written_orcpt : {rules : Rules} {mail : Bool} {line t out text : List ℕ} → Written rules mail line t out text → orcpt_fault mail line ≡ not (all is_ascii t)
written_orcpt (Written.copied l h) = orcpt_exact l
written_orcpt (Written.replaced l a h k) = orcpt_exact l
