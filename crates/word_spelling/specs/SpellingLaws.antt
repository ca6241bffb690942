-- Laws of the spelling.
use Rattle.std.specs.Prelude.{◌≡◌, refl, true, not, ◌||◌, List, [], ◌∷◌, ◌++◌, ℕ, ◌+◌, ◌*◌, ◌≤◌, ◌<◌, length, drop, get_or, T, eqb, ltb}
use Rattle.std.proofs.Common.{sym, ap, ◌∙◌, append_assoc, append-nil, not-suc-le-zero, add-one, arith, length-append, drop_of_length-le, drop-cons, eqb→eq, lit≤}
use Rattle.std.proofs.Math.Facts.{and_yes, yes_and, no_eqb, ltb_yes, ltb_no}
use Rattle.lists.specs.Lists.{all, joined}
use Rattle.lists.specs.ListsLaws.{by_test, cond_yes, cond_no, joined_append}
use Rattle.lists.specs.ByteLaws.{within_low, within_high, to_within, below, implies}
use Rattle.word_spelling.specs.Spelling.{bare, escape, spell_byte, spell}
use Rattle.word_spelling.specs.Cost.{byte_cost, cost}
use Rattle.word_spelling.specs.HighChar.{high}

pub spell_bare : (b : ℕ) → T (bare b) → spell_byte b ≡ b ∷ []
unfolding spell_byte
spell_bare b t = cond_yes (bare b) _ _ t

pub spell_space : spell_byte 32 ≡ 95 ∷ []
unfolding spell_byte bare
spell_space = refl

pub spell_hex : (b : ℕ) → T (not (bare b)) → T (not (eqb b 32)) → spell_byte b ≡ escape b
unfolding spell_byte
spell_hex b t u = cond_no (bare b) _ _ t ∙ cond_no (eqb b 32) _ _ u

-- what each of the three spellings has, every byte's has
by_spelling : (P : List ℕ → Type 0) (b : ℕ) → P (b ∷ []) → P (95 ∷ []) → P (escape b) → P (spell_byte b)
by_spelling P b x y z =
    by_test (bare b) (λ t. rw (spell_bare b t) x)
    (λ t. by_test (eqb b 32) (λ u. rw (eqb→eq b 32 u, spell_space) y) (λ u. rw (spell_hex b t u) z))

pub length_spell_byte : (b : ℕ) → length (spell_byte b) ≤ 3
length_spell_byte b = by_spelling (λ l. length l ≤ 3) b (lit≤ tt) (lit≤ tt) (lit≤ tt)

pub spell_byte_some : (b : ℕ) → 0 < length (spell_byte b)
spell_byte_some b = by_spelling (λ l. 0 < length l) b (lit≤ tt) (lit≤ tt) (lit≤ tt)

pub spell_append : (a b : List ℕ) → spell (a ++ b) ≡ spell a ++ spell b
unfolding spell
spell_append [] b = refl
spell_append (x ∷ a) b = rw (spell_append a b) (sym (append_assoc (spell_byte x) (spell a) (spell b)))

pub length_spell : (l : List ℕ) → length (spell l) ≤ 3 * length l
unfolding spell
length_spell [] = omega arith
length_spell (b ∷ l) = omega (arith, length-append (spell_byte b) (spell l), length_spell_byte b, length_spell l)

pub length_spell_append : (a b : List ℕ) → length (spell (a ++ b)) ≡ length (spell a) + length (spell b)
length_spell_append a b = ap length (spell_append a b) ∙ length-append (spell a) (spell b)

pub length_spell_joined : (d m : List (List ℕ)) → length (spell (joined (d ++ m))) ≡ length (spell (joined d)) + length (spell (joined m))
length_spell_joined d m = rw joined_append (length_spell_append (joined d) (joined m))

pub spell_one : (b : ℕ) → spell (b ∷ []) ≡ spell_byte b
unfolding spell
spell_one b = append-nil (spell_byte b)

-- a text from a place on
pub spell_at : (s : List ℕ) (j : ℕ) → j < length s → spell (drop j s) ≡ spell_byte (get_or s j 0) ++ spell (drop (j + 1) s)
unfolding spell
spell_at s j h = rw (add-one j, drop-cons s j 0 h) refl

pub spell_end : (s : List ℕ) (j : ℕ) → length s ≤ j → spell (drop j s) ≡ []
unfolding spell
spell_end s j h = rw (drop_of_length-le s {i = j} h) refl

-- ---- bytes that are not ASCII

abbrev pub escapes : List ℕ → List ℕ
escapes [] = []
escapes (b ∷ bytes) = escape b ++ escapes bytes

high_bare : (b : ℕ) → T (high b) → T (not (bare b))
unfolding bare
high_bare b t = implies (high b) (not (bare b)) (below (λ k. not (high k) || not (bare k)) 256 tt b (omega (arith, within_high 128 255 b t))) t

pub spell_high : (bytes : List ℕ) → T (all high bytes) → spell bytes ≡ escapes bytes
unfolding spell
spell_high [] h = refl
spell_high (b ∷ bytes) h =
    let both = and_yes (high b) (all high bytes) h in
    let other : T (not (eqb b 32)) = no_eqb {a = b} {b = 32} (λ e. omega (arith, within_low 128 255 b both.0, e)) in
    rw (spell_hex b (high_bare b both.0) other, spell_high bytes both.1) refl

pub escapes_append : (a b : List ℕ) → escapes (a ++ b) ≡ escapes a ++ escapes b
escapes_append [] b = refl
escapes_append (x ∷ a) b = rw (escapes_append a b) (sym (append_assoc (escape x) (escapes a) (escapes b)))

pub length_escapes : (bytes : List ℕ) → length (escapes bytes) ≡ 3 * length bytes
length_escapes [] = refl
length_escapes (b ∷ bytes) = omega (arith, length-append (escape b) (escapes bytes), length_escapes bytes)

-- bytes that are not ASCII take three characters each
pub high_cost : (c : List ℕ) → T (all high c) → 3 * length c ≡ cost c
high_cost c t = sym (ap length (spell_high c t) ∙ length_escapes c)

-- ---- how many characters bytes take

pub cost_at : (c : List ℕ) (i : ℕ) → i < length c → cost (drop i c) ≡ byte_cost (get_or c i 0) + cost (drop (i + 1) c)
cost_at c i h = ap length (spell_at c i h) ∙ length-append (spell_byte (get_or c i 0)) (spell (drop (i + 1) c))

cost_cons : (b : ℕ) (c : List ℕ) → cost (b ∷ c) ≡ byte_cost b + cost c
unfolding spell
cost_cons b c = length-append (spell_byte b) (spell c)

pub cost_one : (a m : ℕ) → m ≡ byte_cost a → m ≡ cost (a ∷ [])
unfolding spell
cost_one a m e = omega (arith, e, cost_cons a [])

pub cost_some : (c : List ℕ) → 0 < length c → 0 < cost c
cost_some [] h = absurd (not-suc-le-zero h)
cost_some (b ∷ c) h = omega (arith, cost_cons b c, spell_byte_some b)

pub cost_end : (c : List ℕ) (i : ℕ) → length c ≤ i → cost (drop i c) ≡ 0
cost_end c i h = ap length (spell_end c i h)

-- a byte that takes one character is ASCII
pub alone_ascii : (b : ℕ) → b < 256 → byte_cost b ≡ 1 → b < 128
alone_ascii b h e =
    by_test (ltb b 128) (λ t. ltb_yes t)
    (λ t. let k : T (all high (b ∷ [])) = yes_and (high b) true (to_within 128 255 b (ltb_no t) (omega arith)) tt in
    absurd (omega (arith, e, ap length (spell_one b), ap length (spell_high (b ∷ []) k))))
