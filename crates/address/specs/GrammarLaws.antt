-- The scans take exactly the texts of the grammar.
use Rattle.std.proofs.Common.{ne_eqb, eq-eqb, sym, ap, ◌∙◌, append-nil, append_assoc, add-zero, arith, eqb→eq, length-append, length-drop, take-add, take-suc, get_or-drop, length-take-le, get_or-take}
use Rattle.std.specs.Prelude.{◌≡◌, refl, Bool, true, false, not, cond, ◌&&◌, ◌||◌, List, [], ◌∷◌, ◌++◌, ℕ, suc, ◌+◌, ◌≤◌, ◌<◌, T, eqb, length, take, drop, get_or, Result, Ok, Err}
use Rattle.std.proofs.Math.Bool.{and-false, and-true, or-false}
use Rattle.std.proofs.Math.Seq.{take-length, append_snoc, drop-append_seam, get_or-append_seam}
use Rattle.std.proofs.Math.Facts.{and_yes, yes_and, or_no, eqb_no, leb_no, yes_eqb}
use Rattle.lists.specs.ListsLaws.{by_test, cond_has, yes_true, no_false, all_append}
use Rattle.lists.specs.Lists.{all, nonempty}
use Rattle.lists.specs.Byte.{within}
use Rattle.utf8.specs.Utf8.{utf8}
use Rattle.lists.specs.Run.{run}
use Rattle.lists.specs.RunLaws.{run_all, run_past}
use Rattle.address.specs.Address.{later, byte_then, scan_then, is_atext, is_atom_byte, is_quoted_byte, is_literal_byte, is_high, dot_atom_end, dot_atom_from, dot_atom_scan, quoted_from, quoted_scan, literal_from, literal_scan, domain_scan, local_scan, address_scan, takes_all, is_address}
use Rattle.address.specs.AddressLaws.{later_later, later_to, byte_within}
use Rattle.address.specs.TakenLaws.{Taken, taken_quoted, taken_literal, taken_address, whole_taken, utf8_front, utf8_through}
use Rattle.address.specs.Grammar.{Atom, DotAtom, Content, QuotedString, LocalPart, Domain, Address}

no_to : {n m : ℕ} → Err n ≡ Ok m → ⊥
no_to e = let z : ◌≡◌ {A = ℕ} 0 1 = cc in omega arith

-- ---- scans that end

-- a scan that is moved ends where it ended, moved
record Moved (k : ℕ) (r : Result ℕ ℕ) (n : ℕ) : Type 0 where
  m : ℕ
  is : r ≡ Ok m
  size : n ≡ k + m

moved : (k : ℕ) (r : Result ℕ ℕ) (n : ℕ) → later k r ≡ Ok n → Moved k r n
unfolding later
moved k (Ok m) n e = record { m = m; is = refl; size = cc }
moved k (Err m) n e = absurd (no_to e)

pub take_one_more : (b : ℕ) (s : List ℕ) (n m : ℕ) → n ≡ 1 + m → take n (b ∷ s) ≡ b ∷ take m s
take_one_more b s n m e = let k : n ≡ suc m = omega (arith, e) in rw k

later_more : (k m n : ℕ) → n ≡ k + m → later k (Ok m) ≡ Ok n
unfolding later
later_more k m n e = rw e

-- ---- dot-atom

-- no atom has a dot, a quote or a bracket
atom_byte : (b : ℕ) → T (is_atom_byte b) → (eqb b 46 ≡ false) × (eqb b 34 ≡ false) × (eqb b 91 ≡ false)
unfolding is_atom_byte is_atext
atom_byte b t = (ne_eqb b 46 (λ e. rw e at t), ne_eqb b 34 (λ e. rw e at t), ne_eqb b 91 (λ e. rw e at t))

-- what is due after an atom, or where one is due
abbrev pub After : Bool → List ℕ → Type 0
After true t = DotAtom t
After false t = (a : List ℕ) → Atom a → DotAtom (a ++ t)

pub atom_one : (b : ℕ) → T (is_atom_byte b) → Atom (b ∷ [])
atom_one b t = record { some = tt; bytes = rw (yes_true (is_atom_byte b) t) tt }

atom_snoc : (a : List ℕ) (b : ℕ) → Atom a → T (is_atom_byte b) → Atom (a ++ (b ∷ []))
atom_snoc a b h t = record { some = go a h.some; bytes = all_append is_atom_byte a (b ∷ []) h.bytes (atom_one b t).bytes }
  where
    go : (a : List ℕ) → T (nonempty a) → T (nonempty (a ++ (b ∷ [])))
    go [] h = absurd h
    go (x ∷ a) h = tt

pub atom_step : (due : Bool) (b : ℕ) (t : List ℕ) → T (is_atom_byte b || (eqb b 46 && not due)) → After (eqb b 46 && not due) t → After due (b ∷ t)
atom_step true b t h rest =
    let atom : T (is_atom_byte b) = rw (and-false (eqb b 46), or-false (is_atom_byte b)) at h in
    let more : After false t = rw (and-false (eqb b 46)) at rest in
    more (b ∷ []) (atom_one b atom)
atom_step false b t h rest = λ a k.
    by_test (is_atom_byte b)
    (λ u.
    let more : After false t = rw (atom_byte b u).0 at rest in
    rw (append_snoc a b t) at (more (a ++ (b ∷ [])) (atom_snoc a b k u)))
    (λ u.
    let dot : T (eqb b 46) = rw (no_false (is_atom_byte b) u, and-true (eqb b 46)) at h in
    let more : DotAtom t = rw (yes_true (eqb b 46) dot) at rest in
    rw (eqb→eq b 46 dot) (DotAtom.then k more))

atom_ended : (due : Bool) (t : List ℕ) (n : ℕ) → dot_atom_end due ≡ Ok n → After due (take n t)
atom_ended true t n e = absurd (no_to e)
atom_ended false t n e = λ a k. let z : n ≡ 0 = cc in rw (z, append-nil) (DotAtom.one k)

dot_atom_sound : (due : Bool) (s : List ℕ) (n : ℕ) → dot_atom_from due s ≡ Ok n → After due (take n s)
unfolding dot_atom_from
dot_atom_sound due [] n e = atom_ended due [] n e
dot_atom_sound due (b ∷ s) n e =
    let dot = eqb b 46 && not due in
    let more : (m : ℕ) → dot_atom_from dot s ≡ Ok m → After dot (take m s) = dot_atom_sound dot s in
    cond_has (λ r. r ≡ Ok n → After due (take n (b ∷ s))) (is_atom_byte b || dot) (later 1 (dot_atom_from dot s)) (dot_atom_end due)
    (λ t k.
    let i = moved 1 (dot_atom_from dot s) n k in
    rw (take_one_more b s n i.m i.size) (atom_step due b (take i.m s) t (more i.m i.is)))
    (λ t k. atom_ended due (b ∷ s) n k)
    e

-- the byte at the front, if any, goes on with no dot-atom
pub record Closed (rest : List ℕ) : Type 0 where
  pub atom : is_atom_byte (get_or rest 0 0) ≡ false
  pub dot : eqb (get_or rest 0 0) 46 ≡ false

closed_end : (rest : List ℕ) → Closed rest → dot_atom_from false rest ≡ Ok 0
unfolding dot_atom_from
closed_end [] c = refl
closed_end (b ∷ rest) c = rw (c.atom, c.dot)

atoms_pass : (a x : List ℕ) → T (all is_atom_byte a) → dot_atom_from false (a ++ x) ≡ later (length a) (dot_atom_from false x)
unfolding dot_atom_from later
atoms_pass [] x h = go (dot_atom_from false x)
  where
    go : (r : Result ℕ ℕ) → r ≡ later 0 r
    go (Ok n) = let z : 0 + n ≡ n = omega arith in rw z
    go (Err n) = let z : 0 + n ≡ n = omega arith in rw z
atoms_pass (b ∷ a) x h =
    let both = and_yes (is_atom_byte b) (all is_atom_byte a) h in
    rw (yes_true (is_atom_byte b) both.0, (atom_byte b both.0).0, atoms_pass a x both.1)
    (later_later 1 (length a) (dot_atom_from false x) ∙ (let k : 1 + length a ≡ suc (length a) = omega arith in rw k))

atom_pass : (a x : List ℕ) → Atom a → dot_atom_from true (a ++ x) ≡ later (length a) (dot_atom_from false x)
unfolding dot_atom_from
atom_pass [] x h = absurd h.some
atom_pass (b ∷ a) x h =
    let both = and_yes (is_atom_byte b) (all is_atom_byte a) h.bytes in
    rw (yes_true (is_atom_byte b) both.0, (atom_byte b both.0).0, atoms_pass a x both.1)
    (later_later 1 (length a) (dot_atom_from false x) ∙ (let k : 1 + length a ≡ suc (length a) = omega arith in rw k))

dot_atom_complete : {a : List ℕ} → DotAtom a → (rest : List ℕ) → Closed rest → dot_atom_from true (a ++ rest) ≡ Ok (length a)
unfolding dot_atom_from is_atom_byte is_atext
dot_atom_complete (DotAtom.one {a} h) rest c = rw (atom_pass a rest h, closed_end rest c) (later_to (length a))
dot_atom_complete (DotAtom.then {a} {more} h d) rest c =
    rw (append_assoc a (46 ∷ more) rest, atom_pass a (46 ∷ (more ++ rest)) h, dot_atom_complete d rest c)
    (later_later (length a) 1 (Ok (length more)) ∙ later_more (length a + 1) (length more) (length (a ++ (46 ∷ more))) (omega (arith, length-append a (46 ∷ more))))

-- ---- quoted string

-- what a string holds from a place on, with the backslash before it where its first byte is escaped
pub record Inside (escaped : Bool) (t : List ℕ) : Type 0 where
  pub text : List ℕ
  pub content : Content (cond escaped (92 ∷ text) text)
  pub is : t ≡ text ++ (34 ∷ [])

pub inside_plain : (b : ℕ) (t : List ℕ) → T (is_quoted_byte b) → (b ≡ 34 → ⊥) → Inside (eqb b 92) t → Inside false (b ∷ t)
inside_plain b t q n i =
    by_test (eqb b 92)
    (λ u.
    let content : Content (92 ∷ i.text) = rw (yes_true (eqb b 92) u) at i.content in
    record { text = b ∷ i.text; content = rw (eqb→eq b 92 u) content; is = ap (λ (l : List ℕ). b ∷ l) i.is })
    (λ u.
    let content : Content i.text = rw (no_false (eqb b 92) u) at i.content in
    record { text = b ∷ i.text; content = Content.plain q n (eqb_no {a = b} {b = 92} u) content; is = ap (λ (l : List ℕ). b ∷ l) i.is })

pub inside_escaped : (b : ℕ) (t : List ℕ) → T (within 32 126 b) → Inside false t → Inside true (b ∷ t)
inside_escaped b t q i = record { text = b ∷ i.text; content = Content.escaped q i.content; is = ap (λ (l : List ℕ). b ∷ l) i.is }

quoted_sound : (escaped : Bool) (s : List ℕ) (n : ℕ) → quoted_from escaped s ≡ Ok n → Inside escaped (take n s)
unfolding quoted_from
quoted_sound true [] n e = absurd (no_to e)
quoted_sound false [] n e = absurd (no_to e)
quoted_sound true (b ∷ s) n e =
    let more : (m : ℕ) → quoted_from false s ≡ Ok m → Inside false (take m s) = quoted_sound false s in
    cond_has (λ r. r ≡ Ok n → Inside true (take n (b ∷ s))) (within 32 126 b) (later 1 (quoted_from false s)) (Err 0)
    (λ t k.
    let i = moved 1 (quoted_from false s) n k in
    rw (take_one_more b s n i.m i.size) (inside_escaped b (take i.m s) t (more i.m i.is)))
    (λ t k. absurd (no_to k))
    e
quoted_sound false (b ∷ s) n e =
    let more : (m : ℕ) → quoted_from (eqb b 92) s ≡ Ok m → Inside (eqb b 92) (take m s) = quoted_sound (eqb b 92) s in
    let on = later 1 (quoted_from (eqb b 92) s) in
    cond_has (λ r. r ≡ Ok n → Inside false (take n (b ∷ s))) (eqb b 34) (Ok 1) (cond (is_quoted_byte b) on (Err 0))
    (λ t k.
    let one : n ≡ 1 = cc in
    rw one (record { text = []; content = Content.none; is = rw (eqb→eq b 34 t) }))
    (λ t.
    cond_has (λ r. r ≡ Ok n → Inside false (take n (b ∷ s))) (is_quoted_byte b) on (Err 0)
    (λ u k.
    let i = moved 1 (quoted_from (eqb b 92) s) n k in
    rw (take_one_more b s n i.m i.size) (inside_plain b (take i.m s) u (eqb_no {a = b} {b = 34} t) (more i.m i.is)))
    (λ u k. absurd (no_to k)))
    e

quoted_complete : {t : List ℕ} → Content t → (rest : List ℕ) → quoted_from false (t ++ (34 ∷ rest)) ≡ Ok (length t + 1)
unfolding quoted_from is_quoted_byte
quoted_complete Content.none rest = refl
quoted_complete (Content.plain {b} {more} q n m c) rest =
    rw (ne_eqb b 34 n, yes_true (is_quoted_byte b) q, ne_eqb b 92 m, quoted_complete c rest) (later_more 1 (length more + 1) (suc (length more) + 1) (omega arith))
quoted_complete (Content.escaped {b} {more} q c) rest =
    rw (yes_true (within 32 126 b) q, quoted_complete c rest)
    (later_later 1 1 (Ok (length more + 1)) ∙ later_more 2 (length more + 1) (suc (suc (length more)) + 1) (omega arith))

-- ---- a byte, and what follows

record Opened (b : ℕ) (next : List ℕ → Result ℕ ℕ) (s : List ℕ) (n : ℕ) : Type 0 where
  rest : List ℕ
  m : ℕ
  text : s ≡ b ∷ rest
  is : next rest ≡ Ok m
  size : n ≡ 1 + m

opened : (b : ℕ) (next : List ℕ → Result ℕ ℕ) (s : List ℕ) (n : ℕ) → byte_then (suc b) next s ≡ Ok n → Opened (suc b) next s n
unfolding byte_then
opened b next [] n e = absurd (no_to (rw (ne_eqb 0 (suc b) (λ z. omega arith)) at e))
opened b next (x ∷ s) n e =
    cond_has (λ r. r ≡ Ok n → Opened (suc b) next (x ∷ s) n) (eqb x (suc b)) (later 1 (next s)) (Err 0)
    (λ t k.
    let i = moved 1 (next s) n k in
    record { rest = s; m = i.m; text = rw (eqb→eq x (suc b) t); is = i.is; size = i.size })
    (λ t k. absurd (no_to k))
    e

open_complete : (b : ℕ) (next : List ℕ → Result ℕ ℕ) (s : List ℕ) (m n : ℕ) → next s ≡ Ok m → n ≡ 1 + m → byte_then b next (b ∷ s) ≡ Ok n
unfolding byte_then
open_complete b next s m n e k = rw (eq-eqb b b refl, e) (later_more 1 m n k)

pub quoted_string_sound : (s : List ℕ) (n : ℕ) → quoted_scan s ≡ Ok n → QuotedString (take n s)
unfolding quoted_scan
quoted_string_sound s n e =
    let o = opened 33 (quoted_from false) s n e in
    let i = quoted_sound false o.rest o.m o.is in
    rw (o.text, take_one_more 34 o.rest n o.m o.size, i.is) (QuotedString.quoted i.content)

pub quoted_string_complete : {q : List ℕ} → QuotedString q → (rest : List ℕ) → quoted_scan (q ++ rest) ≡ Ok (length q)
unfolding quoted_scan
quoted_string_complete (QuotedString.quoted {text} q) rest =
    rw (append_snoc text 34 rest)
    (open_complete 34 (quoted_from false) (text ++ (34 ∷ rest)) (length text + 1) (length (34 ∷ (text ++ (34 ∷ [])))) (quoted_complete q rest) (omega (arith, length-append text (34 ∷ []))))

-- ---- domain

pub record Closing (t : List ℕ) : Type 0 where
  pub text : List ℕ
  pub bytes : T (all is_literal_byte text)
  pub is : t ≡ text ++ (93 ∷ [])

literal_from_sound : (s : List ℕ) (n : ℕ) → literal_from s ≡ Ok n → Closing (take n s)
unfolding literal_from
literal_from_sound s n e =
    let k = run is_literal_byte s in
    cond_has (λ r. r ≡ Ok n → Closing (take n s)) (eqb (get_or s k 0) 93) (Ok (k + 1)) (Err k)
    (λ t q.
    let last : get_or s k 0 ≡ 93 = eqb→eq (get_or s k 0) 93 t in
    let size : n ≡ suc k = (let z : n ≡ k + 1 = cc in omega arith) in
    record { text = take k s; bytes = run_all is_literal_byte s; is = rw (size, take-suc s k 0 (byte_within s k 92 last), last) })
    (λ t q. absurd (no_to q))
    e

literal_sound : (s : List ℕ) (n : ℕ) → literal_scan s ≡ Ok n → Domain (take n s)
unfolding literal_scan
literal_sound s n e =
    let o = opened 90 literal_from s n e in
    let c = literal_from_sound o.rest o.m o.is in
    rw (o.text, take_one_more 91 o.rest n o.m o.size, c.is) (Domain.literal c.text c.bytes)

literal_complete : (t : List ℕ) → T (all is_literal_byte t) → (rest : List ℕ) → literal_from (t ++ (93 ∷ rest)) ≡ Ok (length t + 1)
unfolding literal_from run is_literal_byte
literal_complete t h rest =
    let size : run is_literal_byte (t ++ (93 ∷ rest)) ≡ length t = run_past is_literal_byte t (93 ∷ rest) h ∙ add-zero (length t) in
    rw (size, get_or-append_seam t 93 rest 0)

-- a dot-atom starts with a byte of an atom
atom_first : (a x : List ℕ) → Atom a → T (is_atom_byte (get_or (a ++ x) 0 0))
atom_first [] x h = absurd h.some
atom_first (b ∷ a) x h = (and_yes (is_atom_byte b) (all is_atom_byte a) h.bytes).0

dot_atom_first : {a : List ℕ} → DotAtom a → (x : List ℕ) → T (is_atom_byte (get_or (a ++ x) 0 0))
dot_atom_first (DotAtom.one {a} h) x = atom_first a x h
dot_atom_first (DotAtom.then {a} {more} h d) x = rw (append_assoc a (46 ∷ more) x) (atom_first a ((46 ∷ more) ++ x) h)

domain_sound : (s : List ℕ) (n : ℕ) → domain_scan s ≡ Ok n → Domain (take n s)
unfolding domain_scan dot_atom_scan
domain_sound s n e =
    cond_has (λ r. r ≡ Ok n → Domain (take n s)) (eqb (get_or s 0 0) 91) (literal_scan s) (dot_atom_scan s)
    (λ t k. literal_sound s n k)
    (λ t k. Domain.atoms (dot_atom_sound true s n k))
    e

domain_complete : {d : List ℕ} → Domain d → (rest : List ℕ) → Closed rest → domain_scan (d ++ rest) ≡ Ok (length d)
unfolding domain_scan dot_atom_scan literal_scan
domain_complete (Domain.atoms {text} a) rest c = rw (atom_byte (get_or (text ++ rest) 0 0) (dot_atom_first a rest)).2 (dot_atom_complete a rest c)
domain_complete (Domain.literal text h) rest c =
    rw (append_snoc text 93 rest)
    (open_complete 91 literal_from (text ++ (93 ∷ rest)) (length text + 1) (length (91 ∷ (text ++ (93 ∷ [])))) (literal_complete text h rest) (omega (arith, length-append text (93 ∷ []))))

-- ---- address

pub local_sound : (s : List ℕ) (n : ℕ) → local_scan s ≡ Ok n → LocalPart (take n s)
unfolding local_scan dot_atom_scan
local_sound s n e =
    cond_has (λ r. r ≡ Ok n → LocalPart (take n s)) (eqb (get_or s 0 0) 34) (quoted_scan s) (dot_atom_scan s)
    (λ t k. LocalPart.string (quoted_string_sound s n k))
    (λ t k. LocalPart.atoms (dot_atom_sound true s n k))
    e

local_complete : {l : List ℕ} → LocalPart l → (rest : List ℕ) → Closed rest → local_scan (l ++ rest) ≡ Ok (length l)
unfolding local_scan dot_atom_scan
local_complete (LocalPart.atoms {text} a) rest c = rw (atom_byte (get_or (text ++ rest) 0 0) (dot_atom_first a rest)).1 (dot_atom_complete a rest c)
local_complete (LocalPart.string (QuotedString.quoted {text} q)) rest c = quoted_string_complete (QuotedString.quoted q) rest

pub address_sound : (s : List ℕ) (n : ℕ) → address_scan s ≡ Ok n → Address (take n s)
unfolding address_scan scan_then
address_sound s n e = go (local_scan s) refl e
  where
    go : (r : Result ℕ ℕ) → local_scan s ≡ r → scan_then r (byte_then 64 domain_scan) s ≡ Ok n → Address (take n s)
    go (Err l) p q = absurd (no_to q)
    go (Ok l) p q =
        let i = moved l (byte_then 64 domain_scan (drop l s)) n q in
        let o = opened 63 domain_scan (drop l s) i.m i.is in
        let domain : take i.m (drop l s) ≡ 64 ∷ take o.m o.rest = ap (take i.m) o.text ∙ take_one_more 64 o.rest i.m o.m o.size in
        let whole : take n s ≡ take l s ++ (64 ∷ take o.m o.rest) =
        ap (λ (k : ℕ). take k s) i.size ∙ take-add l i.m s ∙ ap (λ (x : List ℕ). take l s ++ x) domain in
        rw whole
        (Address.address (local_sound s l p) (domain_sound o.rest o.m o.is))

sign_closed : (rest : List ℕ) → Closed (64 ∷ rest)
unfolding is_atom_byte is_atext
sign_closed rest = record { atom = refl; dot = refl }

pub address_complete : {a : List ℕ} → Address a → (rest : List ℕ) → Closed rest → address_scan (a ++ rest) ≡ Ok (length a)
unfolding address_scan scan_then
address_complete (Address.address {local} {domain} l d) rest c =
    let tail : List ℕ = 64 ∷ (domain ++ rest) in
    let after : byte_then 64 domain_scan tail ≡ Ok (1 + length domain) = open_complete 64 domain_scan (domain ++ rest) (length domain) (1 + length domain) (domain_complete d rest c) refl in
    rw (append_assoc local (64 ∷ domain) rest, local_complete l tail (sign_closed (domain ++ rest)), drop-append_seam local tail, after)
    (later_more (length local) (1 + length domain) (length (local ++ (64 ∷ domain))) (omega (arith, length-append local (64 ∷ domain))))

-- a local part before a byte other than `@` is no address
pub local_alone : {l : List ℕ} → LocalPart l → (b : ℕ) (rest : List ℕ) → Closed (b ∷ rest) → (b ≡ 64 → ⊥) → address_scan (l ++ (b ∷ rest)) ≡ Err (length l)
unfolding address_scan scan_then byte_then later
local_alone {l} p b rest c n =
    let z : length l + 0 ≡ length l = omega arith in
    rw (local_complete p (b ∷ rest) c, drop-append_seam l (b ∷ rest), ne_eqb b 64 n, z)

-- ---- a whole text

pub nothing_closed : Closed []
unfolding is_atom_byte is_atext
nothing_closed = record { atom = refl; dot = refl }

pub whole_address : (s : List ℕ) → T (takes_all (address_scan s) s) → Address s
whole_address s = go (address_scan s) refl
  where
    go : (r : Result ℕ ℕ) → address_scan s ≡ r → T (takes_all r s) → Address s
    go (Ok n) e t = rw (eqb→eq n (length s) t, take-length) at (address_sound s n e)
    go (Err n) e t = absurd t

pub address_whole : (s : List ℕ) → Address s → T (takes_all (address_scan s) s)
address_whole s a = rw (rw append-nil at (address_complete a [] nothing_closed)) (yes_eqb {a = length s} {b = length s} refl)

-- "CR, LF and TAB never stand inside."
pub address_visible : {a : List ℕ} → Address a → T (all is_quoted_byte a)
address_visible {a} g = (whole_taken a (address_scan a) (taken_address a) (address_whole a g)).1

-- what a scan takes is an address by itself
pub taken_whole : (s : List ℕ) (n : ℕ) → address_scan s ≡ Ok n → T (takes_all (address_scan (take n s)) (take n s))
taken_whole s n e = address_whole (take n s) (address_sound s n e)

-- ---- UTF-8

-- a text may be cut at n: before an ASCII byte or the end, or after an ASCII byte
pub data Cut (s : List ℕ) (n : ℕ) : Type 0 where
  before : get_or s n 0 < 128 → Cut s n
  after : (m : ℕ) → n ≡ m + 1 → m < length s → get_or s m 0 < 128 → Cut s n

pub utf8_taken : (s : List ℕ) (n : ℕ) → T (utf8 s) → Cut s n → T (utf8 (take n s))
utf8_taken s n h (Cut.before k) = utf8_front s n h k
utf8_taken s n h (Cut.after m e l k) = rw e (utf8_through s m h l k)

cut_later : (s : List ℕ) (k n : ℕ) → Cut (drop k s) n → Cut s (k + n)
cut_later s k n (Cut.before h) = Cut.before (rw (get_or-drop k s n 0) at h)
cut_later s k n (Cut.after m e l h) = Cut.after (k + m) (omega (arith, e)) (omega (arith, l, length-drop k s)) (rw (get_or-drop k s m 0) at h)

cut_cons : {s rest : List ℕ} {b n m : ℕ} → s ≡ b ∷ rest → n ≡ 1 + m → Cut rest m → Cut s n
cut_cons {s} {rest} {b} {n} {m} e k c = rw (e, k) (cut_later (b ∷ rest) 1 m c)

-- after a last byte that is ASCII
cut_last : (s x : List ℕ) (b n : ℕ) → n ≤ length s → take n s ≡ x ++ (b ∷ []) → b < 128 → Cut s n
cut_last s x b n h e k =
    let m = length x in
    let size : n ≡ m + 1 = omega (arith, length-take-le n s h, ap length e, length-append x (b ∷ [])) in
    let last : get_or s m 0 ≡ b = sym (get_or-take n s m 0 (omega arith)) ∙ ap (λ (t : List ℕ). get_or t m 0) e ∙ get_or-append_seam x b [] 0 in
    Cut.after m size (omega arith) (rw last k)

not_high : (b : ℕ) (x : Bool) → T (not (is_atom_byte b || x)) → b < 128
unfolding is_atom_byte
not_high b x t = leb_no (or_no (is_atext b) (is_high b) (or_no (is_atom_byte b) x t).0).1

dot_atom_cut : (due : Bool) (s : List ℕ) (n : ℕ) → dot_atom_from due s ≡ Ok n → Cut s n
unfolding dot_atom_from
dot_atom_cut true [] n e = absurd (no_to e)
dot_atom_cut false [] n e = Cut.before (omega arith)
dot_atom_cut due (b ∷ s) n e =
    let dot = eqb b 46 && not due in
    let more : (m : ℕ) → dot_atom_from dot s ≡ Ok m → Cut s m = dot_atom_cut dot s in
    cond_has (λ r. r ≡ Ok n → Cut (b ∷ s) n) (is_atom_byte b || dot) (later 1 (dot_atom_from dot s)) (dot_atom_end due)
    (λ t k. let i = moved 1 (dot_atom_from dot s) n k in rw i.size (cut_later (b ∷ s) 1 i.m (more i.m i.is)))
    (λ t k. ended due k (not_high b dot t))
    e
  where
    ended : (due : Bool) → dot_atom_end due ≡ Ok n → b < 128 → Cut (b ∷ s) n
    ended true k h = absurd (no_to k)
    ended false k h = let z : n ≡ 0 = cc in rw z (Cut.before h)

taken_within : {least : ℕ} {s : List ℕ} (r : Result ℕ ℕ) (n : ℕ) → r ≡ Ok n → Taken least s r → n ≤ length s
taken_within {least} {s} r n e t = (rw e at t.covers).within

pub quoted_cut : (s : List ℕ) (n : ℕ) → quoted_scan s ≡ Ok n → Cut s n
unfolding quoted_scan
quoted_cut s n e =
    let o = opened 33 (quoted_from false) s n e in
    let i = quoted_sound false o.rest o.m o.is in
    let whole : take n s ≡ (34 ∷ i.text) ++ (34 ∷ []) = ap (take n) o.text ∙ take_one_more 34 o.rest n o.m o.size ∙ ap (λ (t : List ℕ). 34 ∷ t) i.is in
    cut_last s (34 ∷ i.text) 34 n (taken_within (quoted_scan s) n e (taken_quoted s)) whole (omega arith)

literal_cut : (s : List ℕ) (n : ℕ) → literal_scan s ≡ Ok n → Cut s n
unfolding literal_scan
literal_cut s n e =
    let o = opened 90 literal_from s n e in
    let c = literal_from_sound o.rest o.m o.is in
    let whole : take n s ≡ (91 ∷ c.text) ++ (93 ∷ []) = ap (take n) o.text ∙ take_one_more 91 o.rest n o.m o.size ∙ ap (λ (t : List ℕ). 91 ∷ t) c.is in
    cut_last s (91 ∷ c.text) 93 n (taken_within (literal_scan s) n e (taken_literal s)) whole (omega arith)

domain_cut : (s : List ℕ) (n : ℕ) → domain_scan s ≡ Ok n → Cut s n
unfolding domain_scan dot_atom_scan
domain_cut s n e =
    cond_has (λ r. r ≡ Ok n → Cut s n) (eqb (get_or s 0 0) 91) (literal_scan s) (dot_atom_scan s)
    (λ t k. literal_cut s n k)
    (λ t k. dot_atom_cut true s n k)
    e

pub address_cut : (s : List ℕ) (n : ℕ) → address_scan s ≡ Ok n → Cut s n
unfolding address_scan scan_then
address_cut s n e = go (local_scan s) e
  where
    go : (r : Result ℕ ℕ) → scan_then r (byte_then 64 domain_scan) s ≡ Ok n → Cut s n
    go (Err l) q = absurd (no_to q)
    go (Ok l) q =
        let i = moved l (byte_then 64 domain_scan (drop l s)) n q in
        let o = opened 63 domain_scan (drop l s) i.m i.is in
        rw i.size (cut_later s l i.m (cut_cons o.text o.size (domain_cut o.rest o.m o.is)))

-- what a scan takes of UTF-8 is an address
pub address_taken : (s : List ℕ) (n : ℕ) → T (utf8 s) → address_scan s ≡ Ok n → T (is_address (take n s))
unfolding is_address
address_taken s n h e =
    yes_and (utf8 (take n s)) (takes_all (address_scan (take n s)) (take n s)) (utf8_taken s n h (address_cut s n e)) (taken_whole s n e)
