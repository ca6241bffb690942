-- A scan goes exactly as far as the bytes at the front are a beginning of an address.
use Rattle.std.specs.Prelude.{◌≡◌, refl, Bool, true, false, not, cond, ◌&&◌, ◌||◌, List, [], ◌∷◌, ◌++◌, ℕ, zero, suc, ◌+◌, ◌-◌, ◌≤◌, ◌<◌, T, eqb, length, take, drop, get_or, Result, Ok, Err}
use Rattle.std.proofs.Common.{sym, ap, ◌∙◌, append-nil, append_assoc, le_of_suc-le-suc, arith, eqb→eq, length-drop, length-append, take-add, length-take-le}
use Rattle.std.proofs.Math.Facts.{yes_and, eqb_no}
use Rattle.std.proofs.Math.Seq.{take-nil}
use Rattle.std.proofs.lemmas.List.{drop-append-le}
use Rattle.lists.specs.ListsLaws.{by_test, cond_has, cond_yes, cond_no, yes_true, no_false}
use Rattle.lists.specs.Lists.{all}
use Rattle.lists.specs.Byte.{within}
use Rattle.lists.specs.Run.{run}
use Rattle.address.specs.Address.{later, byte_then, scan_then, is_atext, is_atom_byte, is_quoted_byte, is_literal_byte, dot_atom_end, dot_atom_from, dot_atom_scan, quoted_from, quoted_scan, literal_from, literal_scan, domain_scan, local_scan, address_scan}
use Rattle.address.specs.TakenLaws.{reach}
use Rattle.address.specs.Grammar.{DotAtom, Content, QuotedString, LocalPart, Domain, Address}
use Rattle.address.specs.GrammarLaws.{take_one_more, After, atom_one, atom_step, Inside, inside_plain, inside_escaped, Closing, local_sound, address_complete, nothing_closed}

-- ---- no more bytes go on

-- any front of the text that is longer than what a scan passes over decides it
abbrev Decided : (List ℕ → Result ℕ ℕ) → Type 0
Decided scan = (s t : List ℕ) (n : ℕ) → reach (scan s) < n → n ≤ length s → scan (take n s ++ t) ≡ scan s

reach_later : (k : ℕ) (r : Result ℕ ℕ) → reach (later k r) ≡ k + reach r
unfolding later
reach_later k (Ok n) = refl
reach_later k (Err n) = refl

-- a scan that goes on by one byte where a test of the byte holds, and else ends
module _ (scan next : List ℕ → Result ℕ ℕ) (b : ℕ) (test : Bool) (ends : Result ℕ ℕ) (is : (s : List ℕ) → scan (b ∷ s) ≡ cond test (later 1 (next s)) ends) where
  decided_step : (s t : List ℕ) (n : ℕ) → ((n : ℕ) → reach (next s) < n → n ≤ length s → next (take n s ++ t) ≡ next s)
      → reach (scan (b ∷ s)) < n → n ≤ length (b ∷ s) → scan (take n (b ∷ s) ++ t) ≡ scan (b ∷ s)
  decided_step s t zero f h k = absurd (omega arith)
  decided_step s t (suc n) f h k =
      by_test test
      (λ u.
      let on : (x : List ℕ) → scan (b ∷ x) ≡ later 1 (next x) = λ x. is x ∙ cond_yes test (later 1 (next x)) ends u in
      let less : reach (next s) < n = omega (arith, ap reach (on s), reach_later 1 (next s), h) in
      on (take n s ++ t) ∙ ap (later 1) (f n less (le_of_suc-le-suc k)) ∙ sym (on s))
      (λ u.
      let off : (x : List ℕ) → scan (b ∷ x) ≡ ends = λ x. is x ∙ cond_no test (later 1 (next x)) ends u in
      off (take n s ++ t) ∙ sym (off s))

decided_dot_atom : (due : Bool) → Decided (dot_atom_from due)
unfolding dot_atom_from
decided_dot_atom due [] t n h k = absurd (omega arith)
decided_dot_atom due (b ∷ s) t n h k =
    let dot = eqb b 46 && not due in
    decided_step (dot_atom_from due) (dot_atom_from dot) b (is_atom_byte b || dot) (dot_atom_end due) (λ x. refl) s t n (decided_dot_atom dot s t) h k

decided_quoted : (escaped : Bool) → Decided (quoted_from escaped)
unfolding quoted_from
decided_quoted escaped [] t n h k = absurd (omega arith)
decided_quoted true (b ∷ s) t n h k =
    decided_step (quoted_from true) (quoted_from false) b (within 32 126 b) (Err 0) (λ x. refl) s t n (decided_quoted false s t) h k
decided_quoted false (b ∷ s) t n h k =
    let on : List ℕ → Result ℕ ℕ = λ x. cond (is_quoted_byte b) (later 1 (quoted_from (eqb b 92) x)) (Err 0) in
    let more = decided_quoted (eqb b 92) s t in
    by_test (eqb b 34)
    (λ u. decided_step (quoted_from false) (λ x. Err 0) b false (Ok 1) (λ x. cond_yes (eqb b 34) (Ok 1) (on x) u) s t n (λ m p q. refl) h k)
    (λ u. decided_step (quoted_from false) (quoted_from (eqb b 92)) b (is_quoted_byte b) (Err 0) (λ x. cond_no (eqb b 34) (Ok 1) (on x) u) s t n more h k)

literal_cons : (b : ℕ) (s : List ℕ) → literal_from (b ∷ s) ≡ cond (is_literal_byte b) (later 1 (literal_from s)) (cond (eqb b 93) (Ok 1) (Err 0))
unfolding literal_from run later
literal_cons b s =
    by_test (is_literal_byte b)
    (λ u. rw (yes_true (is_literal_byte b) u) (go (eqb (get_or s (run is_literal_byte s) 0) 93) (run is_literal_byte s)))
    (λ u. rw (no_false (is_literal_byte b) u))
  where
    go : (x : Bool) (k : ℕ) → cond x (Ok (suc k + 1)) (Err (suc k)) ≡ later 1 (cond x (Ok (k + 1)) (Err k))
    go true k = let e : suc k + 1 ≡ 1 + (k + 1) = omega arith in rw e
    go false k = let e : suc k ≡ 1 + k = omega arith in rw e

decided_literal : Decided literal_from
decided_literal [] t n h k = absurd (omega arith)
decided_literal (b ∷ s) t n h k =
    decided_step literal_from literal_from b (is_literal_byte b) (cond (eqb b 93) (Ok 1) (Err 0)) (literal_cons b) s t n (decided_literal s t) h k

decided_byte_then : (b : ℕ) (next : List ℕ → Result ℕ ℕ) → Decided next → Decided (byte_then b next)
unfolding byte_then
decided_byte_then b next d [] t n h k = absurd (omega arith)
decided_byte_then b next d (x ∷ s) t n h k = decided_step (byte_then b next) next x (eqb x b) (Err 0) (λ y. refl) s t n (d s t) h k

-- a choice by the first byte
decided_choice : (b : ℕ) (f g : List ℕ → Result ℕ ℕ) → Decided f → Decided g → Decided (λ s. cond (eqb (get_or s 0 0) b) (f s) (g s))
decided_choice b f g df dg [] t n h k = absurd (omega arith)
decided_choice b f g df dg (x ∷ s) t zero h k = absurd (omega arith)
decided_choice b f g df dg (x ∷ s) t (suc n) h k = go (eqb x b) h
  where
    go : (u : Bool) → reach (cond u (f (x ∷ s)) (g (x ∷ s))) < suc n → cond u (f (x ∷ (take n s ++ t))) (g (x ∷ (take n s ++ t))) ≡ cond u (f (x ∷ s)) (g (x ∷ s))
    go true h = df (x ∷ s) t (suc n) h k
    go false h = dg (x ∷ s) t (suc n) h k

drop_take : (l n : ℕ) (s : List ℕ) → drop l (take n s) ≡ take (n - l) (drop l s)
drop_take zero n s = let e : n - 0 ≡ n = omega arith in rw e
drop_take (suc l) zero s = let e : 0 - suc l ≡ 0 = omega arith in rw e
drop_take (suc l) (suc n) [] = rw (take-nil (suc n - suc l))
drop_take (suc l) (suc n) (b ∷ s) = let e : suc n - suc l ≡ n - l = omega arith in rw e (drop_take l n s)

decided_scan_then : (f next : List ℕ → Result ℕ ℕ) → Decided f → Decided next → Decided (λ s. scan_then (f s) next s)
unfolding scan_then
decided_scan_then f next df dn s t n h k = go (f s) refl h
  where
    go : (r : Result ℕ ℕ) → f s ≡ r → reach (scan_then r next s) < n → scan_then (f (take n s ++ t)) next (take n s ++ t) ≡ scan_then r next s
    go (Err l) e h = rw (df s t n (rw e h) k, e)
    go (Ok l) e h =
        let size : l + reach (next (drop l s)) < n = rw (reach_later l (next (drop l s))) at h in
        let first : f (take n s ++ t) ≡ Ok l = df s t n (rw e (omega arith)) k ∙ e in
        let rest : drop l (take n s ++ t) ≡ take (n - l) (drop l s) ++ t =
        drop-append-le l (take n s) t (omega (arith, length-take-le n s k)) ∙ ap (λ (x : List ℕ). x ++ t) (drop_take l n s) in
        rw (first, rest, dn (drop l s) t (n - l) (omega arith) (omega (arith, length-drop l s)))

decided_domain : Decided domain_scan
unfolding domain_scan literal_scan dot_atom_scan
decided_domain = decided_choice 91 literal_scan dot_atom_scan (decided_byte_then 91 literal_from decided_literal) (decided_dot_atom true)

decided_local : Decided local_scan
unfolding local_scan quoted_scan dot_atom_scan
decided_local = decided_choice 34 quoted_scan dot_atom_scan (decided_byte_then 34 (quoted_from false) (decided_quoted false)) (decided_dot_atom true)

decided_address : Decided address_scan
unfolding address_scan
decided_address = decided_scan_then local_scan (byte_then 64 domain_scan) decided_local (decided_byte_then 64 domain_scan decided_domain)

-- ---- all these bytes are a beginning

-- with some more bytes these have a property
record Starts (N : List ℕ → Type 0) (t : List ℕ) : Type 0 where
  rest : List ℕ
  is : N (t ++ rest)

-- the bytes that a scan passes over start what it looks for
abbrev Begun : (List ℕ → Type 0) → (List ℕ → Result ℕ ℕ) → Type 0
Begun N scan = (s : List ℕ) → Starts N (take (reach (scan s)) s)

-- one byte more
starts_more : {N : List ℕ → Type 0} (b : ℕ) (s : List ℕ) (r : Result ℕ ℕ) (rest : List ℕ) → N (b ∷ (take (reach r) s ++ rest)) → Starts N (take (reach (later 1 r)) (b ∷ s))
starts_more {N} b s r rest n = rw (take_one_more b s (reach (later 1 r)) (reach r) (reach_later 1 r)) (record { rest = rest; is = n })

starts_weaken : {M N : List ℕ → Type 0} {t : List ℕ} → ((u : List ℕ) → M u → N u) → Starts M t → Starts N t
starts_weaken {M} {N} {t} f m = record { rest = m.rest; is = f (t ++ m.rest) m.is }

-- the letter a
letter : DotAtom (97 ∷ [])
unfolding is_atom_byte is_atext
letter = DotAtom.one (atom_one 97 tt)

dot_atom_end_lem : (due : Bool) (s : List ℕ) → Starts (After due) (take (reach (dot_atom_end due)) s)
dot_atom_end_lem true s = record { rest = 97 ∷ []; is = letter }
dot_atom_end_lem false s = record { rest = []; is = λ a k. rw (append-nil a) (DotAtom.one k) }

begun_dot_atom : (due : Bool) → Begun (After due) (dot_atom_from due)
unfolding dot_atom_from
begun_dot_atom due [] = dot_atom_end_lem due []
begun_dot_atom due (b ∷ s) =
    let dot = eqb b 46 && not due in
    let more = begun_dot_atom dot s in
    cond_has (λ r. Starts (After due) (take (reach r) (b ∷ s))) (is_atom_byte b || dot) (later 1 (dot_atom_from dot s)) (dot_atom_end due)
    (λ t. starts_more b s (dot_atom_from dot s) more.rest (atom_step due b (take (reach (dot_atom_from dot s)) s ++ more.rest) t more.is))
    (λ t. dot_atom_end_lem due (b ∷ s))

quoted_end : (escaped : Bool) → Starts (Inside escaped) []
quoted_end true = record { rest = 97 ∷ 34 ∷ []; is = record { text = 97 ∷ []; content = Content.escaped tt Content.none; is = refl } }
quoted_end false = record { rest = 34 ∷ []; is = record { text = []; content = Content.none; is = refl } }

begun_quoted : (escaped : Bool) → Begun (Inside escaped) (quoted_from escaped)
unfolding quoted_from
begun_quoted true [] = quoted_end true
begun_quoted false [] = quoted_end false
begun_quoted true (b ∷ s) =
    let more = begun_quoted false s in
    cond_has (λ r. Starts (Inside true) (take (reach r) (b ∷ s))) (within 32 126 b) (later 1 (quoted_from false s)) (Err 0)
    (λ t. starts_more b s (quoted_from false s) more.rest (inside_escaped b (take (reach (quoted_from false s)) s ++ more.rest) t more.is))
    (λ t. quoted_end true)
begun_quoted false (b ∷ s) =
    let more = begun_quoted (eqb b 92) s in
    let on = later 1 (quoted_from (eqb b 92) s) in
    cond_has (λ r. Starts (Inside false) (take (reach r) (b ∷ s))) (eqb b 34) (Ok 1) (cond (is_quoted_byte b) on (Err 0))
    (λ t. record { rest = []; is = record { text = []; content = Content.none; is = rw (eqb→eq b 34 t) } })
    (λ t.
    cond_has (λ r. Starts (Inside false) (take (reach r) (b ∷ s))) (is_quoted_byte b) on (Err 0)
    (λ u. starts_more b s (quoted_from (eqb b 92) s) more.rest (inside_plain b (take (reach (quoted_from (eqb b 92) s)) s ++ more.rest) u (eqb_no {a = b} {b = 34} t) more.is))
    (λ u. quoted_end false))

literal_end : Starts Closing []
literal_end = record { rest = 93 ∷ []; is = record { text = []; bytes = tt; is = refl } }

begun_literal : Begun Closing literal_from
unfolding literal_from run
begun_literal [] = literal_end
begun_literal (b ∷ s) =
    let more = begun_literal s in
    let close = cond (eqb b 93) (Ok 1) (Err 0) in
    rw (literal_cons b s)
    (cond_has (λ r. Starts Closing (take (reach r) (b ∷ s))) (is_literal_byte b) (later 1 (literal_from s)) close
    (λ t.
    starts_more b s (literal_from s) more.rest
    (record { text = b ∷ more.is.text; bytes = yes_and (is_literal_byte b) (all is_literal_byte more.is.text) t more.is.bytes; is = ap (λ (l : List ℕ). b ∷ l) more.is.is }))
    (λ t.
    cond_has (λ r. Starts Closing (take (reach r) (b ∷ s))) (eqb b 93) (Ok 1) (Err 0)
    (λ u. record { rest = []; is = record { text = []; bytes = tt; is = rw (eqb→eq b 93 u) } })
    (λ u. literal_end)))

-- a byte, and then bytes with a property
record ByteAnd (b : ℕ) (N : List ℕ → Type 0) (t : List ℕ) : Type 0 where
  after : List ℕ
  text : t ≡ b ∷ after
  is : N after

begun_byte_then : (b : ℕ) (next : List ℕ → Result ℕ ℕ) (N : List ℕ → Type 0) → Begun N next → Begun (ByteAnd b N) (byte_then b next)
unfolding byte_then
begun_byte_then b next N f s =
    cond_has (λ r. Starts (ByteAnd b N) (take (reach r) s)) (eqb (get_or s 0 0) b) (later 1 (next (drop 1 s))) (Err 0)
    (λ t. go s t)
    (λ t. none)
  where
    none : Starts (ByteAnd b N) []
    none = let first = f [] in record { rest = b ∷ (take (reach (next [])) [] ++ first.rest); is = record { after = take (reach (next [])) [] ++ first.rest; text = refl; is = first.is } }

    go : (s : List ℕ) → T (eqb (get_or s 0 0) b) → Starts (ByteAnd b N) (take (reach (later 1 (next (drop 1 s)))) s)
    go [] t = rw (take-nil (reach (later 1 (next [])))) none
    go (x ∷ s) t = let more = f s in starts_more x s (next s) more.rest (record { after = take (reach (next s)) s ++ more.rest; text = rw (eqb→eq x b t); is = more.is })

begun_domain : Begun Domain domain_scan
unfolding domain_scan dot_atom_scan literal_scan
begun_domain s =
    cond_has (λ r. Starts Domain (take (reach r) s)) (eqb (get_or s 0 0) 91) (literal_scan s) (dot_atom_scan s)
    (λ t. starts_weaken (λ u m. rw (m.text, m.is.is) (Domain.literal m.is.text m.is.bytes)) (begun_byte_then 91 literal_from Closing begun_literal s))
    (λ t. starts_weaken (λ u m. Domain.atoms m) (begun_dot_atom true s))

begun_local : Begun LocalPart local_scan
unfolding local_scan dot_atom_scan quoted_scan
begun_local s =
    cond_has (λ r. Starts LocalPart (take (reach r) s)) (eqb (get_or s 0 0) 34) (quoted_scan s) (dot_atom_scan s)
    (λ t. starts_weaken (λ u m. rw (m.text, m.is.is) (LocalPart.string (QuotedString.quoted m.is.content))) (begun_byte_then 34 (quoted_from false) (Inside false) (begun_quoted false) s))
    (λ t. starts_weaken (λ u m. LocalPart.atoms m) (begun_dot_atom true s))

begun_address : Begun Address address_scan
unfolding address_scan scan_then
begun_address s = go (local_scan s) refl (begun_local s)
  where
    go : (r : Result ℕ ℕ) → local_scan s ≡ r → Starts LocalPart (take (reach (local_scan s)) s) → Starts Address (take (reach (scan_then r (byte_then 64 domain_scan) s)) s)
    go (Err n) e l =
        let first : LocalPart (take n s ++ l.rest) = rw e at l.is in
        record { rest = l.rest ++ (64 ∷ 97 ∷ []); is = rw (← append_assoc (take n s) l.rest (64 ∷ 97 ∷ [])) (Address.address first (Domain.atoms letter)) }
    go (Ok n) e l = after n (byte_then 64 domain_scan (drop n s)) (local_sound s n e) (begun_byte_then 64 domain_scan Domain begun_domain (drop n s))
      where
        after : (n : ℕ) (r : Result ℕ ℕ) → LocalPart (take n s) → Starts (ByteAnd 64 Domain) (take (reach r) (drop n s)) → Starts Address (take (reach (later n r)) s)
        after n r first d =
            let whole : take (reach (later n r)) s ++ d.rest ≡ take n s ++ (64 ∷ d.is.after) =
            ap (λ (k : ℕ). take k s ++ d.rest) (reach_later n r)
            ∙ ap (λ (x : List ℕ). x ++ d.rest) (take-add n (reach r) s)
            ∙ append_assoc (take n s) (take (reach r) (drop n s)) d.rest
            ∙ ap (λ (x : List ℕ). take n s ++ x) d.is.text in
            record { rest = d.rest; is = rw whole (Address.address first d.is.is) }

-- some address begins with these bytes
pub record Begins (s : List ℕ) : Type 0 where
  pub rest : List ℕ
  pub address : Address (s ++ rest)

-- no address begins with more bytes than a scan passes over
pub reach_longest : (s : List ℕ) (n : ℕ) → reach (address_scan s) < n → n ≤ length s → Begins (take n s) → ⊥
reach_longest s n h k b =
    let whole = take n s ++ b.rest in
    let all : address_scan whole ≡ Ok (length whole) = rw append-nil at (address_complete b.address [] nothing_closed) in
    let same : address_scan whole ≡ address_scan s = decided_address s b.rest n h k in
    omega (arith, ap reach (sym same ∙ all), length-append (take n s) b.rest, length-take-le n s k, h)

-- some address begins with all the bytes that a scan passes over
pub reach_begins : (s : List ℕ) → Begins (take (reach (address_scan s)) s)
reach_begins s = let b = begun_address s in record { rest = b.rest; address = b.is }
