-- Laws of an envelope that passes the check: its lines have no fault.
use Rattle.std.specs.Prelude.{◌≡◌, true, false, List, [], ◌∷◌, ℕ, suc, ◌+◌, ◌≤◌, ltb, length, Ok}
use Rattle.std.proofs.Common.{arith}
use Rattle.std.proofs.Math.Dec.{eqb-suc-zero}
use Rattle.std.proofs.Math.Facts.{ltb_no}
use Rattle.lists.specs.ListsLaws.{by_test, yes_true, no_false}
use Rattle.rules.specs.declared.Rules.{Rules}
use Rattle.envelope.specs.Envelope.{lines, ended_fault, fault_of, counted, checked_from, checked, refused}
use Rattle.envelope.specs.LineStarts.{starts_from}
use Rattle.envelope.proofs.CheckLaws.{by_fault, fine_few, fine_ended}

-- a line, and the lines after it
pub passed_line : (rules : Rules) (n m : ℕ) (line : List ℕ) (more : List (List ℕ)) → checked_from rules n (line ∷ more) ≡ Ok m
    → (fault_of rules n line ≡ Ok tt) × (checked_from rules (suc n) more ≡ Ok m)
unfolding checked_from
passed_line rules n m line more p =
    by_fault (fault_of rules n line) (λ f. (f, rw f at p)) (λ fault f. absurd (let q : refused fault n ≡ Ok m = rw f at p in cc))

-- the number of RCPT lines, after n of them
pub passed_count : (rules : Rules) (n at m : ℕ) (rcpts : List (List ℕ)) → n ≤ 100 → checked_from rules (suc n) rcpts ≡ Ok m
    → (n + length (starts_from rules (suc n) at rcpts) ≡ m) × (m ≤ 100) × (n + length rcpts ≡ m) × (1 ≤ m)
unfolding counted checked_from starts_from
passed_count rules n at m [] few p =
    by_test (ltb (suc n) 2)
    (λ t. absurd (let q = rw (yes_true (ltb (suc n) 2) t) at p in let z : ◌≡◌ {A = ℕ} 0 1 = cc in omega arith))
    (λ t. let q : Ok n ≡ Ok m = rw (no_false (ltb (suc n) 2) t) at p in
    let same : n ≡ m = cc in
    let some : 2 ≤ suc n = ltb_no {a = suc n} {b = 2} t in
    (omega arith, omega arith, omega arith, omega arith))
passed_count rules n at m (line ∷ more) few p =
    let f = passed_line rules (suc n) m line more p in
    let k = passed_count rules (suc n) (at + length line) m more (fine_few rules (suc n) line f.0) f.1 in
    (rw f.0 (omega (arith, k.0)), k.1, omega (arith, k.2), k.3)

-- RCPT lines without fault
abbrev pub RcptsFine : Rules → List (List ℕ) → Type 0
RcptsFine rules [] = Unit {0}
RcptsFine rules (line ∷ more) = (ended_fault rules false line ≡ Ok tt) × RcptsFine rules more

rcpts_fine : (rules : Rules) (n m : ℕ) (rcpts : List (List ℕ)) → checked_from rules (suc n) rcpts ≡ Ok m → RcptsFine rules rcpts
rcpts_fine rules n m [] p = tt
rcpts_fine rules n m (line ∷ more) p =
    let f = passed_line rules (suc n) m line more p in
    (rw (eqb-suc-zero n) at (fine_ended rules (suc n) line f.0), rcpts_fine rules (suc n) m more f.1)

-- a MAIL line and RCPT lines without fault
abbrev pub LinesFine : Rules → List (List ℕ) → Type 0
LinesFine rules [] = Unit {0}
LinesFine rules (mail ∷ rcpts) = (ended_fault rules true mail ≡ Ok tt) × RcptsFine rules rcpts

all_fine : (rules : Rules) (m : ℕ) (ls : List (List ℕ)) → checked_from rules 0 ls ≡ Ok m → LinesFine rules ls
all_fine rules m [] p = tt
all_fine rules m (mail ∷ rcpts) p = let f = passed_line rules 0 m mail rcpts p in (fine_ended rules 0 mail f.0, rcpts_fine rules 0 m rcpts f.1)

pub passed_fine : (rules : Rules) (e : List ℕ) (m : ℕ) → checked rules e ≡ Ok m → LinesFine rules (lines e)
unfolding checked
passed_fine rules e m p = all_fine rules m (lines e) p
