-- Laws of an envelope by its first line: what the header needs of an envelope with several RCPT lines is told by the MAIL line alone.
-- Lines are any bytes here.
use Rattle.std.specs.Prelude.{◌≡◌, refl, List, [], ◌∷◌, ◌++◌, ℕ, suc, ◌+◌, ◌≤◌, ◌<◌, length, drop}
use Rattle.std.proofs.Common.{ap, sym, ◌∙◌, append_assoc, arith, length-append}
use Rattle.std.proofs.lemmas.List.{take-append-le, drop-append-le}
use Rattle.lists.specs.ListsLaws.{cond_has}
use Rattle.line.specs.Line.{crlf, line_len}
use Rattle.envelope.specs.Envelope.{line_text, texts, mail_of, mail_replacement, only_rcpt_of, rcpt_replacement}
use Rattle.envelope.proofs.LinesLaws.{texts_at_lem}

-- what follows a CRLF does not tell where the first line ends
same_len : (l r s : List ℕ) → line_len (l ++ (13 ∷ 10 ∷ r)) ≡ line_len (l ++ (13 ∷ 10 ∷ s))
unfolding line_len crlf
same_len [] r s = refl
same_len (b ∷ []) r s = refl
same_len (b ∷ c ∷ l) r s = rw (same_len (c ∷ l) r s)

first_le : (l r : List ℕ) → line_len (l ++ (13 ∷ 10 ∷ r)) ≤ length l
unfolding line_len crlf
first_le [] r = omega arith
first_le (b ∷ l) r = cond_has (λ n. n ≤ suc (length l)) (crlf (b ∷ (l ++ (13 ∷ 10 ∷ r)))) _ _ (λ t. omega arith) (λ t. omega (arith, first_le l r))

same_text : (l r s : List ℕ) → line_text (l ++ (13 ∷ 10 ∷ r)) ≡ line_text (l ++ (13 ∷ 10 ∷ s))
unfolding line_text
same_text l r s =
    let n = line_len (l ++ (13 ∷ 10 ∷ s)) in
    rw (same_len l r s) (take-append-le n l (13 ∷ 10 ∷ r) (first_le l s) ∙ sym (take-append-le n l (13 ∷ 10 ∷ s) (first_le l s)))

-- the first line, and those after it: the bytes after a CRLF are all still there
record First (l r : List ℕ) : Type 0 where
  pub between : List ℕ
  pub is : texts (l ++ (13 ∷ 10 ∷ r)) ≡ line_text (l ++ (13 ∷ 10 ∷ r)) ∷ texts (between ++ r)

first : (l r : List ℕ) → First l r
first l r =
    let s : List ℕ = l ++ (13 ∷ 10 ∷ r) in
    let n = line_len s in
    let front : List ℕ = l ++ (13 ∷ 10 ∷ []) in
    let whole : front ++ r ≡ s = append_assoc l (13 ∷ 10 ∷ []) r in
    let k : n + 2 ≤ length front = omega (arith, first_le l r, length-append l (13 ∷ 10 ∷ [])) in
    let some : 0 < length s = omega (arith, length-append l (13 ∷ 10 ∷ r)) in
    record {
      between = drop (n + 2) front;
      is = texts_at_lem s 0 n (omega arith) some ∙ ap (λ (rest : List ℕ). line_text s ∷ texts rest) (ap (drop (n + 2)) (sym whole) ∙ drop-append-le (n + 2) front r k);
    }

-- `<old <new>>` of the MAIL line
pub same_mail : (l r s : List ℕ) → mail_replacement (l ++ (13 ∷ 10 ∷ r)) ≡ mail_replacement (l ++ (13 ∷ 10 ∷ s))
unfolding mail_replacement mail_of
same_mail l r s = rw ((first l r).is, (first l s).is, same_text l r s)

-- none of two or more RCPT lines
pub several_rcpts : (l a b r : List ℕ) → rcpt_replacement (l ++ (13 ∷ 10 ∷ (a ++ (13 ∷ 10 ∷ (b ++ (13 ∷ 10 ∷ r)))))) ≡ []
unfolding rcpt_replacement only_rcpt_of
several_rcpts l a b r =
    let third : List ℕ = b ++ (13 ∷ 10 ∷ r) in
    let second : List ℕ = a ++ (13 ∷ 10 ∷ third) in
    let x = first l second in
    let y = first (x.between ++ a) third in
    let z = first (y.between ++ b) r in
    rw (x.is, sym (append_assoc x.between a (13 ∷ 10 ∷ third)), y.is, sym (append_assoc y.between b (13 ∷ 10 ∷ r)), z.is)
