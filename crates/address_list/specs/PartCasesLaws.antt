-- What holds of the part at the front of a text, by the kinds of parts.
use Rattle.std.specs.Prelude.{◌≡◌, refl, ◌&&◌, List, T, take, drop}
use Rattle.std.proofs.Math.Bool.{Bool, not}
use Prim.Native.Nat.{ℕ, ◌+◌, ◌-◌, ◌<◌}
use Rattle.std.proofs.Common.{arith}
use Rattle.std.proofs.Math.Dec.{ltb, eqb, eqb→eq}
use Rattle.std.proofs.Math.ListN.{get_or}
use Rattle.std.proofs.Math.Facts.{and_yes, ltb_yes, eqb_no}
use Rattle.lists.specs.Byte.{is_ascii}
use Rattle.lists.specs.ListsLaws.{cond_has}
use Rattle.lists.specs.Lists.{all}
use Rattle.lists.specs.Run.{run}
use Rattle.line.specs.Line.{blank}
use Rattle.rules.specs.Rules.{allows_alternative}
use Rattle.rules.specs.declared.Rules.{Rules}
use Rattle.comment.specs.Comment.{comment_len}
use Rattle.comment.specs.Parts.{parts, fits}
use Rattle.phrase.specs.Words.{address_len, phrase_len}
use Rattle.address_list.specs.Parts.{front, stray, alternative_at, angled_at, comment_at, named_at, part_at}
use Rattle.address_list.specs.declared.PartKind.TheVariants.{Blank, Comment, Comma, Colon, Semicolon, Phrase, Address, Angled, Alternative}
use Rattle.address_list.specs.declared.Front.{Front}

-- `<`, blanks up to start, and an address
pub record Opened (s : List ℕ) (start size : ℕ) : Type 0 where
  pub opens : get_or s 0 0 ≡ 60
  pub start_is : start ≡ 1 + run blank (drop 1 s)
  pub size_is : size ≡ address_len (drop start s)
  pub some : 0 < size

-- after an address from a to b that is not ASCII: blanks up to inner, `<`, blanks up to start, an ASCII address and `>>`
pub record Replaced (s : List ℕ) (a b inner start size : ℕ) : Type 0 where
  pub inner_is : inner ≡ b + run blank (drop b s)
  pub start_is : start ≡ inner + 1 + run blank (drop (inner + 1) s)
  pub size_is : size ≡ address_len (drop start s)
  pub apart : b < inner
  pub high : T (not (all is_ascii (take (b - a) (drop a s))))
  pub opens : get_or s inner 0 ≡ 60
  pub some : 0 < size
  pub close : get_or s (start + size) 0 ≡ 62
  pub close₂ : get_or s (start + size + 1) 0 ≡ 62
  pub ascii : T (all is_ascii (take size (drop start s)))

-- what holds of a part of each kind, where it is at the front
pub record Cases (P : Front → Type 0) (rules : Rules) (s : List ℕ) : Type 0 where
  pub none : P stray
  pub is_blank_lem : T (blank (get_or s 0 0)) → P (front Blank 1)
  pub comma : get_or s 0 0 ≡ 44 → P (front Comma 1)
  pub colon : get_or s 0 0 ≡ 58 → P (front Colon 1)
  pub semicolon : get_or s 0 0 ≡ 59 → P (front Semicolon 1)
  pub angled : (start size : ℕ) → Opened s start size → get_or s (start + size) 0 ≡ 62 → P (front (Angled start size) (start + size + 1))
  pub alternative : (a n inner start size : ℕ) → T (allows_alternative rules) → Opened s a n → Replaced s a (a + n) inner start size → P (front (Alternative start size) (start + size + 2))
  pub comment : 0 < comment_len s → T (all fits (parts (take (comment_len s) s))) → P (front Comment (comment_len s))
  pub address : 0 < address_len s → P (front Address (address_len s))
  pub phrase : 0 < phrase_len s → P (front Phrase (phrase_len s))

module _ (P : Front → Type 0) (rules : Rules) (s : List ℕ) (c : Cases P rules s) where
  alternative_has : (a n : ℕ) → T (allows_alternative rules) → Opened s a n → P (alternative_at s a (a + n))
  unfolding alternative_at
  alternative_has a n allowed opened =
      let b : ℕ = a + n in
      let inner : ℕ = b + run blank (drop b s) in
      let start : ℕ = inner + 1 + run blank (drop (inner + 1) s) in
      let size : ℕ = address_len (drop start s) in
      let end : ℕ = start + size in
      let high : Bool = not (all is_ascii (take (b - a) (drop a s))) in
      let ascii : Bool = all is_ascii (take size (drop start s)) in
      let t₂ : Bool = ltb b inner && high in
      let t₃ : Bool = t₂ && eqb (get_or s inner 0) 60 in
      let t₄ : Bool = t₃ && ltb 0 size in
      let t₅ : Bool = t₄ && eqb (get_or s end 0) 62 in
      let t₆ : Bool = t₅ && eqb (get_or s (end + 1) 0) 62 in
      cond_has P (t₆ && ascii) (front (Alternative start size) (end + 2)) stray
      (λ t.
      let h₇ = and_yes t₆ ascii t in
      let h₆ = and_yes t₅ (eqb (get_or s (end + 1) 0) 62) h₇.0 in
      let h₅ = and_yes t₄ (eqb (get_or s end 0) 62) h₆.0 in
      let h₄ = and_yes t₃ (ltb 0 size) h₅.0 in
      let h₃ = and_yes t₂ (eqb (get_or s inner 0) 60) h₄.0 in
      let h₂ = and_yes (ltb b inner) high h₃.0 in
      c.alternative a n inner start size allowed opened (record {
        inner_is = refl;
        start_is = refl;
        size_is = refl;
        apart = ltb_yes h₂.0;
        high = h₂.1;
        opens = eqb→eq (get_or s inner 0) 60 h₃.1;
        some = ltb_yes h₄.1;
        close = eqb→eq (get_or s end 0) 62 h₅.1;
        close₂ = eqb→eq (get_or s (end + 1) 0) 62 h₆.1;
        ascii = h₇.1;
      }))
      (λ t. c.none)

  angled_has : get_or s 0 0 ≡ 60 → P (angled_at rules s)
  unfolding angled_at
  angled_has e =
      let start : ℕ = 1 + run blank (drop 1 s) in
      let size : ℕ = address_len (drop start s) in
      let end : ℕ = start + size in
      cond_has P (eqb size 0) stray _
      (λ t. c.none)
      (λ t.
      let opened : Opened s start size = record { opens = e; start_is = refl; size_is = refl; some = omega (arith, eqb_no {a = size} {b = 0} t) } in
      cond_has P (eqb (get_or s end 0) 62) (front (Angled start size) (end + 1)) _
      (λ u. c.angled start size opened (eqb→eq (get_or s end 0) 62 u))
      (λ u. cond_has P (allows_alternative rules) (alternative_at s start end) stray (λ v. alternative_has start size v opened) (λ v. c.none)))

  comment_has : P (comment_at s)
  unfolding comment_at
  comment_has =
      let n : ℕ = comment_len s in
      let fit : Bool = all fits (parts (take n s)) in
      cond_has P (ltb 0 n && fit) (front Comment n) stray (λ t. let both = and_yes (ltb 0 n) fit t in c.comment (ltb_yes both.0) both.1) (λ t. c.none)

  named_has : P (named_at s)
  unfolding named_at
  named_has =
      cond_has P (ltb 0 (address_len s)) (front Address (address_len s)) _
      (λ t. c.address (ltb_yes t))
      (λ t. cond_has P (ltb 0 (phrase_len s)) (front Phrase (phrase_len s)) stray (λ u. c.phrase (ltb_yes u)) (λ u. c.none))

  pub part_has : P (part_at rules s)
  unfolding part_at
  part_has =
      let first : ℕ = get_or s 0 0 in
      cond_has P (blank first) (front Blank 1) _ c.is_blank_lem
      (λ _. cond_has P (eqb first 44) (front Comma 1) _ (λ t. c.comma (eqb→eq first 44 t))
      (λ _. cond_has P (eqb first 58) (front Colon 1) _ (λ t. c.colon (eqb→eq first 58 t))
      (λ _. cond_has P (eqb first 59) (front Semicolon 1) _ (λ t. c.semicolon (eqb→eq first 59 t))
      (λ _. cond_has P (eqb first 60) (angled_at rules s) _ (λ t. angled_has (eqb→eq first 60 t))
      (λ _. cond_has P (eqb first 40) (comment_at s) (named_at s) (λ _. comment_has) (λ _. named_has))))))
