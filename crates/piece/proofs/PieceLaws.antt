-- Laws of pieces, as code writes them, and of texts made in a scratch.
use Rattle.std.specs.Prelude.{◌≡◌, refl, Bool, true, false, cond, ◌&&◌, List, [], ◌∷◌, ℕ, ◌-◌, ◌*◌, ◌≤◌, ◌<◌, T, leb, length, take}
use Rattle.std.proofs.Common.{sym, append-nil, arith, le-leb, length-take, take_all, length-take-le}
use Rattle.std.proofs.Math.Facts.{and_yes, leb_yes}
use Rattle.buffer.specs.Buffer.{Wrote, AppendedCapped}
use Rattle.buffer.specs.BufferLaws.{overlay_front, length_wrote, wrote_of}
use Rattle.row.specs.Row.{row, bounded}
use Rattle.row.proofs.RowLaws.{bounded_short}
use Rattle.encoded_word.specs.Segments.{Segment, bytes_of, rendered}
use Rattle.piece.specs.Piece.{fitting}

pub rendered_one : (s : Segment) → rendered (s ∷ []) ≡ bytes_of s
unfolding rendered
rendered_one s = append-nil (bytes_of s)

pub wrote_same : {x y before after : List ℕ} {r : ℕ} → x ≡ y → Wrote x before after r → Wrote y before after r
wrote_same e w = rw (← e) w

-- ---- a turn of a loop over a text

-- what is left is less
pub turn_less : {n i e : ℕ} → i < n → i < e → n - e < n - i
turn_less h m = omega arith

-- ---- a text made in a scratch that has room for it

-- the first n bytes of the scratch are the text, which has a row
pub record MadeIn (scratch : List ℕ) (n : ℕ) (text : List ℕ) : Type 0 where
  pub within : n ≤ length scratch
  pub size : n ≡ length (take n scratch)
  pub is : take n scratch ≡ text
  pub encoded : {before after : List ℕ} {r : ℕ} → Wrote (row (bounded (take n scratch))) before after r → Wrote (row text) before after r

pub made_in : {text begun scratch : List ℕ} {n : ℕ} → AppendedCapped text 0 begun scratch n → length text ≤ 65536 → length text ≤ length begun → MadeIn scratch n text
made_in {text} {begun} {scratch} {n} u k h =
    let held : Wrote text begun scratch n = wrote_of u (omega arith) in
    let within : n ≤ length scratch = omega (arith, held.size, length_wrote held) in
    let is : take n scratch ≡ text = rw (held.bytes, held.size) (overlay_front text begun h) in
    record { within = within; size = rw length-take (omega arith); is = is; encoded = λ w. rw (is, bounded_short text (omega arith)) at w }

-- ---- a text that the scratch can serve

-- callers with enough room
pub fitting_short : (room : ℕ) (text : List ℕ) → length text ≤ 32768 → 2 * length text ≤ room → fitting room text ≡ text
unfolding fitting
fitting_short room text h k = rw (le-leb _ _ h, le-leb _ _ k)

-- as many bytes of a text as the scratch can serve
pub record Served (room : ℕ) (text part : List ℕ) (n : ℕ) : Type 0 where
  pub size : n ≡ length (take n text)
  pub small : n ≤ 32768
  pub roomy : 2 * n ≤ room
  pub is : take n text ≡ part

pub served : (room : ℕ) (text : List ℕ) (n : ℕ) → n ≡ cond (leb (length text) 32768 && leb (2 * length text) room) (length text) 0 → Served room text (fitting room text) n
unfolding fitting
served room text n q = rw q (go (leb (length text) 32768 && leb (2 * length text) room) (λ t. and_yes (leb (length text) 32768) (leb (2 * length text) room) t))
  where
    go : (b : Bool) → (T b → T (leb (length text) 32768) × T (leb (2 * length text) room)) → Served room text (cond b text []) (cond b (length text) 0)
    go true f = record { size = sym (length-take-le (length text) text (omega arith)); small = leb_yes (f tt).0; roomy = leb_yes (f tt).1; is = take_all (length text) text (omega arith) }
    go false f = record { size = refl; small = omega arith; roomy = omega arith; is = refl }
