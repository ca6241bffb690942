-- Laws of a buffer of which the bytes past a length are as before.
use Rattle.std.specs.Prelude.{◌≡◌, refl, List, ◌++◌, ℕ, ◌≤◌, length, take, drop}
use Rattle.std.proofs.Common.{ap, sym, ◌∙◌, arith, take-append-drop, length-take}
use Rattle.buffer.specs.Buffer.{overlay}
use Rattle.buffer.specs.BufferLaws.{length_overlay, overlay_past}
use Rattle.demands.specs.Demands.{KeptPast}

-- nothing was written
pub kept_all : (before : List ℕ) → KeptPast 0 before before
kept_all before = record { inside = omega arith; size = refl; past = refl }

-- what was written over a buffer
pub kept_past : (text before : List ℕ) → length text ≤ length before → KeptPast (length text) before (overlay text before)
kept_past text before k = record { inside = k; size = length_overlay text before; past = overlay_past text before }

-- a buffer is what was written and what stayed
pub same_buffer : (text before after : List ℕ) (len : ℕ) → take len after ≡ text → KeptPast len before after → after ≡ text ++ drop len before
same_buffer text before after len e k = sym (take-append-drop len after) ∙ rw (e, k.past)

-- what is written in two buffers of one length is as long in both
len_written : {len : ℕ} {before after : List ℕ} → KeptPast len before after → length (take len after) ≡ len
len_written {len} {before} {after} k = rw length-take (omega (arith, k.inside, k.size))

pub same_length : {len len' : ℕ} {before before' after after' : List ℕ} → KeptPast len before after → KeptPast len' before' after' → take len after ≡ take len' after' → len ≡ len'
same_length k l e = sym (len_written k) ∙ ap length e ∙ len_written l

-- where nothing is written a buffer is as before
pub untouched : {len : ℕ} {before after : List ℕ} → len ≡ 0 → KeptPast len before after → after ≡ before
untouched z k = rw z at k.past
