use Rattle.address.specs.AddressLaws.{byte_within}
use mathlib.Core.Path.{◌≡◌, refl, sym, ◌∙◌}
use Prim.Native.Nat.{◌+◌, ◌-◌, ◌≤◌, ◌<◌}
use native.Mathlib.Omega.{arith}
use lib.ListN.{length, drop}
use Rattle.lists.specs.NonzeroLaws.{not_found, found_is, found_some}
use Rattle.phrase.specs.Words.{address_len}
use Rattle.phrase.specs.WordsLaws.{address_within}
use Rattle.address_list.specs.PartsLaws.{took_stray, took_none, alternative_close, alternative_ascii, alternative_no_bracket, alternative_no_address, alternative_open, alternative_half_open, alternative_high, alternative_there}
use Rattle.address_list.proofs.part.alternative.Goals as goal

pub returns-then-inner-b : goal.returns-then-inner-b
returns-then-inner-b c = took_stray refl (alternative_close c.args.t.now c.args.a c.args.b _ c.blanks_end-inner.ensures c.if-inner-b.true) c.requires.1.1

pub returns-then-is_ascii : goal.returns-then-is_ascii
returns-then-is_ascii c = took_stray refl (alternative_ascii c.args.t.now c.args.a c.args.b _ c.blanks_end-inner.ensures (sym c.is_ascii.ensures ∙ c.if-is_ascii.true)) c.requires.1.1

pub returns-then-byte_at-ne60 : goal.returns-then-byte_at-ne60
returns-then-byte_at-ne60 c = took_stray refl (alternative_no_bracket c.args.t.now c.args.a c.args.b _ c.blanks_end-inner.ensures (λ k. c.if-byte_at-ne60.true (c.byte_at.ensures ∙ k))) c.requires.1.1

pub overflow_add-inner : goal.overflow_add-inner
overflow_add-inner c = omega (arith, byte_within c.args.t.now c.blanks_end-inner.result 59 (sym c.byte_at.ensures ∙ c.if-byte_at-ne60.false))

pub returns-in_err-size : goal.returns-in_err-size
returns-in_err-size c = took_none c.from_residual.ensures (alternative_no_address c.args.t.now c.args.a c.args.b _ _ _ c.blanks_end-inner.ensures c.blanks_end-start.ensures refl (not_found _ c.address_len.ensures.0 c.in_err-size.was)) c.requires.1.1

pub overflow_add-end : goal.overflow_add-end
overflow_add-end c =
    let is : c.in_ok-size.size ≡ address_len (drop c.blanks_end-start.result c.args.t.now) = found_is _ c.address_len.ensures.0 c.in_ok-size.was in
    let some : 0 < c.in_ok-size.size = found_some _ c.address_len.ensures.0 c.in_ok-size.was in
    omega (arith, c.address_len.ensures.1)

pub returns-then-byte_at-ne62 : goal.returns-then-byte_at-ne62
returns-then-byte_at-ne62 c = took_stray refl (alternative_open c.args.t.now c.args.a c.args.b _ _ _ c.blanks_end-inner.ensures c.blanks_end-start.ensures (found_is _ c.address_len.ensures.0 c.in_ok-size.was) (λ k. c.if-byte_at-ne62.true (c.byte_at-2.ensures ∙ k))) c.requires.1.1

pub returns-then-byte_at-ne62-2 : goal.returns-then-byte_at-ne62-2
returns-then-byte_at-ne62-2 c = took_stray refl (alternative_half_open c.args.t.now c.args.a c.args.b _ _ _ c.blanks_end-inner.ensures c.blanks_end-start.ensures (found_is _ c.address_len.ensures.0 c.in_ok-size.was) (λ k. c.if-byte_at-ne62-2.true (c.byte_at-3.ensures ∙ k))) c.requires.1.1

pub returns-then-not-is_ascii : goal.returns-then-not-is_ascii
returns-then-not-is_ascii c = took_stray refl (alternative_high c.args.t.now c.args.a c.args.b _ _ _ c.blanks_end-inner.ensures c.blanks_end-start.ensures (found_is _ c.address_len.ensures.0 c.in_ok-size.was) (sym c.is_ascii-2.ensures ∙ c.if-not-is_ascii.true)) c.requires.1.1

pub returns : goal.returns
returns c =
    let some : 0 < c.in_ok-size.size = found_some _ c.address_len.ensures.0 c.in_ok-size.was in
    record {
      is = alternative_there c.args.t.now c.args.a c.args.b _ _ _ c.blanks_end-inner.ensures c.blanks_end-start.ensures (found_is _ c.address_len.ensures.0 c.in_ok-size.was)
          (sym c.is_ascii.ensures ∙ c.if-is_ascii.false) (let k : c.args.b < c.blanks_end-inner.result = omega (arith, c.if-inner-b.false, c.blanks_end-inner.ensures) in k)
          (sym c.byte_at.ensures ∙ c.if-byte_at-ne60.false) some
          (sym c.byte_at-2.ensures ∙ c.if-byte_at-ne62.false) (sym c.byte_at-3.ensures ∙ c.if-byte_at-ne62-2.false) (sym c.is_ascii-2.ensures ∙ c.if-not-is_ascii.false);
      some = omega arith;
      within = omega (arith, byte_within c.args.t.now (c.blanks_end-start.result + c.in_ok-size.size + 1) 61 (sym c.byte_at-3.ensures ∙ c.if-byte_at-ne62-2.false));
      inner = omega arith;
    }
