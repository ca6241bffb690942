use Rattle.word_reader.specs.WordLaws.{charset_within, not_parted, text_bad, text_utf8, text_other}
use Prim.Native.Nat.{◌-◌}
use lib.ListN.{length}
use borrow.Author.Tests.{not-true, not-false}
use native.Mathlib.Omega.{arith}
use Rattle.word_reader.proofs.add.Goals as goal

pub overflow_add-n : goal.overflow_add-n
overflow_add-n c = omega (arith, charset_within c.args.w.now _ _ (length c.args.w.now - c.clip.result - 2) c.part-s.ensures c.charset_len-n.ensures)

pub returns-then-not-byte_at : goal.returns-then-not-byte_at
returns-then-not-byte_at c = not_parted _ c.clip.ensures c.part-s.ensures c.charset_len-n.ensures _ _ _ _ (omega arith) c.byte_at.ensures c.byte_at-2.ensures c.if-not-byte_at.true

pub overflow_add-n-2 : goal.overflow_add-n-2
overflow_add-n-2 c = omega (arith, charset_within c.args.w.now _ _ (length c.args.w.now - c.clip.result - 2) c.part-s.ensures c.charset_len-n.ensures)

pub overflow_add-n-3 : goal.overflow_add-n-3
overflow_add-n-3 c = omega (arith, charset_within c.args.w.now _ _ (length c.args.w.now - c.clip.result - 2) c.part-s.ensures c.charset_len-n.ensures)

pub returns-then-not-text : goal.returns-then-not-text
returns-then-not-text c = text_bad _ c.clip.ensures c.part-s.ensures c.charset_len-n.ensures c.byte_at.ensures c.byte_at-2.ensures c.if-not-byte_at.false c.byte_at-3.ensures c.lower-letter.ensures c.part.ensures c.add_text-text.ensures (not-true _ c.if-not-text.true)

pub returns-then-is_utf8_charset : goal.returns-then-is_utf8_charset
returns-then-is_utf8_charset c = text_utf8 _ c.clip.ensures c.part-s.ensures c.charset_len-n.ensures c.byte_at.ensures c.byte_at-2.ensures c.if-not-byte_at.false c.byte_at-3.ensures c.lower-letter.ensures c.part.ensures c.add_text-text.ensures (not-false _ c.if-not-text.false) c.is_utf8_charset.ensures c.if-is_utf8_charset.true

pub returns-else-is_utf8_charset : goal.returns-else-is_utf8_charset
returns-else-is_utf8_charset c = text_other _ c.clip.ensures c.part-s.ensures c.charset_len-n.ensures c.byte_at.ensures c.byte_at-2.ensures c.if-not-byte_at.false c.byte_at-3.ensures c.lower-letter.ensures c.part.ensures c.add_text-text.ensures (not-false _ c.if-not-text.false) c.is_utf8_charset.ensures c.if-is_utf8_charset.false
