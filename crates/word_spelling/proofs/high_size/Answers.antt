use Rattle.word_spelling.specs.HighCharLaws.{as_option, high_past, high_other, high_whole, high_byte, high_char, high_next}
use native.Mathlib.Omega.{arith}
use Prim.Native.Nat.{◌+◌}
use Rattle.word_spelling.proofs.high_size.Goals as goal

pub returns-then-s-i : goal.returns-then-s-i
returns-then-s-i c = as_option (high_past c.args.s.now c.args.i c.if-s-i.true)

pub returns-then-not-size-s : goal.returns-then-not-size-s
returns-then-not-size-s c = as_option (high_other c.args.s.now c.args.i _ c.char_len-size.ensures c.if-not-size-s.true-raw)

pub returns-then-s-j-lt128 : goal.returns-then-s-j-lt128
returns-then-s-j-lt128 c = let w = high_whole c.args.s.now c.args.i _ c.char_len-size.ensures c.if-not-size-s.false-raw in
    as_option (high_byte c.args.s.now c.args.i _ c.char_len-size.ensures c.if-not-size-s.false-raw 1 _ (omega arith) (omega arith) c.if-s-j-lt128.true)

pub returns-then-size-eq2 : goal.returns-then-size-eq2
returns-then-size-eq2 c = let s = c.args.s.now in
    let i = c.args.i in
    let known = c.type_inv.s in
    let w = high_whole c.args.s.now c.args.i _ c.char_len-size.ensures c.if-not-size-s.false-raw in
    as_option (high_char c.args.s.now c.args.i _ c.char_len-size.ensures c.if-not-size-s.false-raw 2 c.if-size-eq2.true (omega (arith, known i)) (λ t. high_next s i 1 (i + 1) (omega arith) (omega arith) c.if-s-j-lt128.false (omega (arith, known (i + 1))) t))

pub returns-then-s-k-lt128 : goal.returns-then-s-k-lt128
returns-then-s-k-lt128 c = let w = high_whole c.args.s.now c.args.i _ c.char_len-size.ensures c.if-not-size-s.false-raw in
    as_option (high_byte c.args.s.now c.args.i _ c.char_len-size.ensures c.if-not-size-s.false-raw 2 _ (omega arith) (omega arith) c.if-s-k-lt128.true)

pub returns-then-size-eq3 : goal.returns-then-size-eq3
returns-then-size-eq3 c = let s = c.args.s.now in
    let i = c.args.i in
    let known = c.type_inv.s in
    let w = high_whole c.args.s.now c.args.i _ c.char_len-size.ensures c.if-not-size-s.false-raw in
    as_option (high_char c.args.s.now c.args.i _ c.char_len-size.ensures c.if-not-size-s.false-raw 3 c.if-size-eq3.true (omega (arith, known i)) (λ t. high_next s i 2 (i + 1 + 1) (omega arith) (omega arith) c.if-s-k-lt128.false (omega (arith, known (i + 1 + 1)))
    (high_next s i 1 (i + 1) (omega arith) (omega arith) c.if-s-j-lt128.false (omega (arith, known (i + 1))) t)))

pub returns-then-s-k-lt128-2 : goal.returns-then-s-k-lt128-2
returns-then-s-k-lt128-2 c = let w = high_whole c.args.s.now c.args.i _ c.char_len-size.ensures c.if-not-size-s.false-raw in
    as_option (high_byte c.args.s.now c.args.i _ c.char_len-size.ensures c.if-not-size-s.false-raw 3 _ (omega arith) (omega arith) c.if-s-k-lt128-2.true)

pub returns : goal.returns
returns c = let s = c.args.s.now in
    let i = c.args.i in
    let known = c.type_inv.s in
    let w = high_whole c.args.s.now c.args.i _ c.char_len-size.ensures c.if-not-size-s.false-raw in
    as_option (high_char c.args.s.now c.args.i _ c.char_len-size.ensures c.if-not-size-s.false-raw 4 (omega arith) (omega (arith, known i)) (λ t. high_next s i 3 (i + 1 + 1 + 1) (omega arith) (omega arith) c.if-s-k-lt128-2.false (omega (arith, known (i + 1 + 1 + 1)))
    (high_next s i 2 (i + 1 + 1) (omega arith) (omega arith) c.if-s-k-lt128.false (omega (arith, known (i + 1 + 1)))
    (high_next s i 1 (i + 1) (omega arith) (omega arith) c.if-s-j-lt128.false (omega (arith, known (i + 1))) t))))
