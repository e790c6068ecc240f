use Rattle.std.proofs.Common.{length, ◌≡◌, refl, arith}
use Rattle.seg_write.proofs.LoneLines.{lone_line, other_line}
use Rattle.seg_write.proofs.root.lone_pack.Goals as goal
use Rattle.seg_write.proofs.root.lone_pack.Goals.{else-is_zero-via-then-is_zero+then-is_zero-2+else-is_zero-3, else-is_zero-via-then-is_zero+else-is_zero-2, else-is_zero-via-else-is_zero}

pub returns-then-is_zero-3 : goal.returns-then-is_zero-3
returns-then-is_zero-3 c = λ m A L a made f.
    let long : length c.args.line.now.w ≡ 4 = omega arith in
    lone_line m A L c.args.line.now.w a made f long c.in-Pack.is (c.if-is_zero.ensures.word.0 refl) (c.if-is_zero-2.ensures.word.0 refl) (c.if-is_zero-3.ensures.word.0 refl)

pub returns-else-is_zero : goal.returns-else-is_zero
returns-else-is_zero c = λ m A L a made f.
    let long : length c.args.line.now.w ≡ 4 = omega arith in
    other_line m A L c.args.line.now.w a made f long (λ packed x y z. elim c.else-is_zero.branch [
      | else-is_zero-via-then-is_zero+then-is_zero-2+else-is_zero-3 w ↦ let not = w.if-is_zero-3.ensures.word.1 z in cc
      | else-is_zero-via-then-is_zero+else-is_zero-2 w ↦ let not = w.if-is_zero-2.ensures.word.1 y in cc
      | else-is_zero-via-else-is_zero w ↦ let not = w.if-is_zero.ensures.word.1 x in cc
    ])

pub returns-in_default : goal.returns-in_default
returns-in_default c = λ m A L a made f.
    let long : length c.args.line.now.w ≡ 4 = omega arith in
    other_line m A L c.args.line.now.w a made f long (λ packed x y z. c.in_default.not-Pack packed)
