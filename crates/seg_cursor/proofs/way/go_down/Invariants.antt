use Rattle.std.proofs.Common.{length, ◌≡◌, suc, ◌+◌, ◌/◌, ◌^◌, ◌<◌, ◌≤◌}
use Rattle.hic_word.specs.declared.Word.{Word}
use Rattle.hic_word.specs.Values.{Array}
use Rattle.hic_word.specs.Memory.{line_at}
use Rattle.seg_cursor.specs.Pieces.{HasValue}
use Rattle.seg_cursor.specs.Trails.{OnWay, lines_below}
use Rattle.seg_cursor.proofs.way.go_down.Given as goal

abbrev pub invariant-loop-height : goal.invariant-loop-height
invariant-loop-height g l = record {
  low : l.height ≤ l.fn.height;
  long : length l.lines ≡ 16;
  more : l.fn.steps ≤ l.steps;
  looks : l.steps + l.height ≤ l.fn.steps + l.fn.height;
  lines : (root : Word) (A : Array) → OnWay (line_at (g.M.HoldCounts.memory l.mem)) root A l.fn.lines l.offset l.fn.height l.fn.entry
      → l.steps + lines_below A l.offset l.height ≤ l.fn.steps + lines_below A l.offset l.fn.height;
  way : (root : Word) (A : Array) → OnWay (line_at (g.M.HoldCounts.memory l.mem)) root A l.fn.lines l.offset l.fn.height l.fn.entry
      → OnWay (line_at (g.M.HoldCounts.memory l.mem)) root A l.lines l.offset l.height l.entry
      × (l.height < l.fn.height → HasValue A (suc l.height) (l.offset / 4 ^ suc l.height));
}

abbrev pub decreases-loop-height : goal.decreases-loop-height
decreases-loop-height g l = l.height
